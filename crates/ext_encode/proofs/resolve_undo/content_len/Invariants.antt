use Rattle.std.proofs.Common.{◌≡◌, ◌<◌, ◌^◌, take, length}
use Rattle.std.specs.List.{flat_map}
use Rattle.ext_small.specs.ResolveUndo.{path_stages}
use Rattle.ext_encode.specs.ResolveUndoImage.{path_bytes}
use Rattle.ext_encode.proofs.resolve_undo.content_len.Given as goal

-- the length of the paths before this one, which 32 bits count
abbrev pub invariant-loop-path : goal.invariant-loop-path
invariant-loop-path l = record {
  so_far : l.len ≡ length (flat_map (λ p. path_bytes (path_stages p)) (take l.path-index l.paths));
  small : l.len < 2 ^ 32;
}
