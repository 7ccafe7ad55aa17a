use Rattle.std.proofs.Common.{◌≡◌, take}
use Rattle.std.specs.List.{flat_map}
use Rattle.index_parts.specs.Taking.{Took}
use Rattle.ext_small.specs.ResolveUndo.{path_stages}
use Rattle.ext_encode.specs.ResolveUndoImage.{path_bytes}
use Rattle.ext_encode.proofs.resolve_undo.put_paths.Given as goal

-- the ones before this one were taken
abbrev pub invariant-loop-path : goal.invariant-loop-path
invariant-loop-path g l = record {
  going : g.W.Out.failed l.out ≡ g.W.Out.failed l.fn.out;
  loan : g.W.Out.loan l.out ≡ g.W.Out.loan l.fn.out;
  so_far : Took g.W.Out.taken g.W.Out.hashed l.fn.out l.out (flat_map (λ p. path_bytes (path_stages p)) (take l.path-index l.paths));
}
