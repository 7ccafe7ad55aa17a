use Rattle.std.proofs.Common.{◌≡◌, ◌++◌, ◌∷◌, [], ◌<◌, ◌^◌, take, length}
use Rattle.bstr.specs.Owned.{bstring_bytes}
use Rattle.std.specs.List.{flat_map}
use Rattle.ext_encode.proofs.untracked_sizes.names_len.Given as goal

-- the length of the names before this one, which 32 bits count
abbrev pub invariant-loop-name : goal.invariant-loop-name
invariant-loop-name l = record {
  so_far : l.len ≡ length (flat_map (λ name. bstring_bytes name ++ 0 ∷ []) (take l.name-index l.names));
  small : l.len < 2 ^ 32;
}
