use Rattle.std.proofs.Common.{◌≡◌, ℕ, List}
use Rattle.base_sha.specs.Blocks.{compressed}
use Rattle.base_sha.proofs.groups.compress_blocks.Given as goal

abbrev pub invariant-loop-j : goal.invariant-loop-j
invariant-loop-j g l = (group : List ℕ) → g.V.HashValue.are_keyed l.keyed group
    → g.V.HashValue.words l.hash ≡ compressed g.V.HashValue.compress (g.V.HashValue.words l.fn.hash) group l.j
