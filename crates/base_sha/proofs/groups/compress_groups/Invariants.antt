use Rattle.std.proofs.Common.{◌≡◌, ◌*◌}
use Rattle.base_sha.specs.Blocks.{compressed}
use Rattle.base_sha.proofs.groups.compress_groups.Given as goal

abbrev pub invariant-loop-i : goal.invariant-loop-i
invariant-loop-i g l =
    g.V.HashValue.words l.value ≡ compressed g.V.HashValue.compress (g.V.HashValue.words l.hash) l.groups (4 * l.i)
