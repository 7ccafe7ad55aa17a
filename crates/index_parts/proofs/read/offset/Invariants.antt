use Rattle.std.proofs.Common.{◌≡◌, drop}
use Rattle.index_parts.specs.ReadingSteps.{offset_from, offset_at}
use Rattle.index_parts.proofs.read.offset.Given as goal

abbrev pub invariant-loop-i : goal.invariant-loop-i
invariant-loop-i l = offset_from l.value (drop l.i l.bytes) ≡ offset_at l.bytes
