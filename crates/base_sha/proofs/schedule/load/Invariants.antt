use Rattle.std.proofs.Common.{◌≡◌, length}
use Rattle.base_sha.specs.Lanes.{IsSpread}
use Rattle.base_sha.proofs.schedule.load.Given as goal

abbrev pub invariant-loop-i : goal.invariant-loop-i
invariant-loop-i l = (length l.words ≡ 80) × (length l.keyed ≡ 80) × IsSpread l.words l.keyed l.group l.i
