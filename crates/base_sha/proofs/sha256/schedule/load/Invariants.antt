use Rattle.std.proofs.Common.{◌≡◌, length}
use Rattle.base_sha.specs.Lanes256.{IsSpread}
use Rattle.base_sha.proofs.sha256.schedule.load.Given as goal

abbrev pub invariant-loop-i : goal.invariant-loop-i
invariant-loop-i l = (length l.words ≡ 64) × (length l.keyed ≡ 64) × IsSpread l.words l.keyed l.group l.i
