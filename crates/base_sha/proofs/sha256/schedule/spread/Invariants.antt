use Rattle.std.proofs.Common.{◌*◌}
use Rattle.base_sha.specs.Lanes256.{IsSpread}
use Rattle.base_sha.proofs.sha256.schedule.spread.Given as goal

abbrev pub invariant-loop-turn : goal.invariant-loop-turn
invariant-loop-turn l = IsSpread l.words l.keyed l.group (4 * l.turn)
