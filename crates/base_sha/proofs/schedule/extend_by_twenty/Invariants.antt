use Rattle.std.proofs.Common.{ℕ, List, ◌+◌, ◌*◌}
use Rattle.base_sha.specs.Lanes.{IsSpread}
use Rattle.base_sha.proofs.schedule.extend_by_twenty.Given as goal

abbrev pub invariant-loop-turn : goal.invariant-loop-turn
invariant-loop-turn l = (group : List ℕ) → IsSpread l.fn.words l.fn.keyed group l.from → IsSpread l.words l.keyed group (l.from + 5 * l.turn)
