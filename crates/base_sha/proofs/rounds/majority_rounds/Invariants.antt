use Rattle.std.proofs.Common.{◌≡◌, ℕ, List, ◌+◌, ◌*◌}
use Rattle.sha1.specs.Sha1.{rounds}
use Rattle.base_sha.specs.Lanes.{IsKeyed}
use Rattle.base_sha.proofs.rounds.majority_rounds.Given as goal

abbrev pub invariant-loop-turn : goal.invariant-loop-turn
invariant-loop-turn l = (h ws : List ℕ) → IsKeyed l.keyed l.j ws → l.fn.v ≡ rounds h ws 40 → l.v ≡ rounds h ws (40 + 5 * l.turn)
