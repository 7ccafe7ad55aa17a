use Rattle.std.proofs.Common.{◌≡◌, ℕ, List, ◌*◌}
use Rattle.sha2.specs.Sha256.{rounds}
use Rattle.base_sha.specs.Lanes256.{IsKeyed}
use Rattle.base_sha.proofs.sha256.rounds.all_rounds.Given as goal

abbrev pub invariant-loop-turn : goal.invariant-loop-turn
invariant-loop-turn l = (h ws : List ℕ) → IsKeyed l.keyed l.j ws → l.fn.v ≡ h → l.v ≡ rounds h ws (8 * l.turn)
