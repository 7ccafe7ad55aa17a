-- One round more (FIPS 180-4, section 6.2.2, step 3), by its word and constant as one sum.
use Rattle.std.proofs.Common.{◌≡◌, ℕ, ◌+◌, List, slice_index, refl, ◌∙◌}
use Rattle.sha2.specs.Sha256.{add32, round, round_constants, rounds}
use Rattle.sha2.proofs.Schedule256.{rounds_next}

pub step : (h ws v next : List ℕ) (t n x : ℕ) → n ≡ t + 1 → v ≡ rounds h ws t → x ≡ add32 (slice_index ws t) (slice_index round_constants t)
    → ((k w : ℕ) → x ≡ add32 w k → next ≡ round v k w) → next ≡ rounds h ws n
step h ws v next t n x en ev ex made =
    made (slice_index round_constants t) (slice_index ws t) ex ∙ rw (en, rounds_next h ws t, ← ev) refl

pub rounds_none : (h ws v : List ℕ) → v ≡ h → v ≡ rounds h ws 0
unfolding rounds
rounds_none h ws v e = e

pub rounds_at : (h ws v : List ℕ) (t n : ℕ) → t ≡ n → v ≡ rounds h ws t → v ≡ rounds h ws n
rounds_at h ws v t n e held = rw (← e) held
