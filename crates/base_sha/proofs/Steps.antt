-- One round more (FIPS 180-4, section 6.1.2, step 3), by its word and constant as one sum.
use Rattle.std.proofs.Common.{◌≡◌, ◌⊎◌, ℕ, ◌+◌, ◌<◌, ◌≤◌, List, slice_index, refl, sym, ◌∙◌, inl, inr}
use Rattle.sha1.specs.Sha1.{add32, ch, parity, maj, round, round_fn, round_constant, rounds}
use Rattle.sha1.proofs.Schedule.{rounds_next, round_fn_choose, round_fn_parity, round_fn_majority, round_fn_last}

step : (h ws v next : List ℕ) (t n f x : ℕ) → n ≡ t + 1 → v ≡ rounds h ws t
    → f ≡ round_fn t (slice_index v 1) (slice_index v 2) (slice_index v 3) → x ≡ add32 (slice_index ws t) (round_constant t)
    → ((k w : ℕ) → x ≡ add32 w k → next ≡ round v f k w) → next ≡ rounds h ws n
step h ws v next t n f x en ev ef ex made =
    made (round_constant t) (slice_index ws t) ex ∙ rw (en, rounds_next h ws t, ← ev, ef) refl

pub choose_step : (h ws v next : List ℕ) (t n x : ℕ) → t < 20 → n ≡ t + 1 → v ≡ rounds h ws t → x ≡ add32 (slice_index ws t) (round_constant t)
    → ((k w : ℕ) → x ≡ add32 w k → next ≡ round v (ch (slice_index v 1) (slice_index v 2) (slice_index v 3)) k w) → next ≡ rounds h ws n
choose_step h ws v next t n x lt en ev ex made =
    step h ws v next t n _ x en ev (sym (round_fn_choose t (slice_index v 1) (slice_index v 2) (slice_index v 3) lt)) ex made

pub parity_step : (h ws v next : List ℕ) (t n x : ℕ) → ((20 ≤ t) × (t < 40)) ⊎ (60 ≤ t) → n ≡ t + 1 → v ≡ rounds h ws t → x ≡ add32 (slice_index ws t) (round_constant t)
    → ((k w : ℕ) → x ≡ add32 w k → next ≡ round v (parity (slice_index v 1) (slice_index v 2) (slice_index v 3)) k w) → next ≡ rounds h ws n
parity_step h ws v next t n x at en ev ex made =
    let f : parity (slice_index v 1) (slice_index v 2) (slice_index v 3) ≡ round_fn t (slice_index v 1) (slice_index v 2) (slice_index v 3) = elim at [
      | inl early ↦ sym (round_fn_parity t (slice_index v 1) (slice_index v 2) (slice_index v 3) early.0 early.1)
      | inr late ↦ sym (round_fn_last t (slice_index v 1) (slice_index v 2) (slice_index v 3) late)
    ] in
    step h ws v next t n _ x en ev f ex made

pub majority_step : (h ws v next : List ℕ) (t n x : ℕ) → 40 ≤ t → t < 60 → n ≡ t + 1 → v ≡ rounds h ws t → x ≡ add32 (slice_index ws t) (round_constant t)
    → ((k w : ℕ) → x ≡ add32 w k → next ≡ round v (maj (slice_index v 1) (slice_index v 2) (slice_index v 3)) k w) → next ≡ rounds h ws n
majority_step h ws v next t n x ge lt en ev ex made =
    step h ws v next t n _ x en ev (sym (round_fn_majority t (slice_index v 1) (slice_index v 2) (slice_index v 3) ge lt)) ex made

pub rounds_none : (h ws : List ℕ) → h ≡ rounds h ws 0
unfolding rounds
rounds_none h ws = refl

pub rounds_at : (h ws v : List ℕ) (t n : ℕ) → t ≡ n → v ≡ rounds h ws t → v ≡ rounds h ws n
rounds_at h ws v t n e held = rw (← e) held
