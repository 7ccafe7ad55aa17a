-- The words of four blocks in lanes: how a table of them grows.
use Rattle.std.proofs.Common.{◌≡◌, ◌≢◌, ℕ, zero, suc, ◌+◌, ◌-◌, ◌*◌, ◌/◌, ◌%◌, ◌^◌, ◌<◌, ◌≤◌, List, [], ◌∷◌, length, slice_index, slice_set, bit_or, bit_xor, refl, sym, ap, ◌∙◌, arith, inl, inr}
use Rattle.std.proofs.lemmas.List.{get_or-set_same, get_or-set_other}
use Rattle.std.proofs.lemmas.Simd.{get_or-chunk, get_or-zip2, length-zip2}
use Rattle.std.specs.Simd.Lanes.{zip2}
use Rattle.std.proofs.lemmas.Bool.{cases_lt}
use Rattle.std.specs.Int.{w32, rotate_left}
use Rattle.sha1.specs.Sha1.{add32, round_constant, schedule, word_at}
use Rattle.sha1.proofs.Schedule.{slice_index-schedule_first, slice_index-schedule_next}
use Rattle.base_sha.specs.Blocks.{block}
use Rattle.base_sha.specs.Lanes.{lane, AreWords, AreKeyed, IsKeyed, IsSpread}

-- a table with one word more
pub more_lanes : (P : ℕ → ℕ → ℕ → Type 0) (table : List (List ℕ)) (t : ℕ) (word : List ℕ) → t < length table
    → ((s j : ℕ) → s < t → j < 4 → P s j (lane table s j)) → ((j : ℕ) → j < 4 → P t j (slice_index word j))
    → (s j : ℕ) → s < t + 1 → j < 4 → P s j (lane (slice_set table t word) s j)
more_lanes P table t word fits held at s j lt jlt = elim (cases_lt s t) [
  | inl a ↦
      let ne : s ≢ t = omega arith in
      rw (get_or-set_other table t s word [] ne) (held s j a jlt)
  | inr b ↦
      let e : s ≡ t = omega arith in
      rw (e, get_or-set_same table t word [] fits) (at j jlt)
]

-- a word of a block is that of its group, at the block's place
pub word_in_block : (group : List ℕ) (i j : ℕ) → i < 16 → word_at group (4 * i + 64 * j) ≡ word_at (block group j) (4 * i)
word_in_block group i j lt =
    let at : (k : ℕ) → k < 4 → slice_index group (4 * i + 64 * j + k) ≡ slice_index (block group j) (4 * i + k) = λ k h.
    ap (λ (n : ℕ). slice_index group n) (omega arith) ∙ sym (get_or-chunk (j * 64) 64 group (4 * i + k) 0 (omega arith)) in
    let first : slice_index group (4 * i + 64 * j) ≡ slice_index (block group j) (4 * i) =
    ap (λ (n : ℕ). slice_index group n) (omega arith) ∙ sym (get_or-chunk (j * 64) 64 group (4 * i) 0 (omega arith)) in
    rw (first, at 1 (omega arith), at 2 (omega arith), at 3 (omega arith)) refl

-- the words that are the block's own
pub first_lanes : (table : List (List ℕ)) (group word : List ℕ) (t : ℕ) → t < 16 → length table ≡ 80 → AreWords table group t
    → ((j : ℕ) → j < 4 → slice_index word j ≡ word_at group (4 * t + 64 * j)) → AreWords (slice_set table t word) group (t + 1)
first_lanes table group word t lt long held at =
    more_lanes (λ s j x. x ≡ slice_index (schedule (block group j) 64) s) table t word (omega arith) held
    (λ j jlt. at j jlt ∙ word_in_block group t j lt ∙ sym (slice_index-schedule_first (block group j) 64 t lt))

-- those that follow from the words before them
pub next_lanes : (table : List (List ℕ)) (group word : List ℕ) (t : ℕ) → 16 ≤ t → t < 80 → length table ≡ 80 → AreWords table group t
    → ((j : ℕ) → j < 4 → slice_index word j
    ≡ rotate_left w32 (bit_xor (bit_xor (bit_xor (lane table (t - 3) j) (lane table (t - 8) j)) (lane table (t - 14) j)) (lane table (t - 16) j)) 1)
    → AreWords (slice_set table t word) group (t + 1)
next_lanes table group word t ge lt long held at =
    more_lanes (λ s j x. x ≡ slice_index (schedule (block group j) 64) s) table t word (omega arith) held
    (λ j jlt. at j jlt ∙ rw (held (t - 3) j (omega arith) jlt, held (t - 8) j (omega arith) jlt, held (t - 14) j (omega arith) jlt, held (t - 16) j (omega arith) jlt)
    (sym (slice_index-schedule_next (block group j) 64 t ge (omega arith))))

-- the words with their constants
pub keyed_lanes : (keyed table : List (List ℕ)) (group word sum : List ℕ) (t k : ℕ) → t < 80 → length table ≡ 80 → length keyed ≡ 80 → AreKeyed keyed group t
    → AreWords (slice_set table t word) group (t + 1) → k ≡ round_constant t → ((j : ℕ) → j < 4 → slice_index sum j ≡ add32 (slice_index word j) k)
    → AreKeyed (slice_set keyed t sum) group (t + 1)
keyed_lanes keyed table group word sum t k lt long also held words ek at =
    more_lanes (λ s j x. x ≡ add32 (slice_index (schedule (block group j) 64) s) (round_constant s)) keyed t sum (omega arith) held (λ j jlt.
    let same : slice_index word j ≡ slice_index (schedule (block group j) 64) t =
    ap (λ (x : List ℕ). slice_index x j) (sym (get_or-set_same table t word [] (omega arith))) ∙ words t j (omega arith) jlt in
    at j jlt ∙ rw (same, ek) refl)

-- a lane of the tables of a group
pub column : (keyed : List (List ℕ)) (group : List ℕ) (j : ℕ) → j < 4 → AreKeyed keyed group 80 → IsKeyed keyed j (schedule (block group j) 64)
column keyed group j jlt held = λ t lt. held t j lt jlt

-- the lanes of a turned vector
pub below_four : (P : ℕ → Type 0) → P 0 → P 1 → P 2 → P 3 → (j : ℕ) → j < 4 → P j
below_four P p0 p1 p2 p3 zero h = p0
below_four P p0 p1 p2 p3 (suc zero) h = p1
below_four P p0 p1 p2 p3 (suc (suc zero)) h = p2
below_four P p0 p1 p2 p3 (suc (suc (suc zero))) h = p3
below_four P p0 p1 p2 p3 (suc (suc (suc (suc n)))) h = absurd (omega arith)

pub four_lanes : (P : List ℕ → Type 0) → ((a b c d : ℕ) → P (a ∷ b ∷ c ∷ d ∷ [])) → (xs : List ℕ) → length xs ≡ 4 → P xs
four_lanes P p (a ∷ b ∷ c ∷ d ∷ []) h = p a b c d
four_lanes P p [] h = absurd (omega arith)
four_lanes P p (a ∷ []) h = absurd (omega arith)
four_lanes P p (a ∷ b ∷ []) h = absurd (omega arith)
four_lanes P p (a ∷ b ∷ c ∷ []) h = absurd (omega arith)
four_lanes P p (a ∷ b ∷ c ∷ d ∷ e ∷ xs) h = absurd (omega arith)

abbrev Turns : List ℕ → Type 0
Turns a = (j : ℕ) → j < 4
    → slice_index (zip2 bit_or
    (zip2 (λ x n. x * 2 ^ n % 2 ^ 32) a (1 ∷ 1 ∷ 1 ∷ 1 ∷ []))
    (zip2 (λ x n. x / 2 ^ n) a (31 ∷ 31 ∷ 31 ∷ 31 ∷ []))) j
    ≡ rotate_left w32 (slice_index a j) 1

pub turned_lanes : (a : List ℕ) → length a ≡ 4 → Turns a
turned_lanes = four_lanes Turns (λ a b c d. below_four _ refl refl refl refl)

-- the lanes of four vectors, taken together
pub mixed_lanes : (a b c d : List ℕ) → length a ≡ 4 → length b ≡ 4 → length c ≡ 4 → length d ≡ 4 → (j : ℕ) → j < 4
    → slice_index (zip2 bit_xor (zip2 bit_xor (zip2 bit_xor a b) c) d) j ≡ bit_xor (bit_xor (bit_xor (slice_index a j) (slice_index b j)) (slice_index c j)) (slice_index d j)
mixed_lanes a b c d la lb lc ld j lt =
    let two : length (zip2 bit_xor a b) ≡ 4 = length-zip2 bit_xor a b (omega arith) ∙ la in
    let three : length (zip2 bit_xor (zip2 bit_xor a b) c) ≡ 4 = length-zip2 bit_xor (zip2 bit_xor a b) c (omega arith) ∙ two in
    get_or-zip2 bit_xor (zip2 bit_xor (zip2 bit_xor a b) c) d j 0 0 0 (omega arith) (omega arith)
    ∙ ap (λ (x : ℕ). bit_xor x (slice_index d j)) (get_or-zip2 bit_xor (zip2 bit_xor a b) c j 0 0 0 (omega arith) (omega arith)
    ∙ ap (λ (x : ℕ). bit_xor x (slice_index c j)) (get_or-zip2 bit_xor a b j 0 0 0 (omega arith) (omega arith)))

pub spread_at : (words keyed : List (List ℕ)) (group : List ℕ) (t n : ℕ) → t ≡ n → IsSpread words keyed group t → IsSpread words keyed group n
spread_at words keyed group t n e held = rw (← e) held
