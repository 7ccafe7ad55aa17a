-- The words of four blocks in lanes: how a table of them grows.
use Rattle.std.proofs.Common.{◌≡◌, ℕ, ◌+◌, ◌-◌, ◌*◌, ◌/◌, ◌%◌, ◌^◌, ◌<◌, ◌≤◌, List, [], ◌∷◌, length, slice_index, slice_set, bit_or, bit_xor, refl, sym, ap, ◌∙◌, arith}
use Rattle.std.proofs.lemmas.List.{get_or-set_same}
use Rattle.std.proofs.lemmas.Simd.{get_or-zip2, length-zip2}
use Rattle.std.specs.Simd.Lanes.{zip2}
use Rattle.std.specs.Int.{w32, rotate_right}
use Rattle.sha2.specs.Sha256.{add32, round_constants, schedule, small_sigma0, small_sigma1, word_at}
use Rattle.sha2.proofs.Schedule256.{slice_index-schedule_first, slice_index-schedule_next}
use Rattle.base_sha.specs.Blocks.{block}
use Rattle.base_sha.specs.Lanes.{lane}
use Rattle.base_sha.specs.Lanes256.{AreWords, AreKeyed, IsKeyed, IsSpread}
use Rattle.base_sha.proofs.Lanes.{below_four, four_lanes, more_lanes, word_in_block}

-- the words that are the block's own
pub first_lanes : (table : List (List ℕ)) (group word : List ℕ) (t : ℕ) → t < 16 → length table ≡ 64 → AreWords table group t
    → ((j : ℕ) → j < 4 → slice_index word j ≡ word_at group (4 * t + 64 * j)) → AreWords (slice_set table t word) group (t + 1)
first_lanes table group word t lt long held at =
    more_lanes (λ s j x. x ≡ slice_index (schedule (block group j) 48) s) table t word (omega arith) held
    (λ j jlt. at j jlt ∙ word_in_block group t j lt ∙ sym (slice_index-schedule_first (block group j) 48 t lt))

-- those that follow from the words before them
pub next_lanes : (table : List (List ℕ)) (group word : List ℕ) (t : ℕ) → 16 ≤ t → t < 64 → length table ≡ 64 → AreWords table group t
    → ((j : ℕ) → j < 4 → slice_index word j
    ≡ add32 (add32 (add32 (small_sigma1 (lane table (t - 2) j)) (lane table (t - 7) j)) (small_sigma0 (lane table (t - 15) j))) (lane table (t - 16) j))
    → AreWords (slice_set table t word) group (t + 1)
next_lanes table group word t ge lt long held at =
    more_lanes (λ s j x. x ≡ slice_index (schedule (block group j) 48) s) table t word (omega arith) held
    (λ j jlt. at j jlt ∙ rw (held (t - 2) j (omega arith) jlt, held (t - 7) j (omega arith) jlt, held (t - 15) j (omega arith) jlt, held (t - 16) j (omega arith) jlt)
    (sym (slice_index-schedule_next (block group j) 48 t ge (omega arith))))

-- the words with their constants
pub keyed_lanes : (keyed table : List (List ℕ)) (group word sum : List ℕ) (t k : ℕ) → t < 64 → length table ≡ 64 → length keyed ≡ 64 → AreKeyed keyed group t
    → AreWords (slice_set table t word) group (t + 1) → k ≡ slice_index round_constants t → ((j : ℕ) → j < 4 → slice_index sum j ≡ add32 (slice_index word j) k)
    → AreKeyed (slice_set keyed t sum) group (t + 1)
keyed_lanes keyed table group word sum t k lt long also held words ek at =
    more_lanes (λ s j x. x ≡ add32 (slice_index (schedule (block group j) 48) s) (slice_index round_constants s)) keyed t sum (omega arith) held (λ j jlt.
    let same : slice_index word j ≡ slice_index (schedule (block group j) 48) t =
    ap (λ (x : List ℕ). slice_index x j) (sym (get_or-set_same table t word [] (omega arith))) ∙ words t j (omega arith) jlt in
    at j jlt ∙ rw (same, ek) refl)

-- a lane of the tables of a group
pub column : (keyed : List (List ℕ)) (group : List ℕ) (j : ℕ) → j < 4 → AreKeyed keyed group 64 → IsKeyed keyed j (schedule (block group j) 48)
column keyed group j jlt held = λ t lt. held t j lt jlt

pub length_zipped : (f : ℕ → ℕ → ℕ) (a b : List ℕ) → length a ≡ 4 → length b ≡ 4 → length (zip2 f a b) ≡ 4
length_zipped f a b la lb = length-zip2 f a b (omega arith) ∙ la

-- the lanes of a turned vector
abbrev Turns : ℕ → List ℕ → Type 0
Turns k a = (j : ℕ) → j < 4
    → slice_index (zip2 bit_or
    (zip2 (λ x n. x / 2 ^ n) a (k ∷ k ∷ k ∷ k ∷ []))
    (zip2 (λ x n. x * 2 ^ n % 2 ^ 32) a ((32 - k) ∷ (32 - k) ∷ (32 - k) ∷ (32 - k) ∷ []))) j
    ≡ bit_or (slice_index a j / 2 ^ k) (slice_index a j * 2 ^ (32 - k) % 2 ^ 32)

pub turned_lanes : (k : ℕ) (a : List ℕ) → length a ≡ 4 → Turns k a
turned_lanes k = four_lanes (Turns k) (λ a b c d. below_four _ refl refl refl refl)

pub turned_by : (x k : ℕ) → 0 < k → k < 32 → bit_or (x / 2 ^ k) (x * 2 ^ (32 - k) % 2 ^ 32) ≡ rotate_right w32 x k
turned_by x k low high =
    let by : k % 32 ≡ k = omega arith in
    let rest : (32 - k) % 32 ≡ 32 - k = omega arith in
    rw (by, rest) refl

-- the lanes of a vector moved right
abbrev Moves : ℕ → List ℕ → Type 0
Moves k a = (j : ℕ) → j < 4 → slice_index (zip2 (λ x n. x / 2 ^ n) a (k ∷ k ∷ k ∷ k ∷ [])) j ≡ slice_index a j / 2 ^ k

moved_lanes : (k : ℕ) (a : List ℕ) → length a ≡ 4 → Moves k a
moved_lanes k = four_lanes (Moves k) (λ a b c d. below_four _ refl refl refl refl)

-- two turned vectors and a moved one, taken together
pub mixed_lanes : (f g : ℕ → ℕ) (k : ℕ) (a b x : List ℕ) → length a ≡ 4 → length b ≡ 4 → length x ≡ 4
    → ((j : ℕ) → j < 4 → slice_index a j ≡ f (slice_index x j)) → ((j : ℕ) → j < 4 → slice_index b j ≡ g (slice_index x j)) → (j : ℕ) → j < 4
    → slice_index (zip2 bit_xor (zip2 bit_xor a b) (zip2 (λ y n. y / 2 ^ n) x (k ∷ k ∷ k ∷ k ∷ []))) j
    ≡ bit_xor (bit_xor (f (slice_index x j)) (g (slice_index x j))) (slice_index x j / 2 ^ k)
mixed_lanes f g k a b x la lb lx ea eb j lt =
    let two : length (zip2 bit_xor a b) ≡ 4 = length_zipped bit_xor a b la lb in
    let last : List ℕ = zip2 (λ y n. y / 2 ^ n) x (k ∷ k ∷ k ∷ k ∷ []) in
    let long : length last ≡ 4 = length_zipped (λ y n. y / 2 ^ n) x (k ∷ k ∷ k ∷ k ∷ []) lx refl in
    get_or-zip2 bit_xor (zip2 bit_xor a b) last j 0 0 0 (omega arith) (omega arith)
    ∙ rw (get_or-zip2 bit_xor a b j 0 0 0 (omega arith) (omega arith), ea j lt, eb j lt, moved_lanes k x lx j lt) refl

-- the lanes of four vectors, added up
pub summed_lanes : (a b c d : List ℕ) → length a ≡ 4 → length b ≡ 4 → length c ≡ 4 → length d ≡ 4 → (j : ℕ) → j < 4
    → slice_index (zip2 add32 (zip2 add32 (zip2 add32 a b) c) d) j ≡ add32 (add32 (add32 (slice_index a j) (slice_index b j)) (slice_index c j)) (slice_index d j)
summed_lanes a b c d la lb lc ld j lt =
    let two : length (zip2 add32 a b) ≡ 4 = length_zipped add32 a b la lb in
    let three : length (zip2 add32 (zip2 add32 a b) c) ≡ 4 = length_zipped add32 (zip2 add32 a b) c two lc in
    get_or-zip2 add32 (zip2 add32 (zip2 add32 a b) c) d j 0 0 0 (omega arith) (omega arith)
    ∙ ap (λ (x : ℕ). add32 x (slice_index d j)) (get_or-zip2 add32 (zip2 add32 a b) c j 0 0 0 (omega arith) (omega arith)
    ∙ ap (λ (x : ℕ). add32 x (slice_index c j)) (get_or-zip2 add32 a b j 0 0 0 (omega arith) (omega arith)))

pub spread_at : (words keyed : List (List ℕ)) (group : List ℕ) (t n : ℕ) → t ≡ n → IsSpread words keyed group t → IsSpread words keyed group n
spread_at words keyed group t n e held = rw (← e) held
