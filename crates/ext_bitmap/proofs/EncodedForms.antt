-- The compressed form of words: its run words, and the position of the last one.
use Rattle.std.proofs.Common.{◌≡◌, ℕ, suc, ◌+◌, ◌-◌, ◌*◌, ◌/◌, ◌%◌, ◌^◌, ◌<◌, ◌≤◌, Bool, true, false, eqb}
use Rattle.std.proofs.Common.{List, [], ◌∷◌, ◌++◌, length, drop, refl, sym, ap, subst, ◌∙◌, arith}
use Rattle.std.proofs.Common.{length-append}
use Rattle.std.specs.List.{flat_map}
use Rattle.std.proofs.lemmas.Grind.{flat_map-append}
use Rattle.std.proofs.lemmas.List.{drop_at}
use Rattle.ext_bitmap.specs.Bits.{literal_count}
use Rattle.ext_bitmap.specs.BitmapImage.{be64, last_run, bitmap_bytes}
use Rattle.ext_bitmap.specs.EncodedBitmap.{Marked, with_run_word, with_literal, with_word, as_runs, run_word}
use Rattle.ext_bitmap.specs.EncodedBitmap.{marked_words, encoded_words, bitmap_of_words}
use Rattle.ext_bitmap.specs.EncodingSteps.{last_behind}
use Rattle.ext_bitmap.proofs.WrittenBitmaps.{run_ends, run_next, no_run, bitmap_len}

-- ---- words, or none

pub encoded_some : (words : List ℕ) → (length words ≡ 0 → ⊥)
    → flat_map marked_words (as_runs words) ≡ encoded_words words
unfolding encoded_words
encoded_some [] h = absurd (h refl)
encoded_some (word ∷ words) h = refl

pub encoded_none : (words : List ℕ) → length words ≡ 0 → encoded_words words ≡ 0 ∷ []
unfolding encoded_words
encoded_none [] h = refl
encoded_none (word ∷ words) h = absurd (omega (arith, h))

pub one_run : last_run (0 ∷ []) ≡ 0
one_run = run_ends 0 [] (omega arith)

-- ---- run words have room for what they count

-- the bits are bits, and the numbers at most this one
abbrev pub AreWithin : ℕ → List Marked → Type 0
AreWithin most [] = Unit {0}
AreWithin most (m ∷ ms) = (m.bit < 2) × (m.repetitions ≤ most) × (length m.literals ≤ most) × AreWithin most ms

more_within : (most : ℕ) (ms : List Marked) → AreWithin most ms → AreWithin (suc most) ms
more_within most [] h = tt
more_within most (m ∷ ms) h = (h.0, omega (arith, h.1), omega (arith, h.2), more_within most ms h.3)

run_within : (bit most : ℕ) (m : Marked) (ms : List Marked) (s t : Bool) → bit < 2 → eqb m.repetitions 0 ≡ s
    → eqb m.bit bit ≡ t → AreWithin most (m ∷ ms) → AreWithin (suc most) (with_run_word bit (m ∷ ms))
unfolding with_run_word
run_within bit most m ms true t lt e f h =
    rw e (lt, omega arith, omega (arith, h.2), more_within most ms h.3)
run_within bit most m ms false true lt e f h =
    rw (e, f) (lt, omega (arith, h.1), omega (arith, h.2), more_within most ms h.3)
run_within bit most m ms false false lt e f h =
    rw (e, f) (lt, omega arith, omega arith, more_within most (m ∷ ms) h)

runs_within : (bit most : ℕ) (ms : List Marked) → bit < 2 → AreWithin most ms
    → AreWithin (suc most) (with_run_word bit ms)
unfolding with_run_word
runs_within bit most [] lt h = (lt, omega arith, omega arith, tt)
runs_within bit most (m ∷ ms) lt h = run_within bit most m ms (eqb m.repetitions 0) (eqb m.bit bit) lt refl refl h

literal_within : (word most : ℕ) (m : Marked) (ms : List Marked) (s : Bool) → eqb m.repetitions 0 ≡ s
    → AreWithin most (m ∷ ms) → AreWithin (suc most) (with_literal word (m ∷ ms))
unfolding with_literal
literal_within word most m ms true e h =
    rw e (omega arith, omega arith, omega (arith, h.2), more_within most ms h.3)
literal_within word most m ms false e h =
    rw e (omega arith, omega arith, omega arith, more_within most (m ∷ ms) h)

literals_within : (word most : ℕ) (ms : List Marked) → AreWithin most ms → AreWithin (suc most) (with_literal word ms)
unfolding with_literal
literals_within word most [] h = (omega arith, omega arith, omega arith, tt)
literals_within word most (m ∷ ms) h = literal_within word most m ms (eqb m.repetitions 0) refl h

word_within : (word most : ℕ) (ms : List Marked) (s t : Bool) → eqb word 0 ≡ s → eqb word (2 ^ 64 - 1) ≡ t
    → AreWithin most ms → AreWithin (suc most) (with_word word ms)
unfolding with_word
word_within word most ms true t e f h = rw e (runs_within 0 most ms (omega arith) h)
word_within word most ms false true e f h = rw (e, f) (runs_within 1 most ms (omega arith) h)
word_within word most ms false false e f h = rw (e, f) (literals_within word most ms h)

pub marked_within : (words : List ℕ) → AreWithin (length words) (as_runs words)
unfolding as_runs
marked_within [] = tt
marked_within (word ∷ words) =
    word_within word (length words) (as_runs words) (eqb word 0) (eqb word (2 ^ 64 - 1)) refl refl (marked_within words)

-- a run word's parts
pub run_parts : (m : Marked) (most : ℕ) → most < 2 ^ 31 → m.bit < 2 → m.repetitions ≤ most → length m.literals ≤ most
    → (run_word m % 2 ≡ m.bit) × (run_word m / 2 % 2 ^ 32 ≡ m.repetitions)
    × (literal_count (run_word m) ≡ length m.literals) × (run_word m < 2 ^ 64)
run_parts m most lt b r l =
    (omega (arith, b), omega (arith, b, r, lt), omega (arith, b, r, lt), omega (arith, b, r, l, lt))

-- ---- the last run word

pub last_is : (ms : List Marked) (m : Marked) (most before last : ℕ) → most < 2 ^ 31 → AreWithin most (m ∷ ms)
    → last_behind before last (m ∷ ms) ≡ before + last_run (flat_map marked_words (m ∷ ms))
last_is [] m most before last lt h =
    let n : literal_count (run_word m) ≡ length m.literals = (run_parts m most lt h.0 h.1 h.2).2 in
    let len : length (m.literals ++ []) ≤ literal_count (run_word m) = omega (arith, n, length-append m.literals []) in
    omega (arith, run_ends (run_word m) (m.literals ++ []) len)
last_is (k ∷ ms) m most before last lt h =
    let rest : List ℕ = flat_map marked_words (k ∷ ms) in
    let n : literal_count (run_word m) ≡ length m.literals = (run_parts m most lt h.0 h.1 h.2).2 in
    let further : literal_count (run_word m) < length (m.literals ++ rest) =
    omega (arith, n, length-append m.literals rest) in
    let there : drop (literal_count (run_word m)) (m.literals ++ rest) ≡ rest =
    drop_at m.literals rest (literal_count (run_word m)) (sym n) in
    let next : last_run (run_word m ∷ (m.literals ++ rest)) ≡ 1 + length m.literals + last_run rest =
    run_next (run_word m) (m.literals ++ rest) further ∙ ap (λ (i : ℕ). 1 + i + last_run (drop i (m.literals ++ rest))) n
    ∙ ap (λ (l : List ℕ). 1 + length m.literals + last_run l)
    (ap (λ (i : ℕ). drop i (m.literals ++ rest)) (sym n) ∙ there) in
    let others = last_is ms k most (before + 1 + length m.literals) before lt h.3 in
    omega (arith, next, others)

pub last_there : (words : List ℕ) → length words < 2 ^ 31 → (length words ≡ 0 → ⊥)
    → last_behind 0 0 (as_runs words) ≡ last_run (encoded_words words)
last_there words lt some = by (as_runs words) refl
  where
    by : (ms : List Marked) → as_runs words ≡ ms → last_behind 0 0 (as_runs words) ≡ last_run (encoded_words words)
    by [] e =
        let none : encoded_words words ≡ [] =
        sym (encoded_some words some) ∙ ap (λ (l : List Marked). flat_map marked_words l) e in
        ap (last_behind 0 0) e ∙ sym (ap last_run none ∙ no_run)
    by (m ∷ ms) e =
        let are : AreWithin (length words) (m ∷ ms) = subst (AreWithin (length words)) e (marked_within words) in
        let is : last_behind 0 0 (m ∷ ms) ≡ last_run (flat_map marked_words (m ∷ ms)) =
        omega (arith, last_is ms m (length words) 0 0 lt are) in
        ap (last_behind 0 0) e ∙ is
        ∙ ap (λ (l : List Marked). last_run (flat_map marked_words l)) (sym e) ∙ ap last_run (encoded_some words some)

-- ---- bytes

pub form_len : (num_bits : ℕ) (words : List ℕ)
    → length (bitmap_bytes (bitmap_of_words num_bits words)) ≡ 12 + 8 * length (encoded_words words)
form_len num_bits words = bitmap_len (bitmap_of_words num_bits words)

-- those of a run and its literal words, and of the rest
pub chunk_bytes : (words later : List ℕ) (m : Marked) → as_runs words ≡ m ∷ as_runs later
    → flat_map be64 (flat_map marked_words (as_runs words))
    ≡ flat_map be64 (marked_words m) ++ flat_map be64 (flat_map marked_words (as_runs later))
chunk_bytes words later m e =
    ap (λ (l : List Marked). flat_map be64 (flat_map marked_words l)) e
    ∙ flat_map-append be64 (marked_words m) (flat_map marked_words (as_runs later))

pub chunk_len : (words later : List ℕ) (m : Marked) → as_runs words ≡ m ∷ as_runs later
    → length (flat_map marked_words (as_runs words))
    ≡ 1 + length m.literals + length (flat_map marked_words (as_runs later))
chunk_len words later m e =
    ap (λ (l : List Marked). length (flat_map marked_words l)) e
    ∙ omega (arith, length-append m.literals (flat_map marked_words (as_runs later)))

pub none_left : (words : List ℕ) → words ≡ [] → as_runs words ≡ []
unfolding as_runs
none_left words e = rw e refl
