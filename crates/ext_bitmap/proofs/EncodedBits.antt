-- The bitmap that is made of bits has these bits.
use Rattle.std.proofs.Common.{◌≡◌, ℕ, zero, suc, ◌+◌, ◌-◌, ◌*◌, ◌/◌, ◌%◌, ◌^◌, ◌<◌, ◌≤◌, Bool, true, false, eqb}
use Rattle.std.proofs.Common.{List, [], ◌∷◌, ◌++◌, length, take, drop, map, All, Result, Ok, refl, sym, ap, ◌∙◌}
use Rattle.std.proofs.Common.{arith, append_assoc, append-nil}
use Rattle.std.specs.Prelude.{replicate}
use Rattle.std.specs.List.{flat_map}
use Rattle.std.proofs.lemmas.Bool.{eqb-true}
use Rattle.std.proofs.lemmas.List.{map-append, length-drop, length-take, replicate-append-replicate}
use Rattle.std.proofs.lemmas.List.Elements.{All-nil, All-cons, All-head, All-tail, All-append}
use native.Mathlib.Numerals.{unary_clauses}
use Rattle.ext_bitmap.specs.Bits.{Bit, clear, set, bit_of, low_bits, word_bits, places, Chunk, chunk_words, chunk_bits}
use Rattle.ext_bitmap.specs.Bits.{IsWhole, StandFor, ListPlaces}
use Rattle.ext_bitmap.proofs.Places.{places_set}
use Rattle.ext_bitmap.specs.declared.ewah.iter.Malformed.{Malformed}
use Rattle.ext_bitmap.specs.BitmapImage.{IsSpellableBitmap}
use Rattle.ext_bitmap.specs.EncodedBitmap.{word_of, words_within, words_of, Marked, with_run_word}
use Rattle.ext_bitmap.specs.EncodedBitmap.{with_literal, with_word, as_runs, run_word, marked_words}
use Rattle.ext_bitmap.specs.EncodedBitmap.{encoded_words, before_bits, up_to_last, encoded, set_from}
use Rattle.ext_bitmap.proofs.EncodedForms.{AreWithin, run_parts, marked_within}

-- ---- bits as words

abbrev oks : List ℕ → List (Result ℕ Malformed)
oks places = map Ok places

low_places : (n q : ℕ) (bits : List Bool) (later : List Bit) → length bits ≤ n → q + n ≤ 2 ^ 64
    → places q (low_bits n (word_of bits) ++ later) ≡ oks (set_from q bits) ++ places (q + n) later
low_places zero q [] later h k = let e : q + 0 ≡ q = omega arith in rw e refl
low_places zero q (b ∷ bits) later h k = absurd (omega (arith, h))
low_places (suc n) q [] later h k =
    let e : q + 1 + n ≡ q + suc n = omega arith in
    low_places n (q + 1) [] later (omega arith) (omega (arith, k)) ∙ ap (λ (p : ℕ). places p later) e
low_places (suc n) q (true ∷ bits) later h k =
    let e : q + 1 + n ≡ q + suc n = omega arith in
    let low : (1 + 2 * word_of bits) % 2 ≡ 1 = omega arith in
    let high : (1 + 2 * word_of bits) / 2 ≡ word_of bits = omega arith in
    let others = low_places n (q + 1) bits later (omega (arith, h)) (omega (arith, k)) in
    ap (λ (b : ℕ). places q (bit_of b ∷ (low_bits n ((1 + 2 * word_of bits) / 2) ++ later))) low
    ∙ ap (λ (w : ℕ). places q (set ∷ (low_bits n w ++ later))) high
    ∙ places_set q (low_bits n (word_of bits) ++ later) (omega (arith, k))
    ∙ ap (λ (l : List (Result ℕ Malformed)). Ok q ∷ l)
    (others ∙ ap (λ (p : ℕ). oks (set_from (q + 1) bits) ++ places p later) e)
low_places (suc n) q (false ∷ bits) later h k =
    let e : q + 1 + n ≡ q + suc n = omega arith in
    let low : (0 + 2 * word_of bits) % 2 ≡ 0 = omega arith in
    let high : (0 + 2 * word_of bits) / 2 ≡ word_of bits = omega arith in
    let others = low_places n (q + 1) bits later (omega (arith, h)) (omega (arith, k)) in
    ap (λ (b : ℕ). places q (bit_of b ∷ (low_bits n ((0 + 2 * word_of bits) / 2) ++ later))) low
    ∙ ap (λ (w : ℕ). places q (clear ∷ (low_bits n w ++ later))) high
    ∙ others ∙ ap (λ (p : ℕ). oks (set_from (q + 1) bits) ++ places p later) e

set_split : (n q : ℕ) (bits : List Bool)
    → set_from q bits ≡ set_from q (take n bits) ++ set_from (q + n) (drop n bits)
set_split zero q bits = let e : q + 0 ≡ q = omega arith in rw e refl
set_split (suc n) q [] = refl
set_split (suc n) q (true ∷ bits) =
    let e : q + 1 + n ≡ q + suc n = omega arith in
    ap (λ (l : List ℕ). q ∷ l) (set_split n (q + 1) bits
    ∙ ap (λ (p : ℕ). set_from (q + 1) (take n bits) ++ set_from p (drop n bits)) e)
set_split (suc n) q (false ∷ bits) =
    let e : q + 1 + n ≡ q + suc n = omega arith in
    set_split n (q + 1) bits ∙ ap (λ (p : ℕ). set_from (q + 1) (take n bits) ++ set_from p (drop n bits)) e

within_places : (n q : ℕ) (bits : List Bool) → length bits ≤ 64 * n → q + 64 * n ≤ 2 ^ 64
    → places q (flat_map word_bits (words_within n bits)) ≡ oks (set_from q bits)
within_places zero q [] h k = refl
within_places zero q (b ∷ bits) h k = absurd (omega (arith, h))
within_places (suc n) q bits h k =
    let first : List Bool = take 64 bits in
    let rest : List Bool = drop 64 bits in
    let later : List Bit = flat_map word_bits (words_within n rest) in
    let few : length first ≤ 64 = omega (arith, length-take 64 bits) in
    let left : length rest ≤ 64 * n = omega (arith, length-drop 64 bits, h) in
    low_places 64 q first later few (omega (arith, k))
    ∙ ap (λ (l : List (Result ℕ Malformed)). oks (set_from q first) ++ l)
    (within_places n (q + 64) rest left (omega (arith, k)))
    ∙ sym (map-append Ok (set_from q first) (set_from (q + 64) rest)) ∙ ap oks (sym (set_split 64 q bits))

words_places : (bits : List Bool) → length bits < 2 ^ 32
    → places 0 (flat_map word_bits (words_of bits)) ≡ oks (set_from 0 bits)
unfolding words_of
words_places bits lt = within_places ((length bits + 63) / 64) 0 bits (omega arith) (omega (arith, lt))

within_len : (n : ℕ) (bits : List Bool) → length (words_within n bits) ≡ n
within_len zero bits = refl
within_len (suc n) bits = ap suc (within_len n (drop 64 bits))

pub words_len : (bits : List Bool) → length (words_of bits) ≡ (length bits + 63) / 64
unfolding words_of
words_len bits = within_len ((length bits + 63) / 64) bits

power : (n : ℕ) → 2 ^ suc n ≡ 2 * 2 ^ n
power n = simp unary_clauses (omega arith)

-- so many bits make a word of as many
pub word_below : (n : ℕ) (bits : List Bool) → length bits ≤ n → word_of bits < 2 ^ n
word_below zero [] h = omega arith
word_below zero (b ∷ bits) h = absurd (omega (arith, h))
word_below (suc n) [] h = omega (arith, power n, word_below n [] (omega arith))
word_below (suc n) (true ∷ bits) h = omega (arith, power n, word_below n bits (omega (arith, h)))
word_below (suc n) (false ∷ bits) h = omega (arith, power n, word_below n bits (omega (arith, h)))

abbrev IsWord : ℕ → Type 0
IsWord word = word < 2 ^ 64

within_below : (n : ℕ) (bits : List Bool) → All IsWord (words_within n bits)
within_below zero bits = All-nil IsWord
within_below (suc n) bits = All-cons IsWord (word_of (take 64 bits)) (words_within n (drop 64 bits))
    (word_below 64 (take 64 bits) (omega (arith, length-take 64 bits))) (within_below n (drop 64 bits))

words_below : (bits : List Bool) → All IsWord (words_of bits)
unfolding words_of
words_below bits = within_below ((length bits + 63) / 64) bits

-- ---- words as runs and literal words

abbrev marked_bits : Marked → List Bit
marked_bits m = replicate (64 * m.repetitions) (bit_of m.bit) ++ flat_map word_bits m.literals

run_bits_by : (bit : ℕ) (m : Marked) (ms : List Marked) (s t : Bool) → eqb m.repetitions 0 ≡ s → eqb m.bit bit ≡ t
    → flat_map marked_bits (with_run_word bit (m ∷ ms))
    ≡ replicate 64 (bit_of bit) ++ flat_map marked_bits (m ∷ ms)
unfolding with_run_word
run_bits_by bit m ms true t e f =
    let none : 64 * m.repetitions ≡ 0 = omega (arith, eqb-true m.repetitions 0 e) in
    let run : List Bit = replicate 64 (bit_of bit) in
    let others : List Bit = flat_map marked_bits ms in
    rw (e, none) (append_assoc run (flat_map word_bits m.literals) others)
run_bits_by bit m ms false true e f =
    let more : 64 * (m.repetitions + 1) ≡ 64 + 64 * m.repetitions = omega arith in
    let bit_is : m.bit ≡ bit = eqb-true m.bit bit f in
    let run : List Bit = replicate 64 (bit_of bit) in
    let runs : List Bit = replicate (64 * m.repetitions) (bit_of bit) in
    let literals : List Bit = flat_map word_bits m.literals in
    let others : List Bit = flat_map marked_bits ms in
    rw (e, f, more, bit_is) (ap (λ (l : List Bit). (l ++ literals) ++ others)
    (sym (replicate-append-replicate 64 (64 * m.repetitions) (bit_of bit)))
    ∙ ap (λ (l : List Bit). l ++ others) (append_assoc run runs literals) ∙ append_assoc run (runs ++ literals) others)
run_bits_by bit m ms false false e f =
    rw (e, f) (ap (λ (l : List Bit). l ++ flat_map marked_bits (m ∷ ms)) (append-nil (replicate 64 (bit_of bit))))

run_bits_is : (bit : ℕ) (ms : List Marked)
    → flat_map marked_bits (with_run_word bit ms) ≡ replicate 64 (bit_of bit) ++ flat_map marked_bits ms
unfolding with_run_word
run_bits_is bit [] = ap (λ (l : List Bit). l ++ []) (append-nil (replicate 64 (bit_of bit)))
run_bits_is bit (m ∷ ms) = run_bits_by bit m ms (eqb m.repetitions 0) (eqb m.bit bit) refl refl

literal_bits_by : (word : ℕ) (m : Marked) (ms : List Marked) (s : Bool) → eqb m.repetitions 0 ≡ s
    → flat_map marked_bits (with_literal word (m ∷ ms)) ≡ word_bits word ++ flat_map marked_bits (m ∷ ms)
unfolding with_literal
literal_bits_by word m ms true e =
    let none : 64 * m.repetitions ≡ 0 = omega (arith, eqb-true m.repetitions 0 e) in
    rw (e, none) (append_assoc (word_bits word) (flat_map word_bits m.literals) (flat_map marked_bits ms))
literal_bits_by word m ms false e =
    rw e (ap (λ (l : List Bit). l ++ flat_map marked_bits (m ∷ ms)) (append-nil (word_bits word)))

literal_bits_is : (word : ℕ) (ms : List Marked)
    → flat_map marked_bits (with_literal word ms) ≡ word_bits word ++ flat_map marked_bits ms
unfolding with_literal
literal_bits_is word [] = ap (λ (l : List Bit). l ++ []) (append-nil (word_bits word))
literal_bits_is word (m ∷ ms) = literal_bits_by word m ms (eqb m.repetitions 0) refl

word_bits_by : (word : ℕ) (ms : List Marked) (s t : Bool) → eqb word 0 ≡ s → eqb word (2 ^ 64 - 1) ≡ t
    → flat_map marked_bits (with_word word ms) ≡ word_bits word ++ flat_map marked_bits ms
unfolding with_word
word_bits_by word ms true t e f =
    let is : word ≡ 0 = eqb-true word 0 e in
    rw e (run_bits_is 0 ms ∙ ap (λ (w : ℕ). word_bits w ++ flat_map marked_bits ms) (sym is))
word_bits_by word ms false true e f =
    let is : word ≡ 2 ^ 64 - 1 = eqb-true word (2 ^ 64 - 1) f in
    rw (e, f) (run_bits_is 1 ms ∙ ap (λ (w : ℕ). word_bits w ++ flat_map marked_bits ms) (sym is))
word_bits_by word ms false false e f = rw (e, f) (literal_bits_is word ms)

marked_bits_are : (words : List ℕ) → flat_map marked_bits (as_runs words) ≡ flat_map word_bits words
unfolding as_runs
marked_bits_are [] = refl
marked_bits_are (word ∷ words) =
    word_bits_by word (as_runs words) (eqb word 0) (eqb word (2 ^ 64 - 1)) refl refl
    ∙ ap (λ (l : List Bit). word_bits word ++ l) (marked_bits_are words)

-- ---- the chunks that a reader finds

abbrev chunk_of : Marked → Chunk
chunk_of m = record { run = run_word m; literals = m.literals }

chunks_words : (ms : List Marked) → flat_map marked_words ms ≡ flat_map chunk_words (map chunk_of ms)
chunks_words [] = refl
chunks_words (m ∷ ms) = ap (λ (l : List ℕ). marked_words m ++ l) (chunks_words ms)

chunks_whole : (most : ℕ) (ms : List Marked) → most < 2 ^ 31 → AreWithin most ms → All IsWhole (map chunk_of ms)
chunks_whole most [] lt h = All-nil IsWhole
chunks_whole most (m ∷ ms) lt h =
    All-cons IsWhole (chunk_of m) (map chunk_of ms) (sym (run_parts m most lt h.0 h.1 h.2).2)
    (chunks_whole most ms lt h.3)

chunks_bits : (most : ℕ) (ms : List Marked) → most < 2 ^ 31 → AreWithin most ms
    → flat_map marked_bits ms ≡ flat_map chunk_bits (map chunk_of ms)
chunks_bits most [] lt h = refl
chunks_bits most (m ∷ ms) lt h =
    let p = run_parts m most lt h.0 h.1 h.2 in
    ap (λ (n : ℕ). (replicate (64 * n) (bit_of m.bit) ++ flat_map word_bits m.literals) ++ flat_map marked_bits ms)
    (sym p.1)
    ∙ ap (λ (b : ℕ). (replicate (64 * (run_word m / 2 % 2 ^ 32)) (bit_of b) ++ flat_map word_bits m.literals)
    ++ flat_map marked_bits ms) (sym p.0)
    ∙ ap (λ (l : List Bit). chunk_bits (chunk_of m) ++ l) (chunks_bits most ms lt h.3)

stand_for : (words : List ℕ) → length words < 2 ^ 31 → StandFor (encoded_words words) (flat_map word_bits words)
unfolding encoded_words
stand_for [] lt = record {
  chunks = record { run = 0; literals = [] } ∷ [];
  last = [];
  last_bits = [];
  parts = refl;
  whole = All-cons IsWhole (record { run = 0; literals = [] }) [] refl (All-nil IsWhole);
  is_end = refl;
  joined = refl;
}
stand_for (word ∷ words) lt =
    let all : List ℕ = word ∷ words in
    let ms : List Marked = as_runs all in
    record {
      chunks = map chunk_of ms;
      last = [];
      last_bits = [];
      parts = chunks_words ms ∙ sym (append-nil (flat_map chunk_words (map chunk_of ms)));
      whole = chunks_whole (length all) ms lt (marked_within all);
      is_end = refl;
      joined = sym (marked_bits_are all) ∙ chunks_bits (length all) ms lt (marked_within all)
          ∙ sym (append-nil (flat_map chunk_bits (map chunk_of ms)));
    }

-- ---- bits up to the last one that is set

kept_set : (q : ℕ) (bit : Bool) (bits kept : List Bool) → set_from (q + 1) kept ≡ set_from (q + 1) bits
    → set_from q (before_bits bit kept) ≡ set_from q (bit ∷ bits)
kept_set q true bits [] e = ap (λ (l : List ℕ). q ∷ l) e
kept_set q false bits [] e = e
kept_set q true bits (k ∷ kept) e = ap (λ (l : List ℕ). q ∷ l) e
kept_set q false bits (k ∷ kept) e = e

pub last_set : (q : ℕ) (bits : List Bool) → set_from q (up_to_last bits) ≡ set_from q bits
unfolding up_to_last
last_set q [] = refl
last_set q (bit ∷ bits) = kept_set q bit bits (up_to_last bits) (last_set (q + 1) bits)

kept_len : (bit : Bool) (bits kept : List Bool) → length kept ≤ length bits
    → length (before_bits bit kept) ≤ suc (length bits)
kept_len true bits [] h = omega arith
kept_len false bits [] h = omega arith
kept_len bit bits (k ∷ kept) h = omega (arith, h)

pub last_len : (bits : List Bool) → length (up_to_last bits) ≤ length bits
unfolding up_to_last
last_len [] = omega arith
last_len (bit ∷ bits) = kept_len bit bits (up_to_last bits) (last_len bits)

-- ---- bits as a bitmap

pub bits_listed : (bits : List Bool) → length bits < 2 ^ 32 → ListPlaces (oks (set_from 0 bits)) (encoded bits).words
bits_listed bits lt =
    let kept : List Bool = up_to_last bits in
    let few : length kept < 2 ^ 32 = omega (arith, last_len bits, lt) in
    record {
      bits = flat_map word_bits (words_of kept);
      stand_for = stand_for (words_of kept) (omega (arith, words_len kept, few));
      listed = ap oks (sym (last_set 0 bits)) ∙ sym (words_places kept few);
    }

-- ---- it can be written

run_len : (bit : ℕ) (m : Marked) (ms : List Marked) (s t : Bool) → eqb m.repetitions 0 ≡ s → eqb m.bit bit ≡ t
    → length (flat_map marked_words (with_run_word bit (m ∷ ms))) ≤ 1 + length (flat_map marked_words (m ∷ ms))
unfolding with_run_word
run_len bit m ms true t e f = rw e (omega arith)
run_len bit m ms false true e f = rw (e, f) (omega arith)
run_len bit m ms false false e f = rw (e, f) (omega arith)

runs_len : (bit : ℕ) (ms : List Marked)
    → length (flat_map marked_words (with_run_word bit ms)) ≤ 2 + length (flat_map marked_words ms)
unfolding with_run_word
runs_len bit [] = omega arith
runs_len bit (m ∷ ms) = omega (arith, run_len bit m ms (eqb m.repetitions 0) (eqb m.bit bit) refl refl)

literal_len : (word : ℕ) (m : Marked) (ms : List Marked) (s : Bool) → eqb m.repetitions 0 ≡ s
    → length (flat_map marked_words (with_literal word (m ∷ ms))) ≤ 2 + length (flat_map marked_words (m ∷ ms))
unfolding with_literal
literal_len word m ms true e = rw e (omega arith)
literal_len word m ms false e = rw e (omega arith)

literals_len : (word : ℕ) (ms : List Marked)
    → length (flat_map marked_words (with_literal word ms)) ≤ 2 + length (flat_map marked_words ms)
unfolding with_literal
literals_len word [] = omega arith
literals_len word (m ∷ ms) = literal_len word m ms (eqb m.repetitions 0) refl

word_len : (word : ℕ) (ms : List Marked) (s t : Bool) → eqb word 0 ≡ s → eqb word (2 ^ 64 - 1) ≡ t
    → length (flat_map marked_words (with_word word ms)) ≤ 2 + length (flat_map marked_words ms)
unfolding with_word
word_len word ms true t e f = rw e (runs_len 0 ms)
word_len word ms false true e f = rw (e, f) (runs_len 1 ms)
word_len word ms false false e f = rw (e, f) (literals_len word ms)

marked_len : (words : List ℕ) → length (flat_map marked_words (as_runs words)) ≤ 2 * length words
unfolding as_runs
marked_len [] = omega arith
marked_len (word ∷ words) = omega (
  arith,
  word_len word (as_runs words) (eqb word 0) (eqb word (2 ^ 64 - 1)) refl refl,
  marked_len words,
)

pub encoded_len : (words : List ℕ) → length (encoded_words words) ≤ 1 + 2 * length words
unfolding encoded_words
encoded_len [] = omega arith
encoded_len (word ∷ words) = omega (arith, marked_len (word ∷ words))

-- literal words that have room in their bytes
abbrev AreLow : List Marked → Type 0
AreLow [] = Unit {0}
AreLow (m ∷ ms) = All IsWord m.literals × AreLow ms

run_low : (bit : ℕ) (m : Marked) (ms : List Marked) (s t : Bool) → eqb m.repetitions 0 ≡ s → eqb m.bit bit ≡ t
    → AreLow (m ∷ ms) → AreLow (with_run_word bit (m ∷ ms))
unfolding with_run_word
run_low bit m ms true t e f h = rw e h
run_low bit m ms false true e f h = rw (e, f) h
run_low bit m ms false false e f h = rw (e, f) (All-nil IsWord, h)

runs_low : (bit : ℕ) (ms : List Marked) → AreLow ms → AreLow (with_run_word bit ms)
unfolding with_run_word
runs_low bit [] h = (All-nil IsWord, tt)
runs_low bit (m ∷ ms) h = run_low bit m ms (eqb m.repetitions 0) (eqb m.bit bit) refl refl h

literal_low : (word : ℕ) (m : Marked) (ms : List Marked) (s : Bool) → eqb m.repetitions 0 ≡ s → IsWord word
    → AreLow (m ∷ ms) → AreLow (with_literal word (m ∷ ms))
unfolding with_literal
literal_low word m ms true e lt h = rw e (All-cons IsWord word m.literals lt h.0, h.1)
literal_low word m ms false e lt h = rw e (All-cons IsWord word [] lt (All-nil IsWord), h)

literals_low : (word : ℕ) (ms : List Marked) → IsWord word → AreLow ms → AreLow (with_literal word ms)
unfolding with_literal
literals_low word [] lt h = (All-cons IsWord word [] lt (All-nil IsWord), tt)
literals_low word (m ∷ ms) lt h = literal_low word m ms (eqb m.repetitions 0) refl lt h

word_low : (word : ℕ) (ms : List Marked) (s t : Bool) → eqb word 0 ≡ s → eqb word (2 ^ 64 - 1) ≡ t → IsWord word
    → AreLow ms → AreLow (with_word word ms)
unfolding with_word
word_low word ms true t e f lt h = rw e (runs_low 0 ms h)
word_low word ms false true e f lt h = rw (e, f) (runs_low 1 ms h)
word_low word ms false false e f lt h = rw (e, f) (literals_low word ms lt h)

marked_low : (words : List ℕ) → All IsWord words → AreLow (as_runs words)
unfolding as_runs
marked_low [] h = tt
marked_low (word ∷ words) h =
    word_low word (as_runs words) (eqb word 0) (eqb word (2 ^ 64 - 1)) refl refl (All-head IsWord word words h)
    (marked_low words (All-tail IsWord word words h))

words_low : (most : ℕ) (ms : List Marked) → most < 2 ^ 31 → AreWithin most ms → AreLow ms
    → All IsWord (flat_map marked_words ms)
words_low most [] lt h k = All-nil IsWord
words_low most (m ∷ ms) lt h k =
    All-append IsWord (marked_words m) (flat_map marked_words ms)
    (All-cons IsWord (run_word m) m.literals (run_parts m most lt h.0 h.1 h.2).3 k.0)
    (words_low most ms lt h.3 k.1)

encoded_low : (words : List ℕ) → length words < 2 ^ 31 → All IsWord words → All IsWord (encoded_words words)
unfolding encoded_words
encoded_low [] lt h = All-cons IsWord 0 [] (omega arith) (All-nil IsWord)
encoded_low (word ∷ words) lt h =
    let all : List ℕ = word ∷ words in
    words_low (length all) (as_runs all) lt (marked_within all) (marked_low all h)

pub bits_spellable : (bits : List Bool) → length bits < 2 ^ 32 → IsSpellableBitmap (encoded bits)
bits_spellable bits lt =
    let kept : List Bool = up_to_last bits in
    let few : length kept < 2 ^ 32 = omega (arith, last_len bits, lt) in
    record {
      bits = few;
      count = omega (arith, encoded_len (words_of kept), words_len kept, few);
      words = encoded_low (words_of kept) (omega (arith, words_len kept, few)) (words_below kept);
    }
