-- The bitmap that git's encoder makes of bits (git's bitmap-format document, "Serialization format for an EWAH
-- bitmap"). A run word counts adjacent words whose bits are all clear or all set, and the other words follow it.
use Rattle.std.specs.Prelude.{ℕ, zero, suc, ◌+◌, ◌-◌, ◌*◌, ◌/◌, ◌^◌, ◌==◌, Bool, true, List, [], ◌∷◌, length, take, drop}
use Rattle.std.specs.Prelude.{if◌then◌else◌}
use Rattle.std.specs.List.{flat_map}
use Rattle.ext_bitmap.specs.Bitmap.{Bitmap}

-- ---- the words of bits

-- at most 64 bits as a word, bits at lower order first
abbrev pub word_of : List Bool → ℕ
word_of [] = 0
word_of (bit ∷ bits) = (if bit then 1 else 0) + 2 * word_of bits

-- bits as the number of words that the first argument gives
abbrev pub words_within : ℕ → List Bool → List ℕ
words_within zero bits = []
words_within (suc more) bits = word_of (take 64 bits) ∷ words_within more (drop 64 bits)

-- bits as words of 64 bits each; the last word may have fewer
unfoldable pub words_of : List Bool → List ℕ
words_of bits = words_within ((length bits + 63) / 64) bits

-- ---- words as runs and literal words

-- a number of words whose bits are all equal to `bit`, and the literal words after them
pub record Marked : Type 0 where
  pub bit : ℕ
  pub repetitions : ℕ
  pub literals : List ℕ

-- a word whose bits are all equal to `bit`, before others: it extends a run, or begins one
unfoldable pub with_run_word : ℕ → List Marked → List Marked
with_run_word bit [] = record { bit = bit; repetitions = 1; literals = [] } ∷ []
with_run_word bit (m ∷ ms) =
    if m.repetitions == 0 then record { bit = bit; repetitions = 1; literals = m.literals } ∷ ms
    else (if m.bit == bit then record { bit = bit; repetitions = m.repetitions + 1; literals = m.literals } ∷ ms
    else record { bit = bit; repetitions = 1; literals = [] } ∷ (m ∷ ms))

-- a literal word before others
unfoldable pub with_literal : ℕ → List Marked → List Marked
with_literal word [] = record { bit = 0; repetitions = 0; literals = word ∷ [] } ∷ []
with_literal word (m ∷ ms) =
    if m.repetitions == 0 then record { bit = 0; repetitions = 0; literals = word ∷ m.literals } ∷ ms
    else record { bit = 0; repetitions = 0; literals = word ∷ [] } ∷ (m ∷ ms)

unfoldable pub with_word : ℕ → List Marked → List Marked
with_word word ms =
    if word == 0 then with_run_word 0 ms
    else (if word == 2 ^ 64 - 1 then with_run_word 1 ms else with_literal word ms)

-- words as the longest runs, each with the literal words after it
unfoldable pub as_runs : List ℕ → List Marked
as_runs [] = []
as_runs (word ∷ words) = with_word word (as_runs words)

-- the repeated bit in the lowest bit, the number of repetitions in 32 bits, and the number of literal words in 31 bits
abbrev pub run_word : Marked → ℕ
run_word m = m.bit + 2 * m.repetitions + 2 ^ 33 * length m.literals

abbrev pub marked_words : Marked → List ℕ
marked_words m = run_word m ∷ m.literals

-- the words of the compressed form; for no words, a run word with no repetitions and no literal words
unfoldable pub encoded_words : List ℕ → List ℕ
encoded_words [] = 0 ∷ []
encoded_words (word ∷ words) = flat_map marked_words (as_runs (word ∷ words))

-- ---- bits as a bitmap

abbrev pub before_bits : Bool → List Bool → List Bool
before_bits bit [] = if bit then true ∷ [] else []
before_bits bit (b ∷ bits) = bit ∷ b ∷ bits

-- bits up to the last one that is set
unfoldable pub up_to_last : List Bool → List Bool
up_to_last [] = []
up_to_last (bit ∷ bits) = before_bits bit (up_to_last bits)

-- a bitmap of `num_bits` bits, with the compressed form of these words
abbrev pub bitmap_of_words : ℕ → List ℕ → Bitmap
bitmap_of_words num_bits words = record { num_bits = num_bits; words = encoded_words words }

-- the bitmap of bits, which declares those up to the last one that is set
abbrev pub encoded : List Bool → Bitmap
encoded bits = bitmap_of_words (length (up_to_last bits)) (words_of (up_to_last bits))

-- the positions of the set bits, of which the first bit has the position `place`
abbrev pub set_from : ℕ → List Bool → List ℕ
set_from place [] = []
set_from place (bit ∷ bits) = if bit then place ∷ set_from (place + 1) bits else set_from (place + 1) bits
