-- The items that an iterator over a bitmap's words still returns, as a function of its state (git's bitmap-format
-- document, "Serialization format for an EWAH bitmap"). Public clauses cite only `items_left` of these definitions.
use Rattle.std.specs.Prelude.{◌≡◌, ℕ, zero, suc, ◌+◌, ◌^◌, ◌<◌, ◌≤◌, nat_le, false, if◌then◌else◌, List, [], ◌∷◌, ◌++◌}
use Rattle.std.specs.Prelude.{length, take, drop, replicate, Option, Some, None, Result}
use Rattle.std.specs.List.{flat_map}
use Rattle.ext_bitmap.specs.Bits.{Bit, set, broken, low_bits, word_bits, run_bits, literal_count, places}
use Rattle.ext_bitmap.specs.declared.ewah.iter.Malformed.{Malformed}
use Rattle.ext_bitmap.specs.declared.ewah.iter.Positions.{Positions}

-- the bits of words, of which there are at most as many as the first argument
abbrev pub unpacked_within : ℕ → List ℕ → List Bit
unpacked_within zero words = []
unpacked_within (suc most) [] = []
unpacked_within (suc most) (run ∷ words) =
    run_bits run
    ++ (if nat_le (literal_count run) (length words)
    then flat_map word_bits (take (literal_count run) words) ++ unpacked_within most (drop (literal_count run) words)
    else broken ∷ [])

-- the bits that words encode
unfoldable pub unpacked : List ℕ → List Bit
unpacked words = unpacked_within (length words) words

-- the position of the next bit; None represents every position of more than 64 bits
abbrev pub next_place : Option ℕ → ℕ
next_place (Some place) = place
next_place None = 2 ^ 64

-- the bits after those of the current run and of the current literal word
abbrev pub bits_behind : Positions → List Bit
bits_behind s =
    if s.is_broken then broken ∷ []
    else flat_map word_bits (take s.literals s.words.now) ++ unpacked (drop s.literals s.words.now)

abbrev pub bits_left : Positions → List Bit
bits_left s = replicate s.ones set ++ (low_bits s.bits s.word ++ bits_behind s)

abbrev pub items_left : Positions → List (Result ℕ Malformed)
items_left s = places (next_place s.place) (bits_left s)

-- no run and no literal word is in progress: the next word is a run word
abbrev pub IsBetweenChunks : Positions → Type 0
IsBetweenChunks s = (s.ones ≡ 0) × (s.bits ≡ 0) × (s.literals ≡ 0) × (s.is_broken ≡ false)

-- the position `count` bits after another
abbrev pub IsPlaceAfter : Option ℕ → ℕ → Option ℕ → Type 0
IsPlaceAfter place count (Some next) = (next_place place + count ≡ next) × (next < 2 ^ 64)
IsPlaceAfter place count None = 2 ^ 64 ≤ next_place place + count
