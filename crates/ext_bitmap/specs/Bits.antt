-- What the words of a compressed bitmap encode (git's bitmap-format document, "Serialization format for an EWAH
-- bitmap"): a concatenation of chunks, each of a run word and the literal words that it counts.
use Rattle.std.specs.Prelude.{◌≡◌, ℕ, zero, suc, ◌+◌, ◌*◌, ◌/◌, ◌%◌, ◌^◌, ◌<◌, ◌==◌, nat_lt, if◌then◌else◌, List, []}
use Rattle.std.specs.Prelude.{◌∷◌, ◌++◌, All, length, replicate, Result, Ok, Err}
use Rattle.std.specs.List.{flat_map}
use Rattle.ext_bitmap.specs.declared.ewah.iter.Malformed.{Malformed}

-- a bit, or the point at which the words break off
pub data Bit : Type 0 where
  clear : Bit
  set : Bit
  broken : Bit

abbrev pub bit_of : ℕ → Bit
bit_of n = if n == 1 then set else clear

-- the lowest `count` bits of a word, bits at lower order first
abbrev pub low_bits : ℕ → ℕ → List Bit
low_bits zero word = []
low_bits (suc count) word = bit_of (word % 2) ∷ low_bits count (word / 2)

abbrev pub word_bits : ℕ → List Bit
word_bits word = low_bits 64 word

-- The parts of a run word, from its low bits: the repeated bit (1 bit), the number of words of it (32 bits), and the
-- number of literal words that follow (31 bits).
abbrev pub repeated_bit : ℕ → Bit
repeated_bit run = bit_of (run % 2)

abbrev pub repetitions : ℕ → ℕ
repetitions run = run / 2 % 2 ^ 32

abbrev pub literal_count : ℕ → ℕ
literal_count run = run / 2 ^ 33

-- the bits that a run word encodes by itself
abbrev pub run_bits : ℕ → List Bit
run_bits run = replicate (64 * repetitions run) (repeated_bit run)

pub record Chunk : Type 0 where
  pub run : ℕ
  pub literals : List ℕ

abbrev pub chunk_words : Chunk → List ℕ
chunk_words chunk = chunk.run ∷ chunk.literals

abbrev pub chunk_bits : Chunk → List Bit
chunk_bits chunk = run_bits chunk.run ++ flat_map word_bits chunk.literals

-- all the literal words are present
abbrev pub IsWhole : Chunk → Type 0
IsWhole chunk = length chunk.literals ≡ literal_count chunk.run

-- After the complete chunks there is no word and no bit, or there is a chunk that lacks literal words. Of such a chunk
-- only the run has bits.
abbrev pub IsEnd : List ℕ → List Bit → Type 0
IsEnd [] bits = bits ≡ []
IsEnd (run ∷ literals) bits = (length literals < literal_count run) × (bits ≡ run_bits run ++ broken ∷ [])

-- words are complete chunks and an end, and the bits are theirs
pub record StandFor (words : List ℕ) (bits : List Bit) : Type 0 where
  pub chunks : List Chunk
  pub last : List ℕ
  pub last_bits : List Bit
  pub parts : words ≡ flat_map chunk_words chunks ++ last
  pub whole : All IsWhole chunks
  pub is_end : IsEnd last last_bits
  pub joined : bits ≡ flat_map chunk_bits chunks ++ last_bits

-- The positions of the set bits, up to the first error. The first bit has the position `place`. An error is a break, or
-- a position of more than 64 bits.
abbrev pub places : ℕ → List Bit → List (Result ℕ Malformed)
places place [] = []
places place (clear ∷ bits) = places (place + 1) bits
places place (set ∷ bits) = if nat_lt place (2 ^ 64) then Ok place ∷ places (place + 1) bits else Err (record {}) ∷ []
places place (broken ∷ bits) = Err (record {}) ∷ []

-- `count` adjacent positions, from `first` on
abbrev pub run_places : ℕ → ℕ → List (Result ℕ Malformed)
run_places first zero = []
run_places first (suc count) = Ok first ∷ run_places (first + 1) count

-- items are the positions of the set bits that words encode
pub record ListPlaces (items : List (Result ℕ Malformed)) (words : List ℕ) : Type 0 where
  pub bits : List Bit
  pub stand_for : StandFor words bits
  pub listed : items ≡ places 0 bits
