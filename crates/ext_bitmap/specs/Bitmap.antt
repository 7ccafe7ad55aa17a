-- A compressed bitmap at the start of bytes (git's bitmap-format document, "Serialization format for an EWAH bitmap").
use Rattle.std.specs.Prelude.{◌≡◌, ℕ, ◌*◌, ◌<◌, ◌≤◌, List, ◌++◌, All, length, map}
use Rattle.std.specs.List.{concat}
use Rattle.index_parts.specs.Numbers.{be}
use Rattle.ext_bitmap.specs.declared.ewah.Vec.{Vec}
use Rattle.ext_bitmap.specs.declared.ewah.reading.Error.{Error}
use Rattle.ext_bitmap.specs.declared.ewah.reading.Error.TheVariants as errors

-- the number of bits when uncompressed, and the compressed words
pub record Bitmap : Type 0 where
  pub num_bits : ℕ
  pub words : List ℕ

abbrev pub bitmap : Vec → Bitmap
bitmap v = record { num_bits = v.num_bits; words = v.words.items }

-- bytes are the big-endian words, one after another, eight bytes each
pub record AreBitmapWords (bytes words : List ℕ) : Type 0 where
  pub spellings : List (List ℕ)
  pub parts : bytes ≡ concat spellings
  pub sizes : All (λ spelling. length spelling ≡ 8) spellings
  pub values : words ≡ map be spellings

-- Bytes are a bitmap and the rest. A bitmap is the number of bits, the number of words, the words, and the position of
-- the last run word. That position may be any number.
pub record IsBitmap (bytes : List ℕ) (b : Bitmap) (rest : List ℕ) : Type 0 where
  pub bits : List ℕ
  pub len : List ℕ
  pub words : List ℕ
  pub last : List ℕ
  pub parts : bytes ≡ bits ++ (len ++ (words ++ (last ++ rest)))
  pub bits_size : length bits ≡ 4
  pub len_size : length len ≡ 4
  pub words_size : length words ≡ 8 * be len
  pub last_size : length last ≡ 4
  pub num_bits : b.num_bits ≡ be bits
  pub are_words : AreBitmapWords words b.words

pub record HasBitmap (bytes : List ℕ) : Type 0 where
  pub value : Bitmap
  pub rest : List ℕ
  pub is_bitmap : IsBitmap bytes value rest

-- the two numbers are present, followed by fewer bytes than the declared words take
pub record LacksWords (bytes : List ℕ) : Type 0 where
  pub bits : List ℕ
  pub len : List ℕ
  pub rest : List ℕ
  pub parts : bytes ≡ bits ++ (len ++ rest)
  pub bits_size : length bits ≡ 4
  pub len_size : length len ≡ 4
  pub few : length rest < 8 * be len

-- the words are present too, followed by fewer than four bytes
pub record LacksLast (bytes : List ℕ) : Type 0 where
  pub bits : List ℕ
  pub len : List ℕ
  pub words : List ℕ
  pub rest : List ℕ
  pub parts : bytes ≡ bits ++ (len ++ (words ++ rest))
  pub bits_size : length bits ≡ 4
  pub len_size : length len ≡ 4
  pub words_size : length words ≡ 8 * be len
  pub few : length rest < 4

-- the first part of a bitmap that isn't completely present
abbrev pub Lacks : Error → List ℕ → Type 0
Lacks errors.NumBits bytes = length bytes < 4
Lacks errors.Length bytes = (4 ≤ length bytes) × (length bytes < 8)
Lacks errors.Words bytes = LacksWords bytes
Lacks errors.LastRun bytes = LacksLast bytes
Lacks errors.Memory bytes = ⊥

-- what an error implies about bytes: out of memory implies that they begin with a complete bitmap
abbrev pub BitmapCause : Error → List ℕ → Type 0
BitmapCause errors.Memory bytes = HasBitmap bytes
BitmapCause error bytes = Lacks error bytes
