-- The bytes that are written for a bitmap (git's bitmap-format document, "Serialization format for an EWAH bitmap").
use Rattle.std.specs.Prelude.{ℕ, zero, suc, ◌+◌, ◌^◌, ◌<◌, nat_lt, if◌then◌else◌, List, [], ◌∷◌, ◌++◌, All, length, drop}
use Rattle.std.specs.Int.{w64, to_be_bytes}
use Rattle.std.specs.List.{flat_map}
use Rattle.index_parts.specs.Numbers.{be32}
use Rattle.ext_bitmap.specs.Bitmap.{Bitmap}
use Rattle.ext_bitmap.specs.Bits.{literal_count}
use Rattle.ext_bitmap.specs.declared.write.BorrowedVec.{BorrowedVec}

-- a number in eight bytes, big-endian
abbrev pub be64 : ℕ → List ℕ
be64 n = to_be_bytes w64 n

-- a bitmap with borrowed words, as plain data
abbrev pub borrowed_bitmap : BorrowedVec → Bitmap
borrowed_bitmap b = record { num_bits = b.num_bits; words = b.words.now }

-- The position of the last run word among words, of which there are at most as many as the first argument. The first
-- word is a run word, and so is the word after the literal words that a run word counts.
abbrev pub last_run_within : ℕ → List ℕ → ℕ
last_run_within zero words = 0
last_run_within (suc most) [] = 0
last_run_within (suc most) (run ∷ words) =
    if nat_lt (literal_count run) (length words)
    then 1 + literal_count run + last_run_within most (drop (literal_count run) words)
    else 0

-- the position of the last run word, and 0 if there is no word
unfoldable pub last_run : List ℕ → ℕ
last_run words = last_run_within (length words) words

-- the number of bits, the number of words, the words, and the position of the last run word
unfoldable pub bitmap_bytes : Bitmap → List ℕ
bitmap_bytes b = be32 b.num_bits ++ (be32 (length b.words) ++ (flat_map be64 b.words ++ be32 (last_run b.words)))

-- the numbers and words of a bitmap fit into their bytes
pub record IsSpellableBitmap (b : Bitmap) : Type 0 where
  pub bits : b.num_bits < 2 ^ 32
  pub count : length b.words < 2 ^ 32
  pub words : All (λ word. word < 2 ^ 64) b.words
