-- Numbers and pieces at the start of a list of bytes (gitformat-index: all numbers are big-endian).
use Rattle.std.specs.Int.{w32, to_be_bytes}
use Rattle.std.specs.Prelude.{◌≡◌, ◌≢◌, ℕ, ◌+◌, ◌*◌, ◌^◌, ◌≤◌, nat_lt, List, [], ◌∷◌, ◌++◌, All, length, take, drop}
use Rattle.std.specs.Prelude.{Option, Some, None, if◌then◌else◌}

-- the number that bytes encode, the first byte the most significant
abbrev pub be : List ℕ → ℕ
be [] = 0
be (byte ∷ bytes) = byte * 256 ^ length bytes + be bytes

-- a number as four bytes, the most significant first
abbrev pub be32 : ℕ → List ℕ
be32 n = to_be_bytes w32 n

-- the number, if it has at most 32 bits
abbrev pub within_32 : ℕ → Option ℕ
within_32 n = if nat_lt n (2 ^ 32) then Some n else None

-- the number at the index `place` of numbers of four bytes each
abbrev pub number : List ℕ → ℕ → ℕ
number numbers place = be (take 4 (drop (4 * place) numbers))

-- the bytes are a number of `count` bytes, and the rest
pub record StartsWithNumber (count : ℕ) (bytes : List ℕ) (n : ℕ) (rest : List ℕ) : Type 0 where
  pub spelling : List ℕ
  pub parts : bytes ≡ spelling ++ rest
  pub size : length spelling ≡ count
  pub value : n ≡ be spelling

-- the bytes are a piece without the value b, then b, then the rest; there are at least two bytes
pub record IsUpTo (b : ℕ) (bytes piece rest : List ℕ) : Type 0 where
  pub parts : bytes ≡ piece ++ b ∷ rest
  pub apart : All (λ x. x ≢ b) piece
  pub two : 2 ≤ length bytes
