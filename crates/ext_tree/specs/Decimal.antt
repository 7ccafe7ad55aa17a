-- Numbers in decimal digits (ASCII), as they are in the cache tree (gitformat-index, "Cache tree").
use Rattle.std.specs.Prelude.{◌≡◌, ◌≢◌, ℕ, ◌+◌, ◌-◌, ◌*◌, ◌^◌, ◌<◌, ◌≤◌, List, [], ◌∷◌, All, Option, Some, None, length}

-- `0` to `9`
abbrev pub IsDigit : ℕ → Type 0
IsDigit b = (48 ≤ b) × (b ≤ 57)

-- the number that digits represent
abbrev pub decimal_value : List ℕ → ℕ
decimal_value [] = 0
decimal_value (b ∷ text) = (b - 48) * 10 ^ length text + decimal_value text

-- text is one or more digits that represent n, which has at most 64 bits
pub record IsDecimal (text : List ℕ) (n : ℕ) : Type 0 where
  pub some : text ≢ []
  pub digits : All IsDigit text
  pub value : n ≡ decimal_value text
  pub fits : n < 2 ^ 64

-- A count of 32 signed bits: an optional sign, then a decimal number. A negative number represents no count.
pub data IsCount (text : List ℕ) (count : Option ℕ) : Type 0 where
  plain : (n : ℕ) → IsDecimal text n → n < 2 ^ 31 → count ≡ Some n → IsCount text count
  plus : (digits : List ℕ) (n : ℕ) → text ≡ 43 ∷ digits → IsDecimal digits n → n < 2 ^ 31 → count ≡ Some n
      → IsCount text count
  minus : (digits : List ℕ) (n : ℕ) → text ≡ 45 ∷ digits → IsDecimal digits n → 1 ≤ n → n ≤ 2 ^ 31 → count ≡ None
      → IsCount text count
  minus_zero : (digits : List ℕ) → text ≡ 45 ∷ digits → IsDecimal digits 0 → count ≡ Some 0 → IsCount text count
