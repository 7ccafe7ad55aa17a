-- Numbers in octal digits (ASCII), as modes are encoded in tree objects ("Pro Git", "Git Objects") and in resolve-undo
-- (gitformat-index, "Resolve undo").
use Rattle.std.specs.Prelude.{◌≡◌, ◌≢◌, ℕ, ◌+◌, ◌-◌, ◌*◌, ◌^◌, ◌<◌, ◌≤◌, ◌==◌, ◌&&◌, nat_le, nat_lt, not, Bool, List, [], ◌∷◌}
use Rattle.std.specs.Prelude.{All, length, Option, Some, None, if◌then◌else◌}
use Rattle.std.specs.List.{list_all}

-- the byte is a digit `0` to `7`
abbrev pub IsOctalDigit : ℕ → Type 0
IsOctalDigit b = (48 ≤ b) × (b ≤ 55)

-- whether the byte is a digit `0` to `7`, as a test
abbrev pub is_octal_digit : ℕ → Bool
is_octal_digit b = nat_le 48 b && nat_le b 55

-- the value of octal digits, by their positions
abbrev pub octal_value : List ℕ → ℕ
octal_value [] = 0
octal_value (b ∷ text) = (b - 48) * 8 ^ length text + octal_value text

-- the text is one or more octal digits, whose value n has at most 32 bits
pub record IsOctal (text : List ℕ) (n : ℕ) : Type 0 where
  pub some : text ≢ []
  pub digits : All IsOctalDigit text
  pub value : n ≡ octal_value text
  pub fits : n < 2 ^ 32

-- the value of a text of one or more octal digits, if it has at most 32 bits
unfoldable pub octal_number : List ℕ → Option ℕ
octal_number text =
    if not (length text == 0) && list_all is_octal_digit text
    then (if nat_lt (octal_value text) (2 ^ 32) then Some (octal_value text) else None) else None
