-- Digits of base 8 (the library's own). Those of base 16 are in the crate hex, decimal digits in std.
use Rattle.std.specs.Prelude.{ℕ, ◌+◌, ◌/◌, ◌%◌, ◌^◌, nat_lt, List, [], ◌∷◌, ◌++◌, if◌then◌else◌}

-- the character of a digit
abbrev pub digit_character : ℕ → ℕ
digit_character n = 48 + n

-- the six last octal digits of a number
abbrev pub low_octal : ℕ → List ℕ
low_octal n = digit_character (n / 8 ^ 5 % 8) ∷ digit_character (n / 8 ^ 4 % 8) ∷ digit_character (n / 8 ^ 3 % 8)
    ∷ digit_character (n / 8 ^ 2 % 8) ∷ digit_character (n / 8 % 8) ∷ digit_character (n % 8) ∷ []

-- the five octal digits before the six last ones; a number of 32 bits has no more
abbrev pub high_octal : ℕ → List ℕ
high_octal n = digit_character (n / 8 ^ 10 % 8) ∷ digit_character (n / 8 ^ 9 % 8) ∷ digit_character (n / 8 ^ 8 % 8)
    ∷ digit_character (n / 8 ^ 7 % 8) ∷ digit_character (n / 8 ^ 6 % 8) ∷ []

-- the octal digits of a number: six if they suffice, else eleven
unfoldable pub octal : ℕ → List ℕ
octal n = if nat_lt n (8 ^ 6) then low_octal n else high_octal n ++ low_octal n
