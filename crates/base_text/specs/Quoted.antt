-- Paths in lines, as git's commands print them. A path with unusual bytes is in double quotes, written as a string of C
-- (git-config, `core.quotePath`, which is true).
use Rattle.std.specs.Prelude.{ℕ, ◌-◌, ◌/◌, ◌%◌, ◌^◌, ◌==◌, nat_le, Bool, ◌&&◌, ◌||◌, not, List, [], ◌∷◌, ◌++◌, codes}
use Rattle.std.specs.Prelude.{slice_index, if◌then◌else◌}
use Rattle.std.specs.List.{flat_map, list_all}
use Rattle.base_text.specs.Digits.{digit_character}
use Rattle.base_text.specs.Escaped.{is_printable}

abbrev pub backslash : ℕ
backslash = 92

abbrev pub double_quote : ℕ
double_quote = 34

-- a printed ASCII character or a space, but neither a double quote nor a backslash
abbrev pub is_usual : ℕ → Bool
is_usual b = is_printable b && (not (b == double_quote) && not (b == backslash))

-- the bytes with a letter in C's escapes: bell, backspace, tab, newline, vertical tab, form feed, carriage return
abbrev pub has_letter : ℕ → Bool
has_letter b = nat_le 7 b && nat_le b 13

abbrev pub letter_of : ℕ → ℕ
letter_of b = slice_index (codes "abtnvfr") (b - 7)

abbrev pub three_octal : ℕ → List ℕ
three_octal b = digit_character (b / 8 ^ 2 % 8) ∷ digit_character (b / 8 % 8) ∷ digit_character (b % 8) ∷ []

-- the escape of an unusual byte, after the backslash: itself, its letter, or three octal digits
abbrev pub behind_backslash : ℕ → List ℕ
behind_backslash b = if b == double_quote || b == backslash then b ∷ []
    else if has_letter b then letter_of b ∷ [] else three_octal b

abbrev pub quoted_byte : ℕ → List ℕ
quoted_byte b = if is_usual b then b ∷ [] else backslash ∷ behind_backslash b

-- a path of usual bytes is unchanged, any other one is in double quotes
abbrev pub quoted : List ℕ → List ℕ
quoted path = if list_all is_usual path then path
    else (double_quote ∷ []) ++ flat_map quoted_byte path ++ (double_quote ∷ [])
