-- Paths in double quotes, written as a string of C (git-config, `core.quotePath`; git-update-index, "USING
-- --INDEX-INFO").
use Rattle.std.specs.Prelude.{ℕ, zero, suc, ◌+◌, ◌-◌, ◌*◌, ◌==◌, ◌&&◌, nat_le, List, [], ◌∷◌, length, Option, Some, None}
use Rattle.std.specs.Prelude.{◌≡◌, ◌<◌, IfSome, codes, option_map, if◌then◌else◌}
use Rattle.std.specs.Borrow.{Bor}
use Rattle.std.specs.Option.{option_or}
use Rattle.std.specs.Str.{byte, bytes_eq}
use Rattle.index_parts.specs.Octal.{is_octal_digit}

-- the first byte of a text, and the text after it
abbrev pub Front : Type 0
Front = Option (ℕ × List ℕ)

-- the byte is read from the text, and the text after it is shorter; or nothing is read
pub record TakesFront (told : Front) (text : List ℕ) (r : Option (ℕ × Bor (List ℕ))) : Type 0 where
  pub front : option_map (λ p. (p.0, p.1.now)) r ≡ told
  pub less : IfSome r (λ p. length p.1.now < length text)

-- The byte for a character after a backslash: a bell, a backspace, a tab, a newline, a vertical tab, a form feed, a
-- carriage return, or the character itself.
abbrev pub value_of_letter : ℕ → Option ℕ
value_of_letter c =
    if c == byte "a" then Some 7
    else (if c == byte "b" then Some 8
    else (if c == byte "t" then Some 9
    else (if c == byte "n" then Some 10
    else (if c == byte "v" then Some 11
    else (if c == byte "f" then Some 12
    else (if c == byte "r" then Some 13
    else (if c == byte "\"" then Some 34
    else (if c == byte "\\" then Some 92
    else None))))))))

-- the byte of three octal digits, of which the first is at most 3, and the text after them
abbrev pub octal_front : List ℕ → Front
octal_front [] = None
octal_front (a ∷ []) = None
octal_front (a ∷ b ∷ []) = None
octal_front (a ∷ b ∷ c ∷ rest) =
    if (is_octal_digit a && nat_le a 51) && (is_octal_digit b && is_octal_digit c)
    then Some ((a - 48) * 64 + (b - 48) * 8 + (c - 48), rest) else None

-- the byte of an escape, from the text after the backslash
abbrev pub escaped_front : List ℕ → Front
escaped_front [] = None
escaped_front (c ∷ rest) = option_or (option_map (λ b. (b, rest)) (value_of_letter c)) (octal_front (c ∷ rest))

-- any byte except a backslash and a double quote is itself
abbrev pub front_of : List ℕ → Front
front_of [] = None
front_of (b ∷ rest) =
    if b == byte "\\" then escaped_front rest else (if b == byte "\"" then None else Some (b, rest))

-- a double quote ends the text, and nothing follows it
abbrev pub ended : List ℕ → Option (List ℕ)
ended text = if bytes_eq text (codes "\"") then Some [] else None

-- the first byte, before the path of the rest
abbrev pub onto : (List ℕ → Option (List ℕ)) → List ℕ → Front → Option (List ℕ)
onto path_of text None = ended text
onto path_of text (Some p) = option_map (λ path. p.0 ∷ path) (path_of p.1)

-- the path that is quoted in a text of at most n bytes, up to the double quote at its end
unfoldable pub unquoted_in : ℕ → List ℕ → Option (List ℕ)
unquoted_in zero text = ended text
unquoted_in (suc n) text = onto (λ rest. unquoted_in n rest) text (front_of text)

-- the path in the text after the first double quote
abbrev pub unquoted : List ℕ → Option (List ℕ)
unquoted text = unquoted_in (length text) text
