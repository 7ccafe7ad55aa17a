-- Values of a JSON text, and members of an object (RFC 8259, sections 4, 5 and 7). The kit's `quoted` escapes a string:
-- by two characters if section 7 has such an escape, and by `\u00` and two digits for any other control character.
use Rattle.std.specs.Prelude.{ℕ, ◌==◌, List, [], ◌++◌, codes, decimal, if◌then◌else◌}
use Rattle.std.specs.List.{enumerate_from, flat_map}
use Rattle.std.specs.Str.{is_utf8}
use Rattle.hex.specs.Hex.{encode_lower}
use Rattle.json.specs.Print.{quoted}
use Rattle.index_parts.specs.Id.{id_bytes}
use Rattle.index_parts.specs.declared.hash.ObjectId.{ObjectId}
use Rattle.view_json.specs.Names.{Position, alone, element, first, next}

-- A string of these bytes, which are UTF-8.
abbrev pub json_string : List ℕ → List ℕ
json_string text = quoted text

-- Bytes as a string of their digits in base 16.
abbrev pub hex_string : List ℕ → List ℕ
hex_string bytes = codes "\"" ++ encode_lower bytes ++ codes "\""

-- ---- members

-- A brace or a comma, the name as a string, a colon, and the value.
unfoldable pub member : List ℕ → List ℕ → List ℕ → List ℕ
member before name value = before ++ codes "\"" ++ name ++ codes "\":" ++ value

abbrev pub number_member_text : List ℕ → List ℕ → ℕ → List ℕ
number_member_text before name n = member before name (decimal n)

abbrev pub id_member : List ℕ → List ℕ → ObjectId → List ℕ
id_member before name id = member before name (hex_string (id_bytes id))

-- A comma before each value except the first.
abbrev pub separator : ℕ → List ℕ
separator place = if place == 0 then [] else codes ","

-- What precedes a value: its name as a string that ends with `end`, and a comma for all except the first.
unfoldable pub begin_with : Position → List ℕ → List ℕ
begin_with alone end = []
begin_with (first name) end = codes "\"" ++ name ++ end
begin_with (next name) end = codes ",\"" ++ name ++ end
begin_with (element place) end = separator place

-- What precedes a value, if its name ends with a colon.
abbrev pub begin_of : Position → List ℕ
begin_of position = begin_with position (codes "\":")

-- A text as a string. If its bytes aren't UTF-8, their digits in base 16, and the name ends with `_bytes`.
unfoldable pub text_value : Position → List ℕ → List ℕ
text_value position bytes =
    if is_utf8 bytes then begin_of position ++ json_string bytes
    else begin_with position (codes "_bytes\":") ++ hex_string bytes

-- ---- arrays

-- The values of items, with commas between them.
abbrev pub separated_values : {X : Type 0} → (X → List ℕ) → List X → List ℕ
separated_values value xs = flat_map (λ p. separator p.0 ++ value p.1) (enumerate_from 0 xs)

abbrev pub array : {X : Type 0} → (X → List ℕ) → List X → List ℕ
array value xs = codes "[" ++ separated_values value xs ++ codes "]"
