-- Texts of values in an array, of names and of texts.
use Rattle.std.proofs.Common.{◌≡◌, ℕ, ◌+◌, Bool, true, false, not, ◌==◌, ◌&&◌, nat_le, List, [], ◌∷◌, ◌++◌}
use Rattle.std.proofs.Common.{append_assoc, arith, ap, ap₂, codes, refl, sym, ◌∙◌}
use Rattle.std.proofs.lemmas.Bool.{and_from, and_parts, eqb-false, leb-true, ne_eqb, not-true}
use Rattle.std.specs.List.{enumerate_from, flat_map}
use Rattle.std.specs.Prelude.{if◌then◌else◌}
use Rattle.std.specs.Str.{is_utf8}
use Rattle.json.proofs.Printed.Strings.{escape_byte_plain}
use Rattle.json.specs.Print.{escape, escape_byte, quoted}
use Rattle.view_json.specs.Names.{Position, alone, element, first, next}
use Rattle.view_json.specs.Values.{begin_of, begin_with, hex_string, json_string, separator, text_value}
use Rattle.view_json_laws.specs.EventValues.{text_name, text_or_digits}
use Rattle.view_json_laws.specs.Telling.{are_plain, has_plain_name, is_plain, text_position}
use Rattle.view_json_laws.specs.Value.{Value, digits, items_of, items_spelling, spelling, string}

pub later : (place : ℕ) → separator (place + 1) ≡ codes ","
later place = rw (ne_eqb (place + 1) 0 (λ e. omega arith)) refl

-- the texts of items, with commas between them, are the text of an array's values
pub values_text : {X : Type 0} (text : X → List ℕ) (value : X → Value) → ((x : X) → text x ≡ spelling (value x))
    → (place : ℕ) (xs : List X)
    → flat_map (λ (p : ℕ × X). separator p.0 ++ text p.1) (enumerate_from place xs)
    ≡ items_spelling (separator place) (items_of value xs)
values_text text value each place [] = refl
values_text text value each place (x ∷ xs) =
    ap₂ (λ (a b : List ℕ). (separator place ++ a) ++ b) (each x)
    (values_text text value each (place + 1) xs
    ∙ ap (λ (s : List ℕ). items_spelling s (items_of value xs)) (later place))

-- what is between brackets, and what follows them
pub between : (begin bracket inner close rest text : List ℕ) → text ≡ inner ++ (close ++ rest)
    → begin ++ bracket ++ text ≡ begin ++ (bracket ++ inner ++ close) ++ rest
between begin bracket inner close rest text e =
    ap (λ (l : List ℕ). begin ++ bracket ++ l) e ∙ regrouped begin bracket inner close rest
  where
    regrouped : (a b c d e : List ℕ) → a ++ b ++ (c ++ (d ++ e)) ≡ a ++ (b ++ c ++ d) ++ e
    regrouped a b c d e = simp append_assoc

-- ---- names

-- a name that is its own text in a string
abbrev pub IsPlain : List ℕ → Type 0
IsPlain name = escape name ≡ name

pub plain_alone : (x : ℕ) → is_plain x ≡ true → escape_byte x ≡ x ∷ []
plain_alone x e =
    let p = and_parts (nat_le 32 x) (not (x == 34) && not (x == 92)) e in
    let q = and_parts (not (x == 34)) (not (x == 92)) p.1 in
    escape_byte_plain x (eqb-false x 34 (not-true (x == 34) q.0)) (eqb-false x 92 (not-true (x == 92) q.1))
    (leb-true 32 x p.0)

pub plain_name : (name : List ℕ) → are_plain name ≡ true → IsPlain name
plain_name [] e = refl
plain_name (x ∷ xs) e =
    let p = and_parts (is_plain x) (are_plain xs) e in
    ap₂ (λ (a b : List ℕ). a ++ b) (plain_alone x p.0) (plain_name xs p.1)

-- a name, and its colon
pub name_text : (name : List ℕ) → IsPlain name → codes "\"" ++ name ++ codes "\":" ≡ quoted name ++ codes ":"
name_text name p =
    ap (λ (l : List ℕ). 34 ∷ l)
    (ap (λ (l : List ℕ). l ++ codes "\":") (sym p) ∙ sym (append_assoc (escape name) (34 ∷ []) (58 ∷ [])))

-- ---- texts

plain_bytes : (name : List ℕ) → are_plain name ≡ true → are_plain (name ++ codes "_bytes") ≡ true
plain_bytes [] e = refl
plain_bytes (x ∷ xs) e =
    let p = and_parts (is_plain x) (are_plain xs) e in
    and_from (is_plain x) (are_plain (xs ++ codes "_bytes")) p.0 (plain_bytes xs p.1)

-- the name of a text is plain in both cases
pub plain_text_name : (name bytes : List ℕ) → are_plain name ≡ true → are_plain (text_name name bytes) ≡ true
plain_text_name name bytes e = go (is_utf8 bytes)
  where
    go : (b : Bool) → are_plain (if b then name else name ++ codes "_bytes") ≡ true
    go true = e
    go false = plain_bytes name e

pub plain_text_position : (position : Position) (bytes : List ℕ) → has_plain_name position ≡ true
    → has_plain_name (text_position position bytes) ≡ true
plain_text_position alone bytes e = e
plain_text_position (first name) bytes e = plain_text_name name bytes e
plain_text_position (next name) bytes e = plain_text_name name bytes e
plain_text_position (element place) bytes e = e

string_or_digits : (at : List ℕ → Position) (name bytes : List ℕ)
    → begin_with (at name) (codes "_bytes\":") ≡ begin_of (at (name ++ codes "_bytes")) → (b : Bool)
    → (if b then begin_of (at name) ++ json_string bytes
    else begin_with (at name) (codes "_bytes\":") ++ hex_string bytes)
    ≡ begin_of (at (if b then name else name ++ codes "_bytes")) ++ spelling (if b then string bytes else digits bytes)
string_or_digits at name bytes e true = refl
string_or_digits at name bytes e false = ap (λ (l : List ℕ). l ++ hex_string bytes) e

-- a name that ends with `_bytes`
longer : (before name : List ℕ) → before ++ name ++ codes "_bytes\":" ≡ before ++ (name ++ codes "_bytes") ++ codes "\":"
longer before name = simp append_assoc refl

-- a text is described as a value at its position
pub text_told : (position : Position) (bytes : List ℕ)
    → text_value position bytes ≡ begin_of (text_position position bytes) ++ spelling (text_or_digits bytes)
unfolding text_value begin_with
text_told alone bytes = string_or_digits (λ name. alone) [] bytes refl (is_utf8 bytes)
text_told (first name) bytes = string_or_digits first name bytes (longer (codes "\"") name) (is_utf8 bytes)
text_told (next name) bytes = string_or_digits next name bytes (longer (codes ",\"") name) (is_utf8 bytes)
text_told (element place) bytes = string_or_digits (λ name. element place) [] bytes refl (is_utf8 bytes)
