-- Strings as the kit's writer writes them, and texts that aren't UTF-8.
use Rattle.std.proofs.Common.{◌≡◌, ℕ, List, [], ◌∷◌, ◌++◌, append-nil, Bool, true, false, ap, codes, ◌∙◌, refl}
use Rattle.std.specs.Str.{IsUtf8, is_utf8}
use Rattle.std.proofs.lemmas.Str.{IsUtf8-from_is_utf8, is_utf8-from_IsUtf8}
use Rattle.json.specs.Print.{print, print_from, quoted}
use Rattle.json.specs.Token.{Token, string}
use Rattle.view_json.specs.Names.{Position}
use Rattle.view_json.specs.Values.{begin_of, begin_with, hex_string, json_string, text_value}

-- the text of one string
one_string : (s : List ℕ) → print (string s ∷ []) ≡ quoted s
unfolding print_from
one_string s = append-nil (quoted s)

pub string_after : (old before new s : List ℕ) (ts : List Token) → before ≡ old → ts ≡ string s ∷ []
    → new ≡ before ++ print ts → new ≡ old ++ quoted s
string_after old before new s ts b t e =
    e ∙ ap (λ (l : List ℕ). l ++ print ts) b ∙ ap (λ (l : List Token). old ++ print l) t
    ∙ ap (λ (l : List ℕ). old ++ l) (one_string s)

pub text_is : (position : Position) (bytes value : List ℕ) → value ≡ bytes → IsUtf8 bytes
    → begin_of position ++ json_string value ≡ text_value position bytes
unfolding text_value
text_is position bytes value e u = let t : is_utf8 bytes ≡ true = is_utf8-from_IsUtf8 bytes u in rw (e, t) refl

not_utf8 : (bytes : List ℕ) (b : Bool) → is_utf8 bytes ≡ b → ¬ (IsUtf8 bytes) → is_utf8 bytes ≡ false
not_utf8 bytes true e u = absurd (u (IsUtf8-from_is_utf8 bytes e))
not_utf8 bytes false e u = e

pub bytes_are : (position : Position) (bytes : List ℕ) → ¬ (IsUtf8 bytes)
    → begin_with position (codes "_bytes\":") ++ hex_string bytes ≡ text_value position bytes
unfolding text_value
bytes_are position bytes u = let t : is_utf8 bytes ≡ false = not_utf8 bytes (is_utf8 bytes) refl u in rw t refl
