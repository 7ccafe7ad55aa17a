-- The text of members one after another, and of what follows them.
use Rattle.std.proofs.Common.{◌≡◌, ℕ, true, List, [], ◌++◌, append_assoc, ap, codes, refl, sym, ◌∙◌}
use Rattle.json.specs.Print.{quoted}
use Rattle.view_json.specs.Names.{first}
use Rattle.view_json.specs.Values.{begin_with, text_value}
use Rattle.view_json_laws.specs.EventValues.{text_name, text_or_digits}
use Rattle.view_json_laws.specs.Telling.{are_plain}
use Rattle.view_json_laws.specs.Value.{Members, Value, member, members_spelling, no_members, spelling}
use Rattle.view_json_laws.proofs.Pieces.{IsPlain, name_text, plain_name, plain_text_name, text_told}

-- a text is that of members, and what follows them
pub record Spells (text before : List ℕ) (ms : Members) (after : List ℕ) : Type 0 where
  pub is : text ≡ members_spelling before ms ++ after

pub none_spelled : (before after : List ℕ) → Spells after before no_members after
none_spelled before after = record { is = refl }

-- what precedes a member's value
abbrev pub named : List ℕ → List ℕ → List ℕ
named before name = before ++ codes "\"" ++ name ++ codes "\":"

named_text : (before name : List ℕ) → IsPlain name → named before name ≡ before ++ quoted name ++ codes ":"
named_text before name p =
    ap (λ (l : List ℕ). l ++ codes "\":") (append_assoc before (codes "\"") name)
    ∙ append_assoc before (codes "\"" ++ name) (codes "\":") ∙ ap (λ (l : List ℕ). before ++ l) (name_text name p)
    ∙ sym (append_assoc before (quoted name) (codes ":"))

-- a member, and others after it
pub member_spelled : {text after : List ℕ} {ms : Members} (before name value : List ℕ) (x : Value) → IsPlain name
    → value ≡ spelling x → Spells text (codes ",") ms after
    → Spells (named before name ++ value ++ text) before (member name x ms) after
member_spelled {text} {after} {ms} before name value x p e others = record {
  is = ap (λ (l : List ℕ). l ++ value ++ text) (named_text before name p)
      ∙ ap (λ (l : List ℕ). before ++ quoted name ++ codes ":" ++ l ++ text) e
      ∙ ap (λ (l : List ℕ). before ++ quoted name ++ codes ":" ++ spelling x ++ l) others.is
      ∙ sym (append_assoc (before ++ quoted name ++ codes ":" ++ spelling x) (members_spelling (codes ",") ms) after);
}

-- a text as the first member of an object
pub text_spelled : {text after : List ℕ} {ms : Members} (name bytes : List ℕ) → are_plain name ≡ true
    → Spells text (codes ",") ms after
    → Spells (text_value (first name) bytes ++ text) [] (member (text_name name bytes) (text_or_digits bytes) ms) after
unfolding begin_with
text_spelled {text} {after} {ms} name bytes p others = record {
  is = ap (λ (l : List ℕ). l ++ text) (text_told (first name) bytes)
      ∙ (member_spelled [] (text_name name bytes) (spelling (text_or_digits bytes)) (text_or_digits bytes)
      (plain_name (text_name name bytes) (plain_text_name name bytes p)) refl others).is;
}
