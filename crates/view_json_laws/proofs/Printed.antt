-- The text of a value is what the kit's grammar reads as that value.
use Rattle.std.proofs.Common.{◌≡◌, ℕ, zero, suc, ◌<◌, ◌/◌, ◌%◌, Bool, true, false, cond}
use Rattle.std.proofs.Common.{◌&&◌, List, [], ◌∷◌, ◌++◌}
use Rattle.std.proofs.Common.{All, append_assoc, append-nil, ap, ap₂, arith, codes, decimal, refl, subst, sym}
use Rattle.std.proofs.Common.{◌∙◌, inl, inr}
use Rattle.std.specs.Prelude.{slice_index}
use Rattle.std.proofs.lemmas.Bool.{and_parts, cases_eq}
use Rattle.hex.specs.Hex.{encode_lower, encode_with, lower_digits}
use Rattle.json.proofs.Printed.Decimals.{IsNumber-decimal}
use Rattle.json.proofs.Printed.Tokens.{tokens-print}
use Rattle.json.proofs.Printed.Trees.{ArePrintable-json_tokens, value-json_tokens}
use Rattle.json.specs.Json.{value}
use Rattle.json.specs.Lex.{tokens}
use Rattle.json.specs.Print.{escape, escape_byte, print, print_from, quoted}
use Rattle.json.specs.Token.{Token}
use Rattle.json.specs.Tree.{HasNumbers, ItemsHaveNumbers, MembersHaveNumbers, depth, items_tokens, json_tokens}
use Rattle.json.specs.Tree.{members_tokens}
use Rattle.view_json_laws.specs.Reading.{FitsWords, IsJson, ItemsFitWords, MembersFitWords, json_items}
use Rattle.view_json_laws.specs.Reading.{json_members, json_of}
use Rattle.view_json_laws.specs.Value.{Items, Members, Value, array, boolean, digits, item, items_spelling}
use Rattle.view_json_laws.specs.Value.{member, members_spelling}
use Rattle.view_json_laws.specs.Value.{no_items, no_members, null, number, object, spelling, string}
use Rattle.view_json_laws.proofs.OneReading.{one_value}
use Rattle.view_json_laws.specs.Telling.{is_plain}
use Rattle.view_json_laws.proofs.Pieces.{between, plain_alone}

-- ---- digits are their own text

abbrev digits_below : ℕ → Bool
digits_below zero = true
digits_below (suc n) = is_plain (slice_index lower_digits n) && digits_below n

digit_below : (n : ℕ) → digits_below n ≡ true → (d : ℕ) → d < n → is_plain (slice_index lower_digits d) ≡ true
digit_below zero e d h = absurd (omega arith)
digit_below (suc n) e d h =
    let p = and_parts (is_plain (slice_index lower_digits n)) (digits_below n) e in
    elim (cases_eq d n) [ inl same ↦ rw same p.0 | inr other ↦ digit_below n p.1 d (omega arith) ]

digit : (d : ℕ) → d < 16 → escape_byte (slice_index lower_digits d) ≡ slice_index lower_digits d ∷ []
digit d h = plain_alone (slice_index lower_digits d) (digit_below 16 refl d h)

hex_plain : (bytes : List ℕ) → All (λ b. b < 256) bytes → escape (encode_lower bytes) ≡ encode_lower bytes
unfolding encode_with
hex_plain [] h = refl
hex_plain (b ∷ bs) h =
    let small : b < 256 = h zero 0 (omega arith) in
    ap₂ (λ (x y : List ℕ). x ++ y) (digit (b / 16) (omega arith))
    (ap₂ (λ (x y : List ℕ). x ++ y) (digit (b % 16) (omega arith)) (hex_plain bs (λ k d l. h (suc k) d (omega arith))))

-- ---- the tokens of a value are printed as its text

abbrev comma : Bool → List ℕ
comma b = cond b (codes ",") []

atom : (b : Bool) (text rest : List ℕ) → cond (b && true) (44 ∷ []) [] ++ (text ++ rest) ≡ comma b ++ text ++ rest
atom true text rest = refl
atom false text rest = refl

closing : (b : Bool) (text : List ℕ) → cond (b && false) (44 ∷ []) [] ++ text ≡ text
closing true text = refl
closing false text = refl

member_and : (s q k x m z : List ℕ) → s ++ (q ++ k) ++ (x ++ (m ++ z)) ≡ s ++ q ++ k ++ x ++ m ++ z
member_and s q k x m z = simp append_assoc

mutual
  unfolding print_from

  value_print : (v : Value) (b : Bool) (ts : List Token) → FitsWords v
      → print_from b (json_tokens (json_of v) ++ ts) ≡ comma b ++ spelling v ++ print_from true ts
  value_print null b ts h = atom b (codes "null") (print_from true ts)
  value_print (boolean true) b ts h = atom b (codes "true") (print_from true ts)
  value_print (boolean false) b ts h = atom b (codes "false") (print_from true ts)
  value_print (number n) b ts h = atom b (decimal n) (print_from true ts)
  value_print (string s) b ts h = atom b (quoted s) (print_from true ts)
  value_print (digits bytes) b ts h =
      atom b (quoted (encode_lower bytes)) (print_from true ts)
      ∙ ap (λ (l : List ℕ). comma b ++ (34 ∷ (l ++ codes "\"")) ++ print_from true ts) (hex_plain bytes h)
  value_print (array xs) b ts h =
      atom b (codes "[") (print_from false (items_tokens (json_items xs) ++ ts))
      ∙ between (comma b) (codes "[") (items_spelling [] xs) (codes "]") (print_from true ts)
      (print_from false (items_tokens (json_items xs) ++ ts)) (items_print xs false ts h)
  value_print (object ms) b ts h =
      atom b (codes "{") (print_from false (members_tokens (json_members ms) ++ ts))
      ∙ between (comma b) (codes "{") (members_spelling [] ms) (codes "}") (print_from true ts)
      (print_from false (members_tokens (json_members ms) ++ ts)) (members_print ms false ts h)

  items_print : (xs : Items) (b : Bool) (ts : List Token) → ItemsFitWords xs
      → print_from b (items_tokens (json_items xs) ++ ts)
      ≡ items_spelling (comma b) xs ++ (codes "]" ++ print_from true ts)
  items_print no_items b ts h = closing b (codes "]" ++ print_from true ts)
  items_print (item x xs) b ts h =
      ap (print_from b) (append_assoc (json_tokens (json_of x)) (items_tokens (json_items xs)) ts)
      ∙ value_print x b (items_tokens (json_items xs) ++ ts) h.0
      ∙ ap (λ (l : List ℕ). comma b ++ spelling x ++ l) (items_print xs true ts h.1)
      ∙ sym (append_assoc (comma b ++ spelling x) (items_spelling (codes ",") xs) (codes "]" ++ print_from true ts))

  members_print : (ms : Members) (b : Bool) (ts : List Token) → MembersFitWords ms
      → print_from b (members_tokens (json_members ms) ++ ts)
      ≡ members_spelling (comma b) ms ++ (codes "}" ++ print_from true ts)
  members_print no_members b ts h = closing b (codes "}" ++ print_from true ts)
  members_print (member name x ms) b ts h =
      let inside = (json_tokens (json_of x) ++ members_tokens (json_members ms)) ++ ts in
      atom b (quoted name ++ codes ":") (print_from false inside)
      ∙ ap (λ (l : List ℕ). comma b ++ (quoted name ++ codes ":") ++ l)
      (ap (print_from false) (append_assoc (json_tokens (json_of x)) (members_tokens (json_members ms)) ts)
      ∙ value_print x false (members_tokens (json_members ms) ++ ts) h.0
      ∙ ap (λ (l : List ℕ). spelling x ++ l) (members_print ms true ts h.1))
      ∙ member_and (comma b) (quoted name) (codes ":") (spelling x) (members_spelling (codes ",") ms)
      (codes "}" ++ print_from true ts)

mutual
  has_numbers : (v : Value) → FitsWords v → HasNumbers (json_of v)
  has_numbers null h = tt
  has_numbers (boolean holds) h = tt
  has_numbers (number n) h = IsNumber-decimal n h
  has_numbers (string s) h = tt
  has_numbers (digits bytes) h = tt
  has_numbers (array xs) h = items_have_numbers xs h
  has_numbers (object ms) h = members_have_numbers ms h

  items_have_numbers : (xs : Items) → ItemsFitWords xs → ItemsHaveNumbers (json_items xs)
  items_have_numbers no_items h = tt
  items_have_numbers (item x xs) h = (has_numbers x h.0, items_have_numbers xs h.1)

  members_have_numbers : (ms : Members) → MembersFitWords ms → MembersHaveNumbers (json_members ms)
  members_have_numbers no_members h = tt
  members_have_numbers (member name x ms) h = (has_numbers x h.0, members_have_numbers ms h.1)

printed : (v : Value) → FitsWords v → print (json_tokens (json_of v)) ≡ spelling v
unfolding print_from
printed v h =
    ap print (sym (append-nil (json_tokens (json_of v)))) ∙ value_print v false [] h ∙ append-nil (spelling v)

pub spelling_is_json : (v : Value) → FitsWords v → IsJson (spelling v) (json_of v)
spelling_is_json v h =
    let j = json_of v in
    let ts = json_tokens j in
    let e : tokens (spelling v) ≡ ts ++ [] =
    ap tokens (sym (printed v h)) ∙ tokens-print ts (ArePrintable-json_tokens j (has_numbers v h))
    ∙ sym (append-nil ts) in
    (depth j, ap (value (depth j)) e ∙ value-json_tokens j (depth j) [] (omega arith))

-- two values with one text are one value of the grammar
pub one_spelling : (v w : Value) → FitsWords v → FitsWords w → spelling v ≡ spelling w → json_of v ≡ json_of w
one_spelling v w f g e =
    one_value (spelling w) (json_of v) (json_of w)
    (subst (λ (text : List ℕ). IsJson text (json_of v)) e (spelling_is_json v f)) (spelling_is_json w g)
