-- What is read of octal digits is spelled so, and what is spelled so is read.
use Rattle.std.proofs.Common.{◌≡◌, ℕ, suc, ◌+◌, ◌-◌, ◌*◌, ◌^◌, ◌<◌, ◌≤◌, Bool, true, false, cond, eqb, ltb, not, List}
use Rattle.std.proofs.Common.{[], ◌∷◌, length, Option, Some, None, All, refl, sym, ap, subst, ◌∙◌, arith}
use Rattle.std.specs.Prelude.{◌≢◌, ◌&&◌}
use Rattle.std.specs.List.{list_all}
use Rattle.std.proofs.lemmas.Bool.{ltb-true, lt-ltb, ne_eqb, leb-true, le-leb, and_parts, and_from}
use Rattle.std.proofs.lemmas.List.Elements.{All-nil, All-cons, All-head, All-tail}
use native.Mathlib.Numerals.{unary_clauses}
use Rattle.index_parts.specs.Octal.{IsOctalDigit, is_octal_digit, octal_value, IsOctal, octal_number}

-- ---- digits

digit_is : (b : ℕ) → is_octal_digit b ≡ true → IsOctalDigit b
digit_is b e = let parts = and_parts _ _ e in (leb-true _ _ parts.0, leb-true _ _ parts.1)

is_digit : (b : ℕ) → IsOctalDigit b → is_octal_digit b ≡ true
is_digit b h = and_from _ _ (le-leb _ _ h.0) (le-leb _ _ h.1)

all_digits : (text : List ℕ) → list_all is_octal_digit text ≡ true → All IsOctalDigit text
all_digits [] e = All-nil IsOctalDigit
all_digits (b ∷ text) e =
    let parts = and_parts _ _ e in All-cons IsOctalDigit b text (digit_is b parts.0) (all_digits text parts.1)

digits_all : (text : List ℕ) → All IsOctalDigit text → list_all is_octal_digit text ≡ true
digits_all [] h = refl
digits_all (b ∷ text) h = and_from _ _ (is_digit b (All-head IsOctalDigit b text h))
    (digits_all text (All-tail IsOctalDigit b text h))

some_byte : (text : List ℕ) → not (eqb (length text) 0) ≡ true → text ≢ []
some_byte [] e = absurd cc
some_byte (b ∷ text) e = λ none. absurd cc

pub octal_takes : (text : List ℕ) (n : ℕ) → octal_number text ≡ Some n → IsOctal text n
unfolding octal_number
octal_takes text n e = by (not (eqb (length text) 0) && list_all is_octal_digit text)
    (ltb (octal_value text) (2 ^ 32)) refl refl e
  where
    by : (t u : Bool) → (not (eqb (length text) 0) && list_all is_octal_digit text) ≡ t
        → ltb (octal_value text) (2 ^ 32) ≡ u → cond t (cond u (Some (octal_value text)) None) None ≡ Some n
        → IsOctal text n
    by false u d f k = absurd cc
    by true false d f k = absurd cc
    by true true d f k =
        let is : octal_value text ≡ n = cc in
        let parts = and_parts _ _ d in
        record {
          some = some_byte text parts.0;
          digits = all_digits text parts.1;
          value = sym is;
          fits = rw (← is) (ltb-true _ _ f);
        }

pub octal_again : (text : List ℕ) (n : ℕ) → IsOctal text n → octal_number text ≡ Some n
unfolding octal_number
octal_again [] n h = absurd (h.some refl)
octal_again (b ∷ text) n h =
    let some : eqb (length (b ∷ text)) 0 ≡ false = ne_eqb (length (b ∷ text)) 0 (λ e. omega (arith, e)) in
    let digits : list_all is_octal_digit (b ∷ text) ≡ true = digits_all (b ∷ text) h.digits in
    let less : ltb (octal_value (b ∷ text)) (2 ^ 32) ≡ true = lt-ltb _ _ (rw (← h.value) h.fits) in
    rw (some, digits, less) (ap Some (sym h.value))

pub octal_none : (text : List ℕ) → eqb (length text) 0 ≡ true → octal_number text ≡ None
unfolding octal_number
octal_none text e = rw e refl

-- ---- digit after digit

-- the value of octal digits after others of the value `high`
abbrev pub octal_from : ℕ → List ℕ → Option ℕ
octal_from high [] = Some high
octal_from high (b ∷ text) =
    cond (is_octal_digit b) (cond (ltb (high * 8 + (b - 48)) (2 ^ 32)) (octal_from (high * 8 + (b - 48)) text) None) None

-- the value of digits after others of the value `high`
abbrev whole : ℕ → List ℕ → ℕ
whole high text = high * 8 ^ length text + octal_value text

next_power : (n : ℕ) → 8 ^ suc n ≡ 8 * 8 ^ n
next_power n = simp unary_clauses (omega arith)

shifted : (high digit power value next : ℕ) → next ≡ 8 * power
    → high * next + (digit * power + value) ≡ (high * 8 + digit) * power + value
shifted high digit power value next e = rw e (omega arith)

whole_next : (high b : ℕ) (text : List ℕ) → whole high (b ∷ text) ≡ whole (high * 8 + (b - 48)) text
whole_next high b text =
    shifted high (b - 48) (8 ^ length text) (octal_value text) (8 ^ length (b ∷ text)) (next_power (length text))

whole_nil : (high : ℕ) → whole high [] ≡ high
whole_nil high = omega arith

at_least : (high : ℕ) (text : List ℕ) → high ≤ whole high text
at_least high [] = omega arith
at_least high (b ∷ text) = omega (arith, whole_next high b text, at_least (high * 8 + (b - 48)) text)

abbrev Spells : ℕ → List ℕ → ℕ → Type 0
Spells high text n = All IsOctalDigit text × (n ≡ whole high text) × (n < 2 ^ 32)

spells_next : (t u : Bool) (high b : ℕ) (text : List ℕ) (n : ℕ) → is_octal_digit b ≡ t
    → ltb (high * 8 + (b - 48)) (2 ^ 32) ≡ u
    → cond t (cond u (octal_from (high * 8 + (b - 48)) text) None) None ≡ Some n
    → (high * 8 + (b - 48) < 2 ^ 32 → octal_from (high * 8 + (b - 48)) text ≡ Some n
    → Spells (high * 8 + (b - 48)) text n) → Spells high (b ∷ text) n
spells_next false u high b text n d f e more = absurd cc
spells_next true false high b text n d f e more = absurd cc
spells_next true true high b text n d f e more =
    let s = more (ltb-true _ _ f) e in
    (All-cons IsOctalDigit b text (digit_is b d) s.0, s.1 ∙ sym (whole_next high b text), s.2)

from_takes : (high : ℕ) (text : List ℕ) (n : ℕ) → high < 2 ^ 32 → octal_from high text ≡ Some n → Spells high text n
from_takes high [] n small e =
    let is : high ≡ n = cc in
    (All-nil IsOctalDigit, omega (arith, whole_nil high), omega arith)
from_takes high (b ∷ text) n small e = spells_next (is_octal_digit b) (ltb (high * 8 + (b - 48)) (2 ^ 32)) high b text n
    refl refl e (λ less f. from_takes (high * 8 + (b - 48)) text n less f)

from_again : (high : ℕ) (text : List ℕ) → All IsOctalDigit text → whole high text < 2 ^ 32
    → octal_from high text ≡ Some (whole high text)
from_again high [] digits fits = let is : whole high [] ≡ high = whole_nil high in rw is refl
from_again high (b ∷ text) digits fits =
    let digit : is_octal_digit b ≡ true = is_digit b (All-head IsOctalDigit b text digits) in
    let less : ltb (high * 8 + (b - 48)) (2 ^ 32) ≡ true =
    lt-ltb _ _ (omega (arith, fits, whole_next high b text, at_least (high * 8 + (b - 48)) text)) in
    let rest = from_again (high * 8 + (b - 48)) text (All-tail IsOctalDigit b text digits)
    (omega (arith, fits, whole_next high b text)) in
    rw (digit, less, whole_next high b text) rest

same_option : (a b : Option ℕ) → ((n : ℕ) → a ≡ Some n → b ≡ Some n) → ((n : ℕ) → b ≡ Some n → a ≡ Some n) → a ≡ b
same_option None None f g = refl
same_option None (Some n) f g = g n refl
same_option (Some n) b f g = sym (f n refl)

-- from the first digit on
pub octal_first : (text : List ℕ) → eqb (length text) 0 ≡ false → octal_from 0 text ≡ octal_number text
octal_first [] h = absurd cc
octal_first (b ∷ text) h = same_option _ _ (λ n e. octal_again (b ∷ text) n (let s = from_takes 0 (b ∷ text) n (omega arith) e in
    record { some = λ none. absurd cc; digits = s.0; value = omega (arith, s.1); fits = s.2 }))
    (λ n e. let t = octal_takes (b ∷ text) n e in
    let is : whole 0 (b ∷ text) ≡ n = omega (arith, t.value) in
    from_again 0 (b ∷ text) t.digits (rw is t.fits) ∙ ap Some is)

-- ---- the text has no other byte, and has at least one

pub octal_without : (b : ℕ) (text : List ℕ) (n : ℕ) → (IsOctalDigit b → ⊥) → IsOctal text n → All (λ x. x ≢ b) text
octal_without b text n other h = λ k d lt e. other (subst (λ (x : ℕ). IsOctalDigit x) e (h.digits k d lt))

pub octal_some : (text : List ℕ) (n : ℕ) → IsOctal text n → 1 ≤ length text
octal_some [] n h = absurd (h.some refl)
octal_some (b ∷ text) n h = omega arith
