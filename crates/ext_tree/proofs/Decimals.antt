-- What is read of digits, and of a count, is spelled so, and what is spelled so is read.
use Rattle.std.proofs.Common.{◌≡◌, ℕ, suc, ◌+◌, ◌-◌, ◌*◌, ◌^◌, ◌<◌, ◌≤◌, Bool, true, false, cond, ltb, eqb, List, []}
use Rattle.std.proofs.Common.{◌∷◌, length, Option, Some, None, All, refl, sym, ap, subst, ◌∙◌, arith}
use Rattle.std.specs.Prelude.{◌≢◌}
use Rattle.std.specs.Char.{is_ascii_digit}
use Rattle.std.proofs.lemmas.Bool.{ltb-true, ltb-false, lt-ltb, le-ltb, leb-true, le-leb, eqb-true, eqb-false, ne_eqb}
use Rattle.std.proofs.lemmas.Bool.{and_parts, and_from}
use Rattle.std.proofs.lemmas.List.Elements.{All-nil, All-cons, All-head, All-tail}
use native.Mathlib.Numerals.{unary_clauses}
use Rattle.index_parts.proofs.Steps.{bind_some, test_some}
use Rattle.index_parts.specs.ReadingSteps.{◌>>=◌}
use Rattle.ext_tree.specs.Decimal.{IsDigit, decimal_value, IsDecimal, IsCount, plain, plus, minus, minus_zero}
use Rattle.ext_tree.specs.NodeSteps.{decimal_from, decimal_of, nonnegative_count, negated_count}
use Rattle.ext_tree.specs.NodeSteps.{entry_count_of}

-- ---- digits

digit_is : (b : ℕ) → is_ascii_digit b ≡ true → IsDigit b
digit_is b e = let parts = and_parts _ _ e in (leb-true _ _ parts.0, leb-true _ _ parts.1)

is_digit : (b : ℕ) → IsDigit b → is_ascii_digit b ≡ true
is_digit b h = and_from _ _ (le-leb _ _ h.0) (le-leb _ _ h.1)

-- the number that digits represent after earlier digits with the value `high`
abbrev whole : ℕ → List ℕ → ℕ
whole high text = high * 10 ^ length text + decimal_value text

regroup : (high digit power value next : ℕ) → next ≡ 10 * power
    → high * next + (digit * power + value) ≡ (high * 10 + digit) * power + value
regroup high digit power value next e = rw e (omega arith)

pub next_power : (n : ℕ) → 10 ^ suc n ≡ 10 * 10 ^ n
next_power n = simp unary_clauses (omega arith)

whole_next : (high b : ℕ) (text : List ℕ) → whole high (b ∷ text) ≡ whole (high * 10 + (b - 48)) text
whole_next high b text =
    regroup high (b - 48) (10 ^ length text) (decimal_value text) (10 ^ length (b ∷ text)) (next_power (length text))

whole_nil : (high : ℕ) → whole high [] ≡ high
whole_nil high = omega arith

at_least : (high : ℕ) (text : List ℕ) → high ≤ whole high text
at_least high [] = omega arith
at_least high (b ∷ text) = omega (arith, whole_next high b text, at_least (high * 10 + (b - 48)) text)

abbrev Spells : ℕ → List ℕ → ℕ → Type 0
Spells high text n = All IsDigit text × (n ≡ whole high text) × (n < 2 ^ 64)

spells_next : (t u : Bool) (high b : ℕ) (text : List ℕ) (n : ℕ) → is_ascii_digit b ≡ t
    → ltb (high * 10 + (b - 48)) (2 ^ 64) ≡ u
    → cond t (cond u (decimal_from (high * 10 + (b - 48)) text) None) None ≡ Some n
    → (high * 10 + (b - 48) < 2 ^ 64 → decimal_from (high * 10 + (b - 48)) text ≡ Some n
    → Spells (high * 10 + (b - 48)) text n) → Spells high (b ∷ text) n
spells_next false u high b text n d f e more = absurd cc
spells_next true false high b text n d f e more = absurd cc
spells_next true true high b text n d f e more =
    let s = more (ltb-true _ _ f) e in
    (All-cons IsDigit b text (digit_is b d) s.0, s.1 ∙ sym (whole_next high b text), s.2)

from_takes : (high : ℕ) (text : List ℕ) (n : ℕ) → high < 2 ^ 64 → decimal_from high text ≡ Some n → Spells high text n
from_takes high [] n small e = let is : high ≡ n = cc in (All-nil IsDigit, omega (arith, whole_nil high), omega arith)
from_takes high (b ∷ text) n small e = spells_next (is_ascii_digit b) (ltb (high * 10 + (b - 48)) (2 ^ 64)) high b text
    n refl refl e (λ less f. from_takes (high * 10 + (b - 48)) text n less f)

from_again : (high : ℕ) (text : List ℕ) → All IsDigit text → whole high text < 2 ^ 64
    → decimal_from high text ≡ Some (whole high text)
from_again high [] digits fits = let is : whole high [] ≡ high = whole_nil high in rw is refl
from_again high (b ∷ text) digits fits =
    let digit : is_ascii_digit b ≡ true = is_digit b (All-head IsDigit b text digits) in
    let less : ltb (high * 10 + (b - 48)) (2 ^ 64) ≡ true =
    lt-ltb _ _ (omega (arith, fits, whole_next high b text, at_least (high * 10 + (b - 48)) text)) in
    let rest = from_again (high * 10 + (b - 48)) text (All-tail IsDigit b text digits)
    (omega (arith, fits, whole_next high b text)) in
    rw (digit, less, whole_next high b text) rest

pub decimal_takes : (text : List ℕ) (n : ℕ) → decimal_of text ≡ Some n → IsDecimal text n
decimal_takes [] n e = absurd cc
decimal_takes (b ∷ text) n e =
    let s = from_takes 0 (b ∷ text) n (omega arith) e in
    record { some = λ none. absurd cc; digits = s.0; value = omega (arith, s.1); fits = s.2 }

pub decimal_again : (text : List ℕ) (n : ℕ) → IsDecimal text n → decimal_of text ≡ Some n
decimal_again [] n h = absurd (h.some refl)
decimal_again (b ∷ text) n h =
    let is : whole 0 (b ∷ text) ≡ n = omega (arith, h.value) in
    from_again 0 (b ∷ text) h.digits (rw is h.fits) ∙ ap Some is

-- ---- counts

nonnegative_takes : (n : ℕ) (count : Option ℕ) → nonnegative_count n ≡ Some count → (n < 2 ^ 31) × (count ≡ Some n)
nonnegative_takes n count e =
    let g = test_some (ltb n (2 ^ 31)) (Some n) count e in
    (ltb-true _ _ g.0, sym g.1)

nonnegative_again : (n : ℕ) → n < 2 ^ 31 → nonnegative_count n ≡ Some (Some n)
nonnegative_again n small = let less : ltb n (2 ^ 31) ≡ true = lt-ltb _ _ small in rw less refl

negated_by : (digits : List ℕ) (n : ℕ) (count : Option ℕ) (t u : Bool) → eqb n 0 ≡ t → ltb (2 ^ 31) n ≡ u
    → cond t (Some (Some 0)) (cond u None (Some None)) ≡ Some count → IsDecimal digits n → IsCount (45 ∷ digits) count
negated_by digits n count true u z o e h =
    let zero_is : n ≡ 0 = eqb-true n 0 z in
    minus_zero digits refl (subst (IsDecimal digits) zero_is h) cc
negated_by digits n count false true z o e h = absurd cc
negated_by digits n count false false z o e h =
    let large : 1 ≤ n = let other = eqb-false n 0 z in omega arith in
    minus digits n refl h large (ltb-false _ _ o) cc

negated_again : (n : ℕ) → 1 ≤ n → n ≤ 2 ^ 31 → negated_count n ≡ Some None
negated_again n low high =
    let some : eqb n 0 ≡ false = ne_eqb n 0 (λ e. omega arith) in
    let small : ltb (2 ^ 31) n ≡ false = le-ltb _ _ high in
    rw (some, small) refl

count_by : (b : ℕ) (text : List ℕ) (count : Option ℕ) (t u : Bool) → eqb b 45 ≡ t → eqb b 43 ≡ u
    → cond t (decimal_of text >>= negated_count)
    (cond u (decimal_of text >>= nonnegative_count) (decimal_of (b ∷ text) >>= nonnegative_count)) ≡ Some count
    → IsCount (b ∷ text) count
count_by b text count true u m p e =
    let d = bind_some (decimal_of text) negated_count count e in
    let sign : b ≡ 45 = eqb-true b 45 m in
    subst (λ (s : ℕ). IsCount (s ∷ text) count) (sym sign)
    (negated_by text d.0 count (eqb d.0 0) (ltb (2 ^ 31) d.0) refl refl d.2 (decimal_takes text d.0 d.1))
count_by b text count false true m p e =
    let d = bind_some (decimal_of text) nonnegative_count count e in
    let sign : b ≡ 43 = eqb-true b 43 p in
    let n = nonnegative_takes d.0 count d.2 in
    plus text d.0 (ap (λ (s : ℕ). s ∷ text) sign) (decimal_takes text d.0 d.1) n.0 n.1
count_by b text count false false m p e =
    let d = bind_some (decimal_of (b ∷ text)) nonnegative_count count e in
    let n = nonnegative_takes d.0 count d.2 in
    plain d.0 (decimal_takes (b ∷ text) d.0 d.1) n.0 n.1

pub count_takes : (text : List ℕ) (count : Option ℕ) → entry_count_of text ≡ Some count → IsCount text count
count_takes [] count e = absurd cc
count_takes (b ∷ text) count e = count_by b text count (eqb b 45) (eqb b 43) refl refl e

unsigned : (text : List ℕ) (n : ℕ) → IsDecimal text n → entry_count_of text ≡ (decimal_of text >>= nonnegative_count)
unsigned [] n h = absurd (h.some refl)
unsigned (b ∷ text) n h =
    let digit = All-head IsDigit b text h.digits in
    let no_minus : eqb b 45 ≡ false = ne_eqb b 45 (λ e. omega arith) in
    let no_plus : eqb b 43 ≡ false = ne_eqb b 43 (λ e. omega arith) in
    rw (no_minus, no_plus) refl

pub count_again : (text : List ℕ) (count : Option ℕ) → IsCount text count → entry_count_of text ≡ Some count
count_again text count (plain n h small is) =
    unsigned text n h ∙ rw (decimal_again text n h, is) (nonnegative_again n small)
count_again text count (plus digits n parts h small is) =
    rw (parts, decimal_again digits n h, is) (nonnegative_again n small)
count_again text count (minus digits n parts h low high is) =
    rw (parts, decimal_again digits n h, is) (negated_again n low high)
count_again text count (minus_zero digits parts h is) = rw (parts, decimal_again digits 0 h, is) refl

-- ---- they contain no separator

pub decimal_apart : (b : ℕ) (text : List ℕ) (n : ℕ) → b < 48 → IsDecimal text n → All (λ x. x ≢ b) text
decimal_apart b text n low h = λ k d lt e. let digit = h.digits k d lt in omega arith

pub count_apart : (text : List ℕ) (count : Option ℕ) → IsCount text count → All (λ x. x ≢ 32) text
count_apart text count (plain n h small is) = decimal_apart 32 text n (omega arith) h
count_apart text count (plus digits n parts h small is) =
    rw parts (All-cons (λ x. x ≢ 32) 43 digits (λ e. omega arith) (decimal_apart 32 digits n (omega arith) h))
count_apart text count (minus digits n parts h low high is) =
    rw parts (All-cons (λ x. x ≢ 32) 45 digits (λ e. omega arith) (decimal_apart 32 digits n (omega arith) h))
count_apart text count (minus_zero digits parts h is) =
    rw parts (All-cons (λ x. x ≢ 32) 45 digits (λ e. omega arith) (decimal_apart 32 digits 0 (omega arith) h))

pub decimal_some : (text : List ℕ) (n : ℕ) → IsDecimal text n → 1 ≤ length text
decimal_some [] n h = absurd (h.some refl)
decimal_some (b ∷ text) n h = omega arith

pub count_some : (text : List ℕ) (count : Option ℕ) → IsCount text count → 1 ≤ length text
count_some text count (plain n d lt e) = decimal_some text n d
count_some text count (plus digits n t d lt e) = omega (arith, ap length t)
count_some text count (minus digits n t d le lt e) = omega (arith, ap length t)
count_some text count (minus_zero digits t d e) = omega (arith, ap length t)
