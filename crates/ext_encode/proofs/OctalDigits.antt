-- Octal digits that are written spell the number, and they come one by one from the last.
use Rattle.std.proofs.Common.{◌≡◌, ℕ, zero, suc, ◌+◌, ◌-◌, ◌*◌, ◌/◌, ◌%◌, ◌^◌, ◌<◌, ◌≤◌, Bool, true, false, cond, ltb}
use Rattle.std.proofs.Common.{List, [], ◌∷◌, ◌++◌, length, drop, set, All, refl, sym, ap, ◌∙◌, append_assoc}
use Rattle.std.proofs.Common.{length-append, arith}
use Rattle.std.specs.Prelude.{◌≢◌}
use Rattle.std.proofs.lemmas.Bool.{ltb-true, ltb-false, lt-ltb, le-ltb}
use Rattle.std.proofs.lemmas.List.{drop-set}
use Rattle.std.proofs.lemmas.List.Elements.{All-nil, All-cons, All-append}
use native.Mathlib.Numerals.{unary_clauses}
use Rattle.index_parts.specs.Octal.{IsOctalDigit, octal_value, IsOctal}
use Rattle.ext_encode.specs.ResolveUndoImage.{octal_before_last, octal_digits}

-- ---- what digits represent with one more after them

power : (n : ℕ) → 8 ^ suc n ≡ 8 * 8 ^ n
power n = simp unary_clauses (omega arith)

regroup : (d p v b next : ℕ) → next ≡ 8 * p → d * next + (8 * v + b) ≡ 8 * (d * p + v) + b
regroup d p v b next e = rw e (omega arith)

value_push : (l : List ℕ) (b : ℕ) → octal_value (l ++ b ∷ []) ≡ 8 * octal_value l + (b - 48)
value_push [] b = omega arith
value_push (c ∷ l) b =
    let len : length (l ++ b ∷ []) ≡ suc (length l) = omega (arith, length-append l (b ∷ [])) in
    let next : 8 ^ length (l ++ b ∷ []) ≡ 8 * 8 ^ length l = ap (λ (n : ℕ). 8 ^ n) len ∙ power (length l) in
    ap (λ (v : ℕ). (c - 48) * 8 ^ length (l ++ b ∷ []) + v) (value_push l b)
    ∙ regroup (c - 48) (8 ^ length l) (octal_value l) (b - 48) (8 ^ length (l ++ b ∷ [])) next

-- ---- a number's digits

-- octal digits that represent a number
abbrev Spells : List ℕ → ℕ → Type 0
Spells text n = All IsOctalDigit text × (octal_value text ≡ n)

digit : (n : ℕ) → IsOctalDigit (48 + n % 8)
digit n = (omega arith, omega arith)

push : (text : List ℕ) (n : ℕ) → Spells text (n / 8) → Spells (text ++ (48 + n % 8) ∷ []) n
push text n h = (
  All-append IsOctalDigit text ((48 + n % 8) ∷ []) h.0
      (All-cons IsOctalDigit (48 + n % 8) [] (digit n) (All-nil IsOctalDigit)),
  omega (arith, value_push text (48 + n % 8), h.1),
)

leads_by : (most n : ℕ) (t : Bool) → ltb n 8 ≡ t → (8 ≤ n → Spells (octal_before_last most (n / 8)) (n / 8 / 8))
    → Spells (cond t [] (octal_before_last most (n / 8) ++ (48 + n / 8 % 8) ∷ [])) (n / 8)
leads_by most n true e more = (All-nil IsOctalDigit, omega (arith, ltb-true n 8 e))
leads_by most n false e more = push (octal_before_last most (n / 8)) (n / 8) (more (ltb-false n 8 e))

leads : (most n : ℕ) → n < 8 ^ suc most → Spells (octal_before_last most n) (n / 8)
unfolding octal_before_last
leads zero n lt = (All-nil IsOctalDigit, omega (arith, power 0, lt))
leads (suc most) n lt =
    leads_by most n (ltb n 8) refl (λ le. leads most (n / 8) (omega (arith, power (suc most), lt, le)))

some_digit : (l : List ℕ) (b : ℕ) → l ++ b ∷ [] ≢ []
some_digit [] b e = absurd cc
some_digit (c ∷ l) b e = absurd cc

pub digits_spell : (n : ℕ) → n < 2 ^ 32 → IsOctal (octal_digits n) n
unfolding octal_digits
digits_spell n lt =
    let s = push (octal_before_last 10 n) n (leads 10 n (omega arith)) in
    record { some = some_digit (octal_before_last 10 n) (48 + n % 8); digits = s.0; value = sym s.1; fits = lt }

-- ---- digit by digit, from the last

pub digits_last : (n : ℕ) → octal_before_last 10 n ++ (48 + n % 8) ∷ [] ≡ octal_digits n
unfolding octal_digits
digits_last n = refl

-- one digit more
pub digits_next : (n start high : ℕ) (bytes : List ℕ) → 8 ≤ high → high < 8 ^ (start + 1) → start < length bytes
    → octal_before_last start high ++ drop start bytes ≡ octal_digits n
    → octal_before_last (start - 1) (high / 8) ++ drop (start - 1) (set bytes (start - 1) (48 + high / 8 % 8))
    ≡ octal_digits n
unfolding octal_before_last
digits_next n zero high bytes le lt h e = absurd (omega (arith, power 0))
digits_next n (suc k) high bytes le lt h e =
    let c : ℕ = 48 + high / 8 % 8 in
    let large : ltb high 8 ≡ false = le-ltb high 8 le in
    let fewer : suc k - 1 ≡ k = omega arith in
    let more : k + 1 ≡ suc k = omega arith in
    let set_there : drop k (set bytes k c) ≡ c ∷ drop (suc k) bytes =
    drop-set bytes k c (omega arith) ∙ ap (λ (i : ℕ). c ∷ drop i bytes) more in
    let parts : octal_before_last k (high / 8) ++ c ∷ drop (suc k) bytes
    ≡ octal_before_last (suc k) high ++ drop (suc k) bytes =
    rw large (sym (append_assoc (octal_before_last k (high / 8)) (c ∷ []) (drop (suc k) bytes))) in
    rw fewer (ap (λ (l : List ℕ). octal_before_last k (high / 8) ++ l) set_there ∙ parts ∙ e)

-- there is room for it
pub room_next : (start high : ℕ) → high < 8 ^ (start + 1) → 8 ≤ high
    → (1 ≤ start) × (high / 8 < 8 ^ (start - 1 + 1))
room_next zero high lt le = absurd (omega (arith, power 0))
room_next (suc k) high lt le =
    let e : suc k - 1 + 1 ≡ suc k = omega arith in
    let f : suc k + 1 ≡ suc (suc k) = omega arith in
    (omega arith, rw e (omega (arith, power (suc k), ap (λ (i : ℕ). 8 ^ i) f)))

-- before no digit there is none
pub digits_all : (n start high : ℕ) (bytes : List ℕ) → high < 8
    → octal_before_last start high ++ drop start bytes ≡ octal_digits n → drop start bytes ≡ octal_digits n
unfolding octal_before_last
digits_all n zero high bytes lt e = e
digits_all n (suc k) high bytes lt e = let small : ltb high 8 ≡ true = lt-ltb high 8 lt in rw small at e
