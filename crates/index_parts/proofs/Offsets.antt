-- What is read as an offset number is spelled so, and what is spelled so is read.
use Rattle.std.proofs.Common.{◌≡◌, ℕ, suc, ◌+◌, ◌*◌, ◌%◌, ◌^◌, ◌<◌, ◌≤◌, Bool, true, false, cond, ltb, List, [], ◌∷◌}
use Rattle.std.proofs.Common.{◌++◌, length, Option, Some, None, refl, sym, ap, subst, ◌∙◌, arith}
use Rattle.std.proofs.lemmas.Bool.{ltb-true, ltb-false, lt-ltb, le-ltb}
use Rattle.std.proofs.lemmas.Option.{same_Some}
use native.Mathlib.Numerals.{unary_clauses}
use Rattle.std.specs.Prelude.{IfSome, IfNone}
use Rattle.std.specs.Option.{option_map}
use Rattle.index_parts.specs.Offset.{AreContinued, digits_value, powers_sum, IsOffset, StartsWithOffset}
use Rattle.index_parts.specs.ReadingSteps.{offset_from, offset_at}

-- a number that has grown too large is none
pub offset_over : (high : ℕ) (bytes : List ℕ) → 2 ^ 64 ≤ high * 128 → offset_from high bytes ≡ None
offset_over high [] big = refl
offset_over high (b ∷ bytes) big =
    let over : ltb (high * 128 + b % 128) (2 ^ 64) ≡ false = le-ltb _ _ (omega arith) in
    rw over refl

-- the value of the bytes after a higher part
abbrev total : ℕ → List ℕ → ℕ
total high bytes = high * 128 ^ length bytes + digits_value bytes + powers_sum bytes

regroup : (h d p s t q : ℕ) → q ≡ 128 * p → h * q + (d * p + s) + (p + t) ≡ (h * 128 + d + 1) * p + s + t
regroup h d p s t q e = rw e (omega arith)

power : (n : ℕ) → 128 ^ suc n ≡ 128 * 128 ^ n
power n = simp unary_clauses (omega arith)

-- the first byte goes into the higher part
total_next : (high b c : ℕ) (bytes : List ℕ) → total high (b ∷ c ∷ bytes) ≡ total (high * 128 + b % 128 + 1) (c ∷ bytes)
total_next high b c bytes = regroup high (b % 128) (128 ^ length (c ∷ bytes)) (digits_value (c ∷ bytes))
    (powers_sum (c ∷ bytes)) (128 ^ length (b ∷ c ∷ bytes)) (power (length (c ∷ bytes)))

last_total : (high b : ℕ) → total high (b ∷ []) ≡ high * 128 + b % 128
last_total high b = omega arith

pub record Spells (high : ℕ) (bytes rest : List ℕ) (n : ℕ) : Type 0 where
  pub text : List ℕ
  pub parts : bytes ≡ text ++ rest
  pub continued : AreContinued text
  pub value : n ≡ total high text
  pub fits : n < 2 ^ 64

-- a byte with the continuation bit before others
continued_more : (b : ℕ) (text : List ℕ) → 128 ≤ b → AreContinued text → AreContinued (b ∷ text)
continued_more b [] le m = absurd m
continued_more b (c ∷ text) le m = (le, m)

total_more : (high b : ℕ) (text : List ℕ) → AreContinued text
    → total high (b ∷ text) ≡ total (high * 128 + b % 128 + 1) text
total_more high b [] m = absurd m
total_more high b (c ∷ text) m = total_next high b c text

guard_by : {A : Type 0} (t : Bool) (o : Option A) (x : A) → cond t o None ≡ Some x → (t ≡ true) × (o ≡ Some x)
guard_by true o x e = (refl, e)
guard_by false o x e = absurd cc

spells_by : (t : Bool) (high b : ℕ) (bytes : List ℕ) (x : ℕ × List ℕ)
    → ((h : ℕ) → offset_from h bytes ≡ Some x → Spells h bytes x.1 x.0) → ltb b 128 ≡ t → high * 128 + b % 128 < 2 ^ 64
    → cond t (Some (high * 128 + b % 128, bytes))
    (cond (ltb (high * 128 + b % 128 + 1) (2 ^ 64)) (offset_from (high * 128 + b % 128 + 1) bytes) None) ≡ Some x
    → Spells high (b ∷ bytes) x.1 x.0
spells_by true high b bytes x others e lt h =
    subst (λ (y : ℕ × List ℕ). Spells high (b ∷ bytes) y.1 y.0) (same_Some _ _ h)
    (record { text = b ∷ []; parts = refl; continued = ltb-true _ _ e; value = sym (last_total high b); fits = lt })
spells_by false high b bytes x others e lt h =
    let g = guard_by (ltb (high * 128 + b % 128 + 1) (2 ^ 64)) _ x h in
    let more = others (high * 128 + b % 128 + 1) g.1 in
    record {
      text = b ∷ more.text;
      parts = ap (λ (l : List ℕ). b ∷ l) more.parts;
      continued = continued_more b more.text (ltb-false _ _ e) more.continued;
      value = more.value ∙ sym (total_more high b more.text more.continued);
      fits = more.fits;
    }

spells_from : (high : ℕ) (bytes : List ℕ) (x : ℕ × List ℕ) → offset_from high bytes ≡ Some x → Spells high bytes x.1 x.0
spells_from high [] x e = absurd cc
spells_from high (b ∷ bytes) x e =
    let g = guard_by (ltb (high * 128 + b % 128) (2 ^ 64)) _ x e in
    spells_by (ltb b 128) high b bytes x (λ h k. spells_from h bytes x k) refl (ltb-true _ _ g.0) g.1

-- the part read so far is not above the whole
above : (high : ℕ) (text : List ℕ) → AreContinued text → high ≤ total high text
above high [] m = absurd m
above high (b ∷ []) m = omega (arith, last_total high b)
above high (b ∷ c ∷ text) m = omega (arith, total_next high b c text, above (high * 128 + b % 128 + 1) (c ∷ text) m.1)

pub read_again : (high : ℕ) (text rest : List ℕ) (n : ℕ) → AreContinued text → n ≡ total high text → n < 2 ^ 64
    → offset_from high (text ++ rest) ≡ Some (n, rest)
read_again high [] rest n m e lt = absurd m
read_again high (b ∷ []) rest n m e lt =
    let is : n ≡ high * 128 + b % 128 = e ∙ last_total high b in
    let one : ltb (high * 128 + b % 128) (2 ^ 64) ≡ true = lt-ltb _ _ (omega arith) in
    let two : ltb b 128 ≡ true = lt-ltb _ _ m in
    rw (one, two, is) refl
read_again high (b ∷ c ∷ text) rest n m e lt =
    let is : n ≡ total (high * 128 + b % 128 + 1) (c ∷ text) = e ∙ total_next high b c text in
    let low : high * 128 + b % 128 + 1 ≤ n = omega (arith, above (high * 128 + b % 128 + 1) (c ∷ text) m.1) in
    let one : ltb (high * 128 + b % 128) (2 ^ 64) ≡ true = lt-ltb _ _ (omega arith) in
    let two : ltb b 128 ≡ false = le-ltb _ _ m.0 in
    let three : ltb (high * 128 + b % 128 + 1) (2 ^ 64) ≡ true = lt-ltb _ _ (omega arith) in
    rw (one, two, three) (read_again (high * 128 + b % 128 + 1) (c ∷ text) rest n m.1 is lt)

pub offset_takes : (bytes : List ℕ) (x : ℕ × List ℕ) → offset_at bytes ≡ Some x → StartsWithOffset bytes x.0 x.1
offset_takes bytes x e =
    let s = spells_from 0 bytes x e in
    record {
      spelling = s.text;
      parts = s.parts;
      is_offset = record { continued = s.continued; value = omega (arith, s.value); fits = s.fits };
    }

offset_spelled : (text rest : List ℕ) (n : ℕ) → IsOffset text n → offset_at (text ++ rest) ≡ Some (n, rest)
offset_spelled text rest n h = read_again 0 text rest n h.continued (omega (arith, h.value)) h.fits

pub offset_again : (bytes : List ℕ) (n : ℕ) (rest : List ℕ) → StartsWithOffset bytes n rest
    → offset_at bytes ≡ Some (n, rest)
offset_again bytes n rest h = ap offset_at h.parts ∙ offset_spelled h.spelling rest n h.is_offset

-- ---- the properties of a number that is found, and the consequences if none is

pub found_offset : {X : Type 0} (f : X → ℕ × List ℕ) (bytes : List ℕ) (o : Option X) → option_map f o ≡ offset_at bytes
    → IfSome o (λ x. StartsWithOffset bytes (f x).0 (f x).1)
found_offset f bytes None e = tt
found_offset f bytes (Some x) e = offset_takes bytes (f x) (sym e)

pub no_offset : {X : Type 0} (f : X → ℕ × List ℕ) (bytes : List ℕ) (o : Option X) → option_map f o ≡ offset_at bytes
    → IfNone o ((n : ℕ) (rest : List ℕ) → StartsWithOffset bytes n rest → ⊥)
no_offset f bytes None e = λ n rest h. let g = e ∙ offset_again bytes n rest h in cc
no_offset f bytes (Some x) e = tt

no_offset_by : (bytes : List ℕ) (o : Option (ℕ × List ℕ)) → offset_at bytes ≡ o
    → ((n : ℕ) (rest : List ℕ) → StartsWithOffset bytes n rest → ⊥) → None ≡ offset_at bytes
no_offset_by bytes None e none = sym e
no_offset_by bytes (Some x) e none = absurd (none x.0 x.1 (offset_takes bytes x e))

-- an answer that is right in both cases is the function's
pub offset_exact : {X : Type 0} (f : X → ℕ × List ℕ) (bytes : List ℕ) (o : Option X)
    → IfSome o (λ x. StartsWithOffset bytes (f x).0 (f x).1)
    → IfNone o ((n : ℕ) (rest : List ℕ) → StartsWithOffset bytes n rest → ⊥) → option_map f o ≡ offset_at bytes
offset_exact f bytes None found none = no_offset_by bytes (offset_at bytes) refl none
offset_exact f bytes (Some x) found none = sym (offset_again bytes (f x).0 (f x).1 found)
