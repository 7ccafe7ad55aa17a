-- Whether some of a list, or of a part of it, pass a test.
use Rattle.std.proofs.Common.{◌≡◌, ℕ, ◌+◌, ◌-◌, ◌<◌, ◌≤◌, Bool, true, false, ◌&&◌, ◌||◌, List, [], ◌∷◌, length}
use Rattle.std.proofs.Common.{get_or, drop, filter, ltb, ◌⊎◌, inl, inr, Some, None, refl, sym, ap, ◌∙◌, arith, length-take}
use Rattle.std.specs.List.{AllWithin, HoldsAt, list_any}
use Rattle.std.specs.Prelude.{slice_range, cond, is_some, position}
use Rattle.std.specs.List.{position_or_len}
use Rattle.std.proofs.lemmas.Bool.{cases_lt, ltb-false, ltb-true}
use Rattle.std.proofs.lemmas.List.{get_or-take, get_or-drop, length-drop}
use Rattle.std.proofs.lemmas.List.Folds.{list_any_at, list_any_none}
use Rattle.std.proofs.lemmas.List.Sums.{fails_before_first, passes_at_first}
use Rattle.entry_lookup.proofs.Closest.{any_here}

part_at : {X : Type 0} (xs : List X) (start end k : ℕ) (d : X) → start + k < end
    → get_or (slice_range xs start end) k d ≡ get_or xs (start + k) d
part_at xs start end k d h =
    let n : k < end - start = omega arith in
    get_or-take (end - start) (drop start xs) k d n ∙ get_or-drop start xs k d

pub any_part : {X : Type 0} (p : X → Bool) (xs : List X) (start end k : ℕ) → start ≤ k → k < end → end ≤ length xs
    → HoldsAt (λ x. p x ≡ true) xs k → list_any p (slice_range xs start end) ≡ true
any_part p xs start end k low high fits here =
    let e : start + (k - start) ≡ k = omega arith in
    let n : length (slice_range xs start end) ≡ end - start =
    omega (arith, length-take (end - start) (drop start xs), length-drop start xs) in
    any_here p (slice_range xs start end) (k - start) (omega arith, λ d. rw (part_at xs start end (k - start) d (omega arith), e) (here d))

pub none_part : {X : Type 0} (p : X → Bool) (xs : List X) (start end : ℕ) → end ≤ length xs
    → AllWithin (λ x. p x ≡ false) xs start end → list_any p (slice_range xs start end) ≡ false
none_part p xs start end fits h = list_any_none p (slice_range xs start end) (λ k d within.
    let n : length (slice_range xs start end) ≤ end - start =
    omega (arith, length-take (end - start) (drop start xs)) in
    rw (part_at xs start end k d (omega arith)) (h (start + k) d (omega arith) (omega arith)))

-- one place more
pub none_more : {X : Type 0} (p : X → Bool) (xs : List X) (k : ℕ) → AllWithin (λ x. p x ≡ false) xs 0 k
    → HoldsAt (λ x. p x ≡ false) xs k → AllWithin (λ x. p x ≡ false) xs 0 (k + 1)
none_more {X} p xs k before here i d low high = by (cases_lt i k)
  where
    by : (i < k) ⊎ (k ≤ i) → p (get_or xs i d) ≡ false
    by (inl l) = before i d low l
    by (inr g) = let e : i ≡ k = omega arith in ap (λ j. p (get_or xs j d)) e ∙ here d

pub any_agree : {X : Type 0} (p q : X → Bool) → ((x : X) → p x ≡ q x) → (xs : List X) → list_any p xs ≡ list_any q xs
any_agree p q h [] = refl
any_agree p q h (x ∷ xs) = rw (h x, any_agree p q h xs) refl

pub any_filter : {X : Type 0} (p q : X → Bool) (xs : List X) → list_any p (filter q xs) ≡ list_any (λ x. q x && p x) xs
any_filter p q [] = refl
any_filter {X} p q (x ∷ xs) = by (q x) (any_filter p q xs)
  where
    by : (b : Bool) → list_any p (filter q xs) ≡ list_any (λ x. q x && p x) xs
        → list_any p (cond b (x ∷ filter q xs) (filter q xs)) ≡ (b && p x || list_any (λ x. q x && p x) xs)
    by true e = ap (λ b. p x || b) e
    by false e = e

or_four : (a b c d : Bool) → ((a || b) || (c || d)) ≡ ((a || c) || (b || d))
or_four true b c d = refl
or_four false true true d = refl
or_four false true false d = refl
or_four false false c d = refl

pub any_or : {X : Type 0} (p q : X → Bool) (xs : List X)
    → list_any (λ x. p x || q x) xs ≡ (list_any p xs || list_any q xs)
any_or p q [] = refl
any_or p q (x ∷ xs) = ap (λ b. (p x || q x) || b) (any_or p q xs) ∙ or_four (p x) (q x) (list_any p xs) (list_any q xs)

-- if one passes, the first that passes has an index
pub any_placed : {X : Type 0} (p : X → Bool) (xs : List X) → is_some (position p xs) ≡ list_any p xs
any_placed p [] = refl
any_placed {X} p (x ∷ xs) = by (ltb i (length (x ∷ xs))) refl
  where
    i : ℕ
    i = position_or_len p (x ∷ xs)

    by : (b : Bool) → ltb i (length (x ∷ xs)) ≡ b → is_some (cond b (Some i) None) ≡ list_any p (x ∷ xs)
    by true e =
        let within : i < length (x ∷ xs) = ltb-true i (length (x ∷ xs)) e in
        sym (list_any_at p (x ∷ xs) i x within (passes_at_first p (x ∷ xs) x within))
    by false e =
        let far : length (x ∷ xs) ≤ i = ltb-false i (length (x ∷ xs)) e in
        sym (list_any_none p (x ∷ xs) (λ k d u. fails_before_first p (x ∷ xs) k d (omega (arith, far, u))))
