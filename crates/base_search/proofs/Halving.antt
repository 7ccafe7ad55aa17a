-- When a list is split by a comparison, and the index at which its parts meet.
use Rattle.std.proofs.Common.{◌≡◌, ◌≢◌, ℕ, zero, suc, ◌<◌, ◌≤◌, Bool, true, false, List, [], ◌∷◌, length, get_or, cond}
use Rattle.std.proofs.Common.{All, Some, None, refl, sym, ap, ◌∙◌, arith}
use Rattle.std.specs.Cmp.{IsTotalOrder}
use Rattle.std.specs.List.{AllPairs, AllWithin, HoldsAt, count_by, position, position_or_len}
use Rattle.std.specs.Ordering.{ordering_reverse}
use Rattle.std.specs.declared.cmp.Ordering.{Ordering}
use Rattle.std.specs.declared.cmp.Ordering.TheVariants.{Less, Equal, Greater}
use Rattle.std.proofs.lemmas.Bool.{false_from_ne_true}
use Rattle.std.proofs.lemmas.Bool.Decides.{nat_tests}
use Rattle.std.proofs.lemmas.List.Sums.{sum_by-cons, position_or_len_is}
use Rattle.base_search.specs.Halving.{IsSplitBy}

-- ---- a list whose keys never fall is split by each key

module _ {K : Type 0} {R : K → K → Ordering} (total : IsTotalOrder R) where
  rises : (o : Ordering) (x y z : K) → R x y ≡ o → o ≢ Greater → R y z ≡ Less → R x z ≡ Less
  rises Less x y z e h below = total.trans x y z e below
  rises Equal x y z e h below = total.congr x y z e ∙ below
  rises Greater x y z e h below = absurd (h refl)

  back : (x y : K) → R x y ≡ Greater → R y x ≡ Less
  back x y h = total.antisymm y x ∙ ap ordering_reverse h

  forth : (x y : K) → R x y ≡ Less → R y x ≡ Greater
  forth x y h = total.antisymm y x ∙ ap ordering_reverse h

  falls : (o : Ordering) (x y z : K) → R x y ≡ o → o ≢ Greater → R x z ≡ Greater → R y z ≡ Greater
  falls Less x y z e h above = forth z y (total.trans z x y (back x z above) e)
  falls Equal x y z e h above = sym (total.congr x y z e) ∙ above
  falls Greater x y z e h above = absurd (h refl)

  pub split_by : {X : Type 0} (f : X → K) (z : K) (xs : List X) → AllPairs (λ x y. R (f x) (f y) ≢ Greater) xs
      → IsSplitBy (λ x. R (f x) z) xs
  split_by f z xs h = record {
    below = λ i j d before within below.
        rises _ (f (get_or xs i d)) (f (get_or xs j d)) z refl (h i j d before within) below;
    above = λ i j d before within above.
        falls _ (f (get_or xs i d)) (f (get_or xs j d)) z refl (h i j d before within) above;
  }

-- ---- the first place that passes

first : {X : Type 0} (p : X → Bool) (xs : List X) (i : ℕ) → position_or_len p xs ≡ i → i < length xs
    → position p xs ≡ Some i
first p xs i e within = rw e (grind (arith, nat_tests))

nowhere : {X : Type 0} (p : X → Bool) (xs : List X) → position_or_len p xs ≡ length xs → position p xs ≡ None
nowhere p xs e = rw e (grind (arith, nat_tests))

pub position_is : {X : Type 0} (p : X → Bool) (xs : List X) (i : ℕ) → i < length xs
    → AllWithin (λ x. p x ≡ false) xs 0 i → HoldsAt (λ x. p x ≡ true) xs i → position p xs ≡ Some i
position_is p [] i within fails here = absurd (omega arith)
position_is p (x ∷ xs) i within fails here =
    let e : position_or_len p (x ∷ xs) ≡ i =
    position_or_len_is p (x ∷ xs) i x (omega arith) (λ k l. fails k x (omega arith) l) (λ l. here x) in
    first p (x ∷ xs) i e within

pub position_none : {X : Type 0} (p : X → Bool) (xs : List X) → All (λ x. p x ≡ false) xs → position p xs ≡ None
position_none p [] fails = refl
position_none p (x ∷ xs) fails =
    let e : position_or_len p (x ∷ xs) ≡ length (x ∷ xs) = position_or_len_is p (x ∷ xs) (length (x ∷ xs)) x
    (omega arith) (λ k l. fails k x l) (λ l. absurd (omega arith)) in
    nowhere p (x ∷ xs) e

-- ---- a count of the elements before all others

pub count_by_is : {X : Type 0} (p : X → Bool) (xs : List X) (i : ℕ) → i ≤ length xs → AllWithin (λ x. p x ≡ true) xs 0 i
    → AllWithin (λ x. p x ≡ false) xs i (length xs) → count_by p xs ≡ i
count_by_is p [] zero fits passes fails = refl
count_by_is p [] (suc i) fits passes fails = absurd (omega arith)
count_by_is p (x ∷ xs) zero fits passes fails =
    let rest : count_by p xs ≡ 0 = count_by_is p xs 0 (omega arith) (λ k d low high. absurd (omega arith))
    (λ k d low high. fails (suc k) d (omega arith) (omega arith)) in
    sum_by-cons (λ y. cond (p y) 1 0) x xs ∙ rw (fails 0 x (omega arith) (omega arith)) (omega arith)
count_by_is p (x ∷ xs) (suc i) fits passes fails =
    let rest : count_by p xs ≡ i =
    count_by_is p xs i (omega arith) (λ k d low high. passes (suc k) d (omega arith) (omega arith))
    (λ k d low high. fails (suc k) d (omega arith) (omega arith)) in
    sum_by-cons (λ y. cond (p y) 1 0) x xs ∙ rw (passes 0 x (omega arith) (omega arith)) (omega arith)

-- ---- the consequences of a count for a list in which all elements that pass come first

front_cons : {X : Type 0} (p : X → Bool) (x : X) (xs : List X) (n : ℕ) → p x ≡ true → AllWithin (λ y. p y ≡ true) xs 0 n
    → AllWithin (λ y. p y ≡ true) (x ∷ xs) 0 (suc n)
front_cons p x xs n e h zero d low high = e
front_cons p x xs n e h (suc k) d low high = h k d (omega arith) (omega arith)

back_cons : {X : Type 0} (p : X → Bool) (x : X) (xs : List X) (n : ℕ) → AllWithin (λ y. p y ≡ false) xs n (length xs)
    → AllWithin (λ y. p y ≡ false) (x ∷ xs) (suc n) (length (x ∷ xs))
back_cons p x xs n h zero d low high = absurd (omega arith)
back_cons p x xs n h (suc k) d low high = h k d (omega arith) (omega arith)

none_cons : {X : Type 0} (p : X → Bool) (x : X) (xs : List X) → p x ≡ false
    → AllPairs (λ y z. p z ≡ true → p y ≡ true) (x ∷ xs) → AllWithin (λ y. p y ≡ false) (x ∷ xs) 0 (length (x ∷ xs))
none_cons p x xs e h zero d low high = e
none_cons p x xs e h (suc k) d low high = false_from_ne_true (p (get_or xs k d))
    (λ passes. let first : p x ≡ true = h 0 (suc k) d (omega arith) high passes in cc)

count_cons : {X : Type 0} (p : X → Bool) (b : Bool) (x : X) (xs : List X) → p x ≡ b
    → AllPairs (λ y z. p z ≡ true → p y ≡ true) (x ∷ xs)
    → AllWithin (λ y. p y ≡ true) xs 0 (count_by p xs) × AllWithin (λ y. p y ≡ false) xs (count_by p xs) (length xs)
    → AllWithin (λ y. p y ≡ true) (x ∷ xs) 0 (count_by p (x ∷ xs))
    × AllWithin (λ y. p y ≡ false) (x ∷ xs) (count_by p (x ∷ xs)) (length (x ∷ xs))
count_cons p true x xs e h rest =
    let n : count_by p (x ∷ xs) ≡ suc (count_by p xs) = sum_by-cons (λ y. cond (p y) 1 0) x xs ∙ rw e (omega arith) in
    rw n (front_cons p x xs (count_by p xs) e rest.0, back_cons p x xs (count_by p xs) rest.1)
count_cons p false x xs e h rest =
    let none = none_cons p x xs e h in
    let n : count_by p (x ∷ xs) ≡ 0 =
    count_by_is p (x ∷ xs) 0 (omega arith) (λ k d low high. absurd (omega arith)) none in
    rw n (λ k d low high. absurd (omega arith), none)

pub count_splits : {X : Type 0} (p : X → Bool) (xs : List X) → AllPairs (λ x y. p y ≡ true → p x ≡ true) xs
    → AllWithin (λ x. p x ≡ true) xs 0 (count_by p xs) × AllWithin (λ x. p x ≡ false) xs (count_by p xs) (length xs)
count_splits p [] h = (λ k d low high. absurd (omega arith), λ k d low high. absurd (omega arith))
count_splits p (x ∷ xs) h = count_cons p (p x) x xs refl h
    (count_splits p xs (λ i j d before within. h (suc i) (suc j) d (omega arith) (omega arith)))
