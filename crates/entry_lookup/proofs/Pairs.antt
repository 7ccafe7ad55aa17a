-- Lists in which each element has a relation to each later one, appended and reversed.
use Rattle.std.proofs.Common.{◌≡◌, ℕ, zero, suc, ◌-◌, ◌<◌, ◌≤◌, ◌⊎◌, inl, inr, List, [], ◌∷◌, ◌++◌, length, get_or}
use Rattle.std.proofs.Common.{take, drop, reverse, refl, sym, subst, arith, append_assoc, length-take}
use Rattle.std.specs.List.{AllPairs, Contains}
use Rattle.std.proofs.lemmas.List.{append-nil, get_or-reverse, get_or-take, length-reverse, take-append-drop}
use Rattle.std.proofs.lemmas.List.Elements.{Contains-append_left, Contains-append_cases, Contains-get_or}
use Rattle.std.proofs.lemmas.List.Quantifiers.{all_pairs_push}
use Rattle.std.proofs.lemmas.List.Sorted.{Contains-permutation, IsPermutation-reverse, IsPermutation-sym}

pub contains_head : {X : Type 0} (x : X) (xs : List X) → Contains (x ∷ xs) x
contains_head x xs = (0, omega arith, refl)

pub contains_tail : {X : Type 0} (x : X) (xs : List X) (z : X) → Contains xs z → Contains (x ∷ xs) z
contains_tail x xs z c = (suc c.0, omega (arith, c.1), c.2)

pub pairs_head : {X : Type 0} (R : X → X → Type 0) (x : X) (xs : List X) → AllPairs R (x ∷ xs) → (y : X) → Contains xs y
    → R x y
pairs_head {X} R x xs h y c = subst (λ (z : X). R x z) c.2 (h 0 (suc c.0) y (omega arith) (omega (arith, c.1)))

pub pairs_tail : {X : Type 0} (R : X → X → Type 0) (x : X) (xs : List X) → AllPairs R (x ∷ xs) → AllPairs R xs
pairs_tail R x xs h i j d before within = h (suc i) (suc j) d (omega arith) (omega arith)

pub pairs_cons : {X : Type 0} (R : X → X → Type 0) (x : X) (xs : List X) → AllPairs R xs
    → ((y : X) → Contains xs y → R x y) → AllPairs R (x ∷ xs)
pairs_cons R x xs h all zero zero d before within = absurd (omega arith)
pairs_cons R x xs h all zero (suc j) d before within = all (get_or xs j d) (Contains-get_or xs j d (omega arith))
pairs_cons R x xs h all (suc i) zero d before within = absurd (omega arith)
pairs_cons R x xs h all (suc i) (suc j) d before within = h i j d (omega arith) (omega arith)

pub pairs_join : {X : Type 0} (R : X → X → Type 0) (xs ys : List X) → AllPairs R xs → AllPairs R ys
    → ((x y : X) → Contains xs x → Contains ys y → R x y) → AllPairs R (xs ++ ys)
pairs_join {X} R xs [] h k across = subst (AllPairs R) (sym (append-nil xs)) h
pairs_join {X} R xs (y ∷ ys) h k across =
    subst (AllPairs R) (append_assoc xs (y ∷ []) ys) (pairs_join R (xs ++ y ∷ []) ys
    (all_pairs_push R xs y h (λ i d l. across (get_or xs i d) y (Contains-get_or xs i d l) (contains_head y ys)))
    (pairs_tail R y ys k)
    (λ a b c e. by a b e (Contains-append_cases xs (y ∷ []) a c)))
  where
    by : (a b : X) → Contains ys b → Contains xs a ⊎ Contains (y ∷ []) a → R a b
    by a b e (inl c) = across a b c (contains_tail y ys b e)
    by a b e (inr c) = subst (λ (z : X). R z b) (one y a c) (pairs_head R y ys k b e)
      where
        one : (x z : X) → Contains (x ∷ []) z → x ≡ z
        one x z c = at c.0 c.1 c.2
          where
            at : (i : ℕ) → i < length (x ∷ []) → get_or (x ∷ []) i z ≡ z → x ≡ z
            at zero l e = e
            at (suc i) l e = absurd (omega arith)

pub contains_reverse : {X : Type 0} (xs : List X) (z : X) → Contains (reverse xs) z → Contains xs z
contains_reverse xs z c =
    Contains-permutation (reverse xs) xs z (IsPermutation-sym xs (reverse xs) (IsPermutation-reverse xs)) c

pub contains_in_reverse : {X : Type 0} (xs : List X) (z : X) → Contains xs z → Contains (reverse xs) z
contains_in_reverse xs z c = Contains-permutation xs (reverse xs) z (IsPermutation-reverse xs) c

pub pairs_reverse : {X : Type 0} (R : X → X → Type 0) (xs : List X) → AllPairs (λ a b. R b a) xs
    → AllPairs R (reverse xs)
pairs_reverse {X} R xs h i j d before within =
    let n : length (reverse xs) ≡ length xs = length-reverse xs in
    let P : X → Type 0 = λ a. R a (get_or (reverse xs) j d) in
    let Q : X → Type 0 = λ b. R (get_or xs (length xs - 1 - i) d) b in
    subst P (sym (get_or-reverse xs i d (omega (arith, n)))) (subst Q (sym (get_or-reverse xs j d (omega (arith, n))))
    (h (length xs - 1 - j) (length xs - 1 - i) d (omega (arith, n)) (omega (arith, n))))

pub pairs_drop : {X : Type 0} (R : X → X → Type 0) (k : ℕ) (xs : List X) → AllPairs R xs → AllPairs R (drop k xs)
pairs_drop R zero xs h = h
pairs_drop R (suc k) [] h = h
pairs_drop R (suc k) (x ∷ xs) h = pairs_drop R k xs (pairs_tail R x xs h)

pub pairs_take : {X : Type 0} (R : X → X → Type 0) (k : ℕ) (xs : List X) → AllPairs R xs → AllPairs R (take k xs)
pairs_take {X} R k xs h i j d before within =
    let n : length (take k xs) ≤ length xs = omega (arith, length-take k xs) in
    let P : X → Type 0 = λ a. R a (get_or (take k xs) j d) in
    let Q : X → Type 0 = λ b. R (get_or xs i d) b in
    subst P (sym (get_or-take k xs i d (omega (arith, length-take k xs))))
    (subst Q (sym (get_or-take k xs j d (omega (arith, length-take k xs)))) (h i j d before (omega arith)))

pub contains_drop : {X : Type 0} (k : ℕ) (xs : List X) (z : X) → Contains (drop k xs) z → Contains xs z
contains_drop zero xs z c = c
contains_drop (suc k) [] z c = c
contains_drop (suc k) (x ∷ xs) z c = contains_tail x xs z (contains_drop k xs z c)

pub contains_take : {X : Type 0} (k : ℕ) (xs : List X) (z : X) → Contains (take k xs) z → Contains xs z
contains_take {X} k xs z c =
    subst (λ (ys : List X). Contains ys z) (take-append-drop k xs) (Contains-append_left (take k xs) (drop k xs) z c)

pub contains_split : {X : Type 0} (k : ℕ) (xs : List X) (z : X) → Contains xs z
    → Contains (take k xs) z ⊎ Contains (drop k xs) z
contains_split {X} k xs z c = Contains-append_cases (take k xs) (drop k xs) z
    (subst (λ (ys : List X). Contains ys z) (sym (take-append-drop k xs)) c)
