-- Distinct names, sorted in the order of paths.
use Rattle.std.proofs.Common.{◌≡◌, ◌≢◌, ℕ, suc, ◌⊎◌, inl, inr, Bool, true, false, cond, List, [], ◌∷◌, length, refl, ap}
use Rattle.std.proofs.Common.{◌∙◌, subst, arith}
use Rattle.std.specs.List.{AllPairs, Contains}
use Rattle.std.specs.Ordering.{is_lt, ordering_reverse}
use Rattle.std.specs.declared.cmp.Ordering.{Ordering}
use Rattle.std.specs.declared.cmp.Ordering.TheVariants.{Less, Equal, Greater}
use Rattle.std.proofs.lemmas.Cmp.{tied_itself}
use Rattle.entry_list.specs.Order.{path_cmp}
use Rattle.entry_list.proofs.Orders.{paths_total, same_path}
use Rattle.entry_lookup.specs.NameSteps.{outer_cmp}
use Rattle.entry_lookup.proofs.Outer.{outer_total}
use Rattle.entry_lookup.proofs.Pairs.{contains_head, contains_tail, pairs_cons, pairs_head, pairs_tail}
use Rattle.entry_lookup.proofs.TableMade.{contains_cases, contains_none}

put_in : List ℕ → List (List ℕ) → List (List ℕ)
put_in x [] = x ∷ []
put_in x (y ∷ ys) = cond (is_lt (path_cmp x y)) (x ∷ y ∷ ys) (y ∷ put_in x ys)

pub sorted : List (List ℕ) → List (List ℕ)
sorted [] = []
sorted (x ∷ xs) = put_in x (sorted xs)

put_length : (x : List ℕ) (ys : List (List ℕ)) → length (put_in x ys) ≡ suc (length ys)
unfolding put_in
put_length x [] = refl
put_length x (y ∷ ys) = by (is_lt (path_cmp x y)) (put_length x ys)
  where
    by : (b : Bool) → length (put_in x ys) ≡ suc (length ys)
        → length (cond b (x ∷ y ∷ ys) (y ∷ put_in x ys)) ≡ suc (length (y ∷ ys))
    by true e = refl
    by false e = ap suc e

pub sorted_length : (xs : List (List ℕ)) → length (sorted xs) ≡ length xs
unfolding sorted
sorted_length [] = refl
sorted_length (x ∷ xs) = put_length x (sorted xs) ∙ ap suc (sorted_length xs)

put_contains : (x : List ℕ) (ys : List (List ℕ)) (z : List ℕ) → Contains (put_in x ys) z → (x ≡ z) ⊎ Contains ys z
unfolding put_in
put_contains x [] z c = contains_cases x [] z c
put_contains x (y ∷ ys) z c = by (is_lt (path_cmp x y)) (put_contains x ys z) c
  where
    by : (b : Bool) → (Contains (put_in x ys) z → (x ≡ z) ⊎ Contains ys z)
        → Contains (cond b (x ∷ y ∷ ys) (y ∷ put_in x ys)) z → (x ≡ z) ⊎ Contains (y ∷ ys) z
    by true f d = contains_cases x (y ∷ ys) z d
    by false f d = elim (contains_cases y (put_in x ys) z d) [
      | inl e ↦ inr (subst (Contains (y ∷ ys)) e (contains_head y ys))
      | inr e ↦ elim (f e) [ inl g ↦ inl g | inr g ↦ inr (contains_tail y ys z g) ]
    ]

put_has : (x : List ℕ) (ys : List (List ℕ)) (z : List ℕ) → (x ≡ z) ⊎ Contains ys z → Contains (put_in x ys) z
unfolding put_in
put_has x [] z (inl e) = subst (Contains (x ∷ [])) e (contains_head x [])
put_has x [] z (inr c) = absurd (contains_none z c)
put_has x (y ∷ ys) z h = by (is_lt (path_cmp x y)) (put_has x ys z) h
  where
    by : (b : Bool) → ((x ≡ z) ⊎ Contains ys z → Contains (put_in x ys) z) → (x ≡ z) ⊎ Contains (y ∷ ys) z
        → Contains (cond b (x ∷ y ∷ ys) (y ∷ put_in x ys)) z
    by true f (inl e) = subst (Contains (x ∷ y ∷ ys)) e (contains_head x (y ∷ ys))
    by true f (inr c) = contains_tail x (y ∷ ys) z c
    by false f (inl e) = contains_tail y (put_in x ys) z (f (inl e))
    by false f (inr c) = elim (contains_cases y ys z c) [
      | inl e ↦ subst (Contains (y ∷ put_in x ys)) e (contains_head y (put_in x ys))
      | inr d ↦ contains_tail y (put_in x ys) z (f (inr d))
    ]

pub sorted_contains : (xs : List (List ℕ)) (z : List ℕ) → Contains (sorted xs) z → Contains xs z
unfolding sorted
sorted_contains [] z c = c
sorted_contains (x ∷ xs) z c = elim (put_contains x (sorted xs) z c) [
  | inl e ↦ subst (Contains (x ∷ xs)) e (contains_head x xs)
  | inr d ↦ contains_tail x xs z (sorted_contains xs z d)
]

pub sorted_has : (xs : List (List ℕ)) (z : List ℕ) → Contains xs z → Contains (sorted xs) z
unfolding sorted
sorted_has [] z c = c
sorted_has (x ∷ xs) z c =
    put_has x (sorted xs) z (elim (contains_cases x xs z c) [ inl e ↦ inl e | inr d ↦ inr (sorted_has xs z d) ])

-- ---- order

not_less : (o : Ordering) → is_lt o ≡ false → o ≢ Equal → ordering_reverse o ≡ Less
not_less Less e g = cc
not_less Equal e g = absurd (g refl)
not_less Greater e g = refl

is_less : (o : Ordering) → is_lt o ≡ true → o ≡ Less
is_less Less e = refl
is_less Equal e = cc
is_less Greater e = cc

put_rises : (x : List ℕ) (ys : List (List ℕ)) → AllPairs (λ a b. path_cmp a b ≡ Less) ys
    → ((y : List ℕ) → Contains ys y → x ≢ y) → AllPairs (λ a b. path_cmp a b ≡ Less) (put_in x ys)
unfolding put_in
put_rises x [] h other = pairs_cons (λ a b. path_cmp a b ≡ Less) x [] h (λ y c. absurd (contains_none y c))
put_rises x (y ∷ ys) h other = by (is_lt (path_cmp x y)) refl
    (put_rises x ys (pairs_tail (λ a b. path_cmp a b ≡ Less) y ys h) (λ z c. other z (contains_tail y ys z c)))
  where
    by : (b : Bool) → is_lt (path_cmp x y) ≡ b → AllPairs (λ a b. path_cmp a b ≡ Less) (put_in x ys)
        → AllPairs (λ a b. path_cmp a b ≡ Less) (cond b (x ∷ y ∷ ys) (y ∷ put_in x ys))
    by true e f = pairs_cons (λ a b. path_cmp a b ≡ Less) x (y ∷ ys) h (λ z c. elim (contains_cases y ys z c) [
      | inl g ↦ subst (λ (w : List ℕ). path_cmp x w ≡ Less) g (is_less (path_cmp x y) e)
      | inr d ↦ paths_total.trans x y z (is_less (path_cmp x y) e) (pairs_head (λ a b. path_cmp a b ≡ Less) y ys h z d)
    ])
    by false e f = pairs_cons (λ a b. path_cmp a b ≡ Less) y (put_in x ys) f (λ z c. elim (put_contains x ys z c) [
      | inl g ↦ subst (λ (w : List ℕ). path_cmp y w ≡ Less) g (paths_total.antisymm y x
          ∙ not_less (path_cmp x y) e (λ t. other y (contains_head y ys) ((same_path x y).0 t)))
      | inr d ↦ pairs_head (λ a b. path_cmp a b ≡ Less) y ys h z d
    ])

-- names that rise in the order of directories are distinct
pub sorted_rises : (xs : List (List ℕ)) → AllPairs (λ a b. outer_cmp a b ≡ Less) xs
    → AllPairs (λ a b. path_cmp a b ≡ Less) (sorted xs)
unfolding sorted
sorted_rises [] h = λ i j d before within. absurd (omega arith)
sorted_rises (x ∷ xs) h =
    put_rises x (sorted xs) (sorted_rises xs (pairs_tail (λ a b. outer_cmp a b ≡ Less) x xs h)) (λ y c e.
    let less : outer_cmp x y ≡ Less = pairs_head (λ a b. outer_cmp a b ≡ Less) x xs h y (sorted_contains xs y c) in
    let same : outer_cmp x y ≡ Equal = ap (λ (w : List ℕ). outer_cmp w y) e ∙ tied_itself outer_total y in
    cc)
