-- Entries that are in order already, each once and with a path, are saved as they are; and what is saved
-- of entries is one list.
use Rattle.std.proofs.Common.{◌≡◌, ◌≢◌, ◌⊎◌, inl, inr, ℕ, zero, suc, ◌+◌, ◌<◌, ◌≤◌, List, [], ◌∷◌, ◌++◌, length, take}
use Rattle.std.proofs.Common.{get_or, All, refl, sym, ap, subst, ◌∙◌, arith}
use Rattle.std.specs.List.{AllPairs, Contains}
use Rattle.std.specs.Ordering.{ordering_reverse}
use Rattle.std.specs.declared.cmp.Ordering.TheVariants.{Less}
use Rattle.std.proofs.lemmas.List.{get_or-take, length-take, take_all, take_more}
use Rattle.std.proofs.lemmas.List.Elements.{All-from_get_or}
use Rattle.gix_index.specs.Order.{IsStrictlyOrdered, record_cmp}
use Rattle.gix_index.specs.Record.{Record}
use Rattle.view_salvage.specs.Choice.{IsSortedSelection}
use Rattle.view_salvage.proofs.Saving.{records_total, saved_more, saved_none}

abbrev IsBelow : Record → Record → Type 0
IsBelow r q = record_cmp r q ≡ Less

-- ---- in order already

below_at : (rs : List Record) (n : ℕ) (d : Record) → n < length rs → AllPairs IsBelow rs
    → All (λ q. IsBelow q (get_or rs n d)) (take n rs)
below_at rs n d lt up = All-from_get_or (λ q. IsBelow q (get_or rs n d)) (take n rs) d (λ k within.
    let inside : k < n = omega (arith, length-take n rs) in
    let same : get_or (take n rs) k d ≡ get_or rs k d = get_or-take n rs k d inside in
    subst (λ (q : Record). IsBelow q (get_or rs n d)) (sym same) (up k n d inside lt))

front_saved : (rs : List Record) (d : Record) (n : ℕ) → n ≤ length rs → AllPairs IsBelow rs → All (λ r. r.path ≢ []) rs
    → IsSortedSelection (take n rs) (take n rs)
front_saved rs d zero le up named = saved_none
front_saved rs d (suc n) le up named =
    let lt : n < length rs = omega arith in
    let e : suc n ≡ n + 1 = omega arith in
    let more = saved_more (take n rs) (take n rs) (get_or rs n d) (below_at rs n d lt up) (named n d lt)
    (front_saved rs d n (omega arith) up named) in
    let longer : take (suc n) rs ≡ take n rs ++ get_or rs n d ∷ [] = ap (λ (m : ℕ). take m rs) e
    ∙ take_more rs n d lt in
    subst (λ (l : List Record). IsSortedSelection l l) (sym longer) more

-- each is the first of its path and stage
pub saved_itself : (rs : List Record) → IsStrictlyOrdered rs → All (λ r. r.path ≢ []) rs → IsSortedSelection rs rs
saved_itself [] up named = saved_none
saved_itself (r ∷ rs) up named =
    subst (λ (l : List Record). IsSortedSelection l l) (take_all (length (r ∷ rs)) (r ∷ rs) (omega arith))
    (front_saved (r ∷ rs) r (length (r ∷ rs)) (omega arith) up.less named)

-- ---- one list

-- lists of the same records
abbrev HaveSame : List Record → List Record → Type 0
HaveSame xs ys = ((r : Record) → Contains xs r → Contains ys r) × ((r : Record) → Contains ys r → Contains xs r)

rest_pairs : (x : Record) (xs : List Record) → AllPairs IsBelow (x ∷ xs) → AllPairs IsBelow xs
rest_pairs x xs up i j d lt within = up (suc i) (suc j) d (omega arith) (omega arith)

below_rest : (x r : Record) (xs : List Record) → AllPairs IsBelow (x ∷ xs) → Contains xs r → IsBelow x r
below_rest x r xs up c =
    let far : IsBelow x (get_or xs c.0 r) = up 0 (suc c.0) r (omega arith) (omega (arith, c.1)) in
    subst (λ (q : Record). IsBelow x q) c.2 far

-- a member of a list is its first record or one of the rest
member : (x r : Record) (xs : List Record) → Contains (x ∷ xs) r → (x ≡ r) ⊎ Contains xs r
member x r xs (zero, lt, is) = inl is
member x r xs (suc k, lt, is) = inr (k, omega (arith, lt), is)

first_in : (x : Record) (xs : List Record) → Contains (x ∷ xs) x
first_in x xs = (zero, omega arith, refl)

rest_in : (x r : Record) (xs : List Record) → Contains xs r → Contains (x ∷ xs) r
rest_in x r xs c = (suc c.0, omega (arith, c.1), c.2)

not_both : (x y : Record) → IsBelow x y → IsBelow y x → ⊥
not_both x y below above =
    let turned : record_cmp y x ≡ ordering_reverse (record_cmp x y) = records_total.antisymm y x in
    let e : ordering_reverse (record_cmp x y) ≡ ordering_reverse Less = ap ordering_reverse below in
    absurd cc

same_heads : (x y : Record) (xs ys : List Record) → AllPairs IsBelow (x ∷ xs) → AllPairs IsBelow (y ∷ ys)
    → (y ≡ x) ⊎ Contains ys x → (x ≡ y) ⊎ Contains xs y → x ≡ y
same_heads x y xs ys up down (inl e) h = sym e
same_heads x y xs ys up down (inr c) (inl e) = e
same_heads x y xs ys up down (inr c) (inr k) = absurd (not_both x y (below_rest x y xs up k) (below_rest y x ys down c))

-- what is among the rest of one list is among the rest of the other
still : (x r : Record) (xs ys : List Record) → AllPairs IsBelow (x ∷ xs) → Contains xs r
    → (x ≡ r) ⊎ Contains ys r → Contains ys r
still x r xs ys up c (inl e) =
    let self : IsBelow x x = subst (λ (q : Record). IsBelow x q) (sym e) (below_rest x r xs up c) in
    absurd (not_both x x self self)
still x r xs ys up c (inr k) = k

one_order : (xs ys : List Record) → AllPairs IsBelow xs → AllPairs IsBelow ys → HaveSame xs ys → xs ≡ ys
one_order [] [] up down same = refl
one_order [] (y ∷ ys) up down same = let c = same.1 y (first_in y ys) in absurd (omega (arith, c.1))
one_order (x ∷ xs) [] up down same = let c = same.0 x (first_in x xs) in absurd (omega (arith, c.1))
one_order (x ∷ xs) (y ∷ ys) up down same =
    let head = same_heads x y xs ys up down (member y x ys (same.0 x (first_in x xs)))
    (member x y xs (same.1 y (first_in y ys))) in
    let there : (r : Record) → Contains xs r → Contains ys r = λ r c. still x r xs ys up c
    (subst (λ (q : Record). (q ≡ r) ⊎ Contains ys r) (sym head) (member y r ys (same.0 r (rest_in x r xs c)))) in
    let back : (r : Record) → Contains ys r → Contains xs r = λ r c. still y r ys xs down c
    (subst (λ (q : Record). (q ≡ r) ⊎ Contains xs r) head (member x r xs (same.1 r (rest_in y r ys c)))) in
    ap (λ (q : Record). q ∷ xs) head
    ∙ ap (λ (l : List Record). y ∷ l) (one_order xs ys (rest_pairs x xs up) (rest_pairs y ys down) (there, back))

pub one_saving : (rs xs ys : List Record) → IsSortedSelection rs xs → IsSortedSelection rs ys → xs ≡ ys
one_saving rs xs ys h k = one_order xs ys h.ordered.less k.ordered.less
    (λ r c. (k.are r).1 ((h.are r).0 c), λ r c. (h.are r).1 ((k.are r).0 c))
