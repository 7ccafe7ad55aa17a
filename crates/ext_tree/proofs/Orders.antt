-- Nodes have an order in which their names rise, or two of them share a name and there is none.
use Rattle.std.proofs.Common.{◌≡◌, ◌⊎◌, inl, inr, false, List, [], ◌∷◌, refl, ap, ◌∙◌}
use Rattle.std.specs.List.{AllByRecursion, IsDistinct}
use Rattle.std.specs.List.Sorted.{IsPermutation, IsStrictlySortedBy}
use Rattle.std.specs.Ordering.{eq_by_cmp, is_eq, ordering_reverse}
use Rattle.std.specs.declared.cmp.Ordering.{Ordering}
use Rattle.std.specs.declared.cmp.Ordering.TheVariants.{Less, Equal, Greater}
use Rattle.std.proofs.lemmas.List.Elements.{All-cons, All-weaker, All-from_recursion, recursion_from_All}
use Rattle.std.proofs.lemmas.List.Sorted.{IsPermutation-refl, IsPermutation-sym, IsPermutation-trans}
use Rattle.std.proofs.lemmas.List.Sorted.{IsPermutation-cons, IsPermutation-middle, All-permutation}
use Rattle.std.proofs.lemmas.Map.Keys.{IsDistinct-from_sorted, IsDistinct-head, IsDistinct-tail}
use Rattle.std.proofs.lemmas.Map.Keys.{IsDistinct-IsPermutation}
use Rattle.ext_tree.specs.Tree.{Node, name_cmp, NamesRise}
use Rattle.index_extensions.proofs.Readings.{Decided}
use Rattle.ext_tree.proofs.Sorted.{names_total}

-- the node's name is no other's
abbrev IsAlone : Node → List Node → Type 0
IsAlone t ts = AllByRecursion (λ u. eq_by_cmp name_cmp t u ≡ false) ts

-- no two share a name
abbrev AreApart : List Node → Type 0
AreApart = IsDistinct (eq_by_cmp name_cmp)

-- an order in which the names rise
abbrev Order : List Node → Type 0
Order ts = (vs : List Node) × IsPermutation ts vs × NamesRise vs

-- ---- a node among those that rise

-- the node has a place among them, or shares its name with one of them
abbrev Placing : Node → List Node → Type 0
Placing t vs = Order (t ∷ vs) ⊎ (IsAlone t vs → ⊥)

pub first : (t v : Node) (vs : List Node) → name_cmp t v ≡ Less → NamesRise (v ∷ vs) → NamesRise (t ∷ v ∷ vs)
first t v vs less r =
    let later = All-weaker (λ u. name_cmp v u ≡ Less) (λ u. name_cmp t u ≡ Less)
    (λ u h. names_total.trans t v u less h) vs (All-from_recursion (λ u. name_cmp v u ≡ Less) vs r.0) in
    ((less, recursion_from_All (λ u. name_cmp t u ≡ Less) vs later), r)

pub behind : (t v : Node) (vs ws : List Node) → name_cmp v t ≡ Less → NamesRise (v ∷ vs) → IsPermutation (t ∷ vs) ws
    → NamesRise ws → NamesRise (v ∷ ws)
behind t v vs ws less r order s =
    let above =
    All-cons (λ u. name_cmp v u ≡ Less) t vs less (All-from_recursion (λ u. name_cmp v u ≡ Less) vs r.0) in (
      recursion_from_All (λ u. name_cmp v u ≡ Less) ws
          (All-permutation (λ u. name_cmp v u ≡ Less) (t ∷ vs) ws order above),
      s,
    )

pub exchanged : (t v : Node) (vs ws : List Node) → IsPermutation (t ∷ vs) ws → IsPermutation (t ∷ v ∷ vs) (v ∷ ws)
exchanged t v vs ws order = IsPermutation-trans (t ∷ v ∷ vs) (v ∷ t ∷ vs) (v ∷ ws) (IsPermutation-middle (t ∷ []) v vs)
    (IsPermutation-cons v (t ∷ vs) ws order)

placing_by : (t v : Node) (vs : List Node) (o : Ordering) → name_cmp t v ≡ o → NamesRise (v ∷ vs) → Placing t vs
    → Placing t (v ∷ vs)
placing_by t v vs Less e r later = inl (t ∷ v ∷ vs, IsPermutation-refl (t ∷ v ∷ vs), first t v vs e r)
placing_by t v vs Equal e r later = inr (λ alone. let apart = alone.0 in cc)
placing_by t v vs Greater e r (inl p) =
    let less : name_cmp v t ≡ Less = names_total.antisymm v t ∙ ap ordering_reverse e in
    inl (v ∷ p.0, exchanged t v vs p.0 p.1, behind t v vs p.0 less r p.1 p.2)
placing_by t v vs Greater e r (inr shared) = inr (λ alone. shared alone.1)

placing : (t : Node) (vs : List Node) → NamesRise vs → Placing t vs
placing t [] r = inl (t ∷ [], IsPermutation-refl (t ∷ []), (tt, tt))
placing t (v ∷ vs) r = placing_by t v vs (name_cmp t v) refl r (placing t vs r.1)

-- ---- all nodes

tied_flips : (t u : Node) → eq_by_cmp name_cmp t u ≡ eq_by_cmp name_cmp u t
tied_flips t u = ap is_eq (names_total.antisymm t u) ∙ by (name_cmp u t)
  where
    by : (o : Ordering) → is_eq (ordering_reverse o) ≡ is_eq o
    by Less = refl
    by Equal = refl
    by Greater = refl

strictly : (vs : List Node) → NamesRise vs → IsStrictlySortedBy name_cmp vs
unfolding IsStrictlySortedBy
strictly [] r = tt
strictly (v ∷ vs) r = (r.0, strictly vs r.1)

apart_from_order : (ts : List Node) → Order ts → AreApart ts
apart_from_order ts p =
    let apart = IsDistinct-from_sorted name_cmp p.0 (strictly p.0 p.2) in
    IsDistinct-IsPermutation (eq_by_cmp name_cmp) tied_flips p.0 ts (IsPermutation-sym ts p.0 p.1) apart

-- the nodes have an order, or two of them share a name
abbrev Sorting : List Node → Type 0
Sorting ts = Order ts ⊎ (AreApart ts → ⊥)

sorting_with : (t : Node) (ts vs : List Node) → IsPermutation ts vs → Placing t vs → Sorting (t ∷ ts)
sorting_with t ts vs order (inl p) =
    inl (p.0, IsPermutation-trans (t ∷ ts) (t ∷ vs) p.0 (IsPermutation-cons t ts vs order) p.1, p.2)
sorting_with t ts vs order (inr shared) =
    inr (λ apart. shared (IsDistinct-head (eq_by_cmp name_cmp) t vs (IsDistinct-IsPermutation
    (eq_by_cmp name_cmp) tied_flips (t ∷ ts) (t ∷ vs) (IsPermutation-cons t ts vs order) apart)))

sorting_more : (t : Node) (ts : List Node) → Sorting ts → Sorting (t ∷ ts)
sorting_more t ts (inl p) = sorting_with t ts p.0 p.1 (placing t p.0 p.2)
sorting_more t ts (inr shared) = inr (λ apart. shared (IsDistinct-tail (eq_by_cmp name_cmp) t ts apart))

sorting : (ts : List Node) → Sorting ts
sorting [] = inl ([], IsPermutation-refl [], tt)
sorting (t ∷ ts) = sorting_more t ts (sorting ts)

-- nodes can be sorted by name or cannot be
pub sort_reading : (ts : List Node) → Decided (λ (vs : List Node). IsPermutation ts vs × NamesRise vs)
sort_reading ts = by (sorting ts)
  where
    by : Sorting ts → Decided (λ (vs : List Node). IsPermutation ts vs × NamesRise vs)
    by (inl p) = inl (p.0, (p.1, p.2))
    by (inr shared) = inr (λ vs h. shared (apart_from_order ts (vs, h.0, h.1)))
