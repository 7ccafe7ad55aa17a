-- A search among children whose names increase finds a name if a child has it.
use Rattle.std.proofs.Common.{◌≡◌, ℕ, zero, suc, ◌+◌, ◌<◌, ◌≤◌, Bool, true, false, ltb, List, [], ◌∷◌, length, get_or}
use Rattle.std.proofs.Common.{Some, None, refl, sym, ap, ◌∙◌, arith, Bor}
use Rattle.std.specs.Cmp.Lexicographic.{slice_cmp}
use Rattle.std.specs.Fn.{Called, ComputesKey}
use Rattle.std.specs.List.{AllAdjacentBelow}
use Rattle.std.specs.List.Sorted.{IsBinarySearchResult, IsSearchInRange, IsNonDecreasingBy}
use Rattle.std.specs.Ordering.{is_eq, nat_cmp, ordering_index, ordering_reverse}
use Rattle.std.specs.Prelude.{◌||◌, Result, Ok, Err, is_ok}
use Rattle.std.proofs.lemmas.Bool.{ltb-true, ltb-false}
use Rattle.std.specs.declared.cmp.Ordering.{Ordering}
use Rattle.std.specs.declared.cmp.Ordering.TheVariants.{Less, Equal, Greater}
use Rattle.std.proofs.lemmas.Cmp.{nat_list_cmp_total}
use Rattle.std.proofs.lemmas.Fn.{always_returns_same}
use Rattle.std.proofs.lemmas.List.Sorted.{IsNonDecreasingBy-from_all_adjacent}
use denote.Param.Members.{Mut}
use Rattle.ext_tree.specs.Agreement.{has_child}
use Rattle.ext_tree.specs.Sound.{RiseFrom}
use Rattle.ext_tree.specs.Tree.{node_of, node_name, name_cmp}
use Rattle.ext_tree.specs.declared.Tree.{Tree}
use Rattle.ext_tree.proofs.Sounds.{row_of_trees}

-- the order of a node's name and this one
abbrev pub stand : List ℕ → Tree → Ordering
stand name t = slice_cmp nat_cmp (node_name (node_of t)) name

-- ---- results increase if names do

index_rises : (o p : Ordering) → (o ≡ Equal → p ≡ Greater) → (o ≡ Greater → p ≡ Greater)
    → ordering_index o ≤ ordering_index p
index_rises Less p e g = omega arith
index_rises Equal p e g = rw (e refl) (omega arith)
index_rises Greater p e g = rw (g refl) (omega arith)

pub rises_to : (name a b : List ℕ) → slice_cmp nat_cmp a b ≡ Less
    → ordering_index (slice_cmp nat_cmp a name) ≤ ordering_index (slice_cmp nat_cmp b name)
rises_to name a b less =
    let above : slice_cmp nat_cmp b a ≡ Greater = nat_list_cmp_total.antisymm b a ∙ ap ordering_reverse less in
    index_rises (slice_cmp nat_cmp a name) (slice_cmp nat_cmp b name)
    (λ e. nat_list_cmp_total.antisymm b name ∙ ap ordering_reverse (sym (nat_list_cmp_total.congr a name b e) ∙ less))
    (λ g. nat_list_cmp_total.antisymm b name ∙ ap ordering_reverse
    (nat_list_cmp_total.trans name a b (nat_list_cmp_total.antisymm name a ∙ ap ordering_reverse g) less))

adjacent : (t : Tree) (ts : List Tree) → RiseFrom (Some (node_of t)) (row_of_trees ts)
    → AllAdjacentBelow (λ x y. name_cmp (node_of x) (node_of y) ≡ Less) (t ∷ ts) (length (t ∷ ts))
adjacent t [] r = λ k d lt. absurd (omega (arith, lt))
adjacent t (u ∷ us) r = by (adjacent u us r.1)
  where
    by : AllAdjacentBelow (λ x y. name_cmp (node_of x) (node_of y) ≡ Less) (u ∷ us) (length (u ∷ us))
        → (k : ℕ) (d : Tree) → k + 1 < length (t ∷ u ∷ us)
        → name_cmp (node_of (get_or (t ∷ u ∷ us) k d)) (node_of (get_or (t ∷ u ∷ us) (k + 1) d)) ≡ Less
    by more zero d lt = r.0
    by more (suc k) d lt = let next : suc k + 1 ≡ suc (k + 1) = omega arith in rw next (more k d (omega (arith, lt)))

all_adjacent : (ts : List Tree) → RiseFrom None (row_of_trees ts)
    → AllAdjacentBelow (λ x y. name_cmp (node_of x) (node_of y) ≡ Less) ts (length ts)
all_adjacent [] r = λ k d lt. absurd (omega (arith, lt))
all_adjacent (t ∷ ts) r = adjacent t ts r

stands_rise : (name : List ℕ) (ts : List Tree) → RiseFrom None (row_of_trees ts)
    → IsNonDecreasingBy (λ t. ordering_index (stand name t)) ts
stands_rise name ts r = IsNonDecreasingBy-from_all_adjacent (λ t. ordering_index (stand name t)) ts (λ k d lt. rises_to
    name (node_name (node_of (get_or ts k d))) (node_name (node_of (get_or ts (k + 1) d))) (all_adjacent ts r k d lt))

-- ---- a child with the name, or none

found_child : (name : List ℕ) (ts : List Tree) (i : ℕ) → i < length ts
    → ((d : Tree) → stand name (get_or ts i d) ≡ Equal) → has_child name (row_of_trees ts) ≡ true
found_child name [] i lt at = absurd (omega (arith, lt))
found_child name (t ∷ ts) zero lt at = let here : stand name t ≡ Equal = at t in rw here refl
found_child name (t ∷ ts) (suc i) lt at = by (is_eq (stand name t)) (found_child name ts i (omega (arith, lt)) at)
  where
    by : (b : Bool) → has_child name (row_of_trees ts) ≡ true
        → ◌≡◌ {A = Bool} (b || has_child name (row_of_trees ts)) true
    by true h = refl
    by false h = h

no_child : (name : List ℕ) (ts : List Tree)
    → ((k : ℕ) (d : Tree) → k < length ts → is_eq (stand name (get_or ts k d)) ≡ false)
    → has_child name (row_of_trees ts) ≡ false
no_child name [] off = refl
no_child name (t ∷ ts) off =
    let here : is_eq (stand name t) ≡ false = off 0 t (omega arith) in
    let later : has_child name (row_of_trees ts) ≡ false =
    no_child name ts (λ k d lt. off (suc k) d (omega (arith, lt))) in
    rw (here, later) refl

unequal : (name : List ℕ) (ts : List Tree) (i : ℕ)
    → ((k : ℕ) (d : Tree) → 0 ≤ k → k < i → stand name (get_or ts k d) ≡ Less)
    → ((k : ℕ) (d : Tree) → i ≤ k → k < length ts → stand name (get_or ts k d) ≡ Greater)
    → (k : ℕ) (d : Tree) → k < length ts → is_eq (stand name (get_or ts k d)) ≡ false
unequal name ts i low high k d lt = by (ltb k i) refl
  where
    by : (b : Bool) → ltb k i ≡ b → is_eq (stand name (get_or ts k d)) ≡ false
    by true e = ap is_eq (low k d (omega arith) (ltb-true k i e))
    by false e = ap is_eq (high k d (ltb-false k i e) lt)

-- what the search answers
pub searched : {F : Type 0} (g : Mut F (Bor Tree × Unit {0}) Ordering) (f : F) (name : List ℕ) (ts : List Tree)
    (r : Result ℕ ℕ) → RiseFrom None (row_of_trees ts) → IsSearchInRange r (length ts)
    → ((ord : Tree → Ordering) → ComputesKey g ord f → IsBinarySearchResult ord ts r)
    → ((a : Bor Tree × Unit {0}) (o : Ordering) (f' : F) → Called g f a o f'
    → (o ≡ slice_cmp nat_cmp (node_name (node_of a.0.now)) name) × (f' ≡ f))
    → is_ok r ≡ has_child name (row_of_trees ts)
searched g f name ts r rise range at calls =
    by r range (at (stand name) (always_returns_same g (λ a o. o ≡ stand name a.0.now) f calls))
  where
    by : (r : Result ℕ ℕ) → IsSearchInRange r (length ts) → IsBinarySearchResult (stand name) ts r
        → is_ok r ≡ has_child name (row_of_trees ts)
    by (Ok i) lt h = sym (found_child name ts i lt h)
    by (Err i) lt h = let p = h (stands_rise name ts rise) in sym (no_child name ts (unequal name ts i p.0 p.1))
