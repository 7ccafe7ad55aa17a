-- A search among children that are sorted by their names finds one that has a name, or none has it.
use Rattle.std.proofs.Common.{◌≡◌, ℕ, ◌+◌, ◌<◌, ◌≤◌, Bool, true, false, ltb, List, [], ◌∷◌, All, Bor, length, map}
use Rattle.std.proofs.Common.{get_or, Option, Some, None, refl, sym, ap, subst, ◌∙◌, arith}
use Rattle.std.specs.Prelude.{◌≢◌, Result, Ok, Err}
use Rattle.std.specs.Cmp.Lexicographic.{slice_cmp}
use Rattle.std.specs.Fn.{Called, ComputesKey}
use Rattle.std.specs.List.Sorted.{IsBinarySearchResult, IsNonDecreasingBy, IsSearchInRange, IsSorted}
use Rattle.std.specs.Option.{option_map}
use Rattle.std.specs.Ordering.{is_lt, nat_cmp, ordering_index, ordering_reverse}
use Rattle.std.specs.declared.cmp.Ordering.{Ordering}
use Rattle.std.specs.declared.cmp.Ordering.TheVariants.{Less, Equal, Greater}
use Rattle.std.proofs.lemmas.Bool.{ltb-true, ltb-false}
use Rattle.std.proofs.lemmas.Cmp.{nat_list_cmp_total, tied_itself}
use Rattle.std.proofs.lemmas.Fn.{always_returns_same}
use Rattle.std.proofs.lemmas.List.{get_or-map, length-map}
use Rattle.std.proofs.lemmas.List.Sorted.{IsNonDecreasingBy-from_all_adjacent}
use Rattle.std.proofs.lemmas.Map.Lookups.{exact_bytes}
use denote.Param.Members.{Mut}
use Rattle.index_parts.specs.declared.hash.Kind.{Kind}
use Rattle.tree_encode.specs.Staged.{Staged}
use Rattle.ext_tree.specs.Tree.{Node, none, node_name, node_of, nodes_from, name_cmp}
use Rattle.ext_tree.specs.declared.Tree.{Tree}
use Rattle.ext_tree.specs.declared.Tree.TheViews.{out-Tree}
use Rattle.ext_tree.proofs.Children.{stand, rises_to}
use Rattle.ext_tree.proofs.Spelled.{node_of-out}
use Rattle.tree_encode.specs.TreeIds.{staged_at}
use Rattle.tree_encode.specs.TreeIdsSteps.{GivesAt, GivesNode, IsChildOf, IsSortedBelow, children_of, its_tree}
use Rattle.tree_encode.specs.TreeIdsSteps.{nothing, whole}
use Rattle.tree_encode.proofs.Gives.{NotNamed}
use Rattle.tree_encode.proofs.Spots.{same_nodes}

-- ---- answers increase if names do

rises_or_ties : (name a b : List ℕ) → is_lt (slice_cmp nat_cmp b a) ≡ false
    → ordering_index (slice_cmp nat_cmp a name) ≤ ordering_index (slice_cmp nat_cmp b name)
rises_or_ties name a b h = by (slice_cmp nat_cmp a b) refl
  where
    by : (o : Ordering) → slice_cmp nat_cmp a b ≡ o
        → ordering_index (slice_cmp nat_cmp a name) ≤ ordering_index (slice_cmp nat_cmp b name)
    by Less e = rises_to name a b e
    by Equal e = rw (exact_bytes a b e) (omega arith)
    by Greater e =
        let less : slice_cmp nat_cmp b a ≡ Less = nat_list_cmp_total.antisymm b a ∙ ap ordering_reverse e in
        let clash : true ≡ false = sym (ap is_lt less) ∙ h in
        absurd cc

stands_rise : (name : List ℕ) (ts : List Tree) → IsSorted name_cmp (map node_of ts)
    → IsNonDecreasingBy (λ t. ordering_index (stand name t)) ts
stands_rise name ts s = IsNonDecreasingBy-from_all_adjacent (λ t. ordering_index (stand name t)) ts (λ k d lt.
    rises_or_ties name (node_name (node_of (get_or ts k d))) (node_name (node_of (get_or ts (k + 1) d))) (at k d lt))
  where
    at : (k : ℕ) (d : Tree) → k + 1 < length ts
        → is_lt (name_cmp (node_of (get_or ts (k + 1) d)) (node_of (get_or ts k d))) ≡ false
    at k d lt =
        let a : get_or (map node_of ts) k (node_of d) ≡ node_of (get_or ts k d) =
        get_or-map node_of ts k d (node_of d) (omega (arith, lt)) in
        let b : get_or (map node_of ts) (k + 1) (node_of d) ≡ node_of (get_or ts (k + 1) d) =
        get_or-map node_of ts (k + 1) d (node_of d) lt in
        subst (λ (x : Node). is_lt (name_cmp (node_of (get_or ts (k + 1) d)) x) ≡ false) a
        (subst (λ (y : Node). is_lt (name_cmp y (get_or (map node_of ts) k (node_of d))) ≡ false) b
        (s k (node_of d) (omega arith) (omega (arith, lt, length-map ts node_of))))

-- ---- what is found

abbrev pub Finds : List ℕ → List Tree → Result ℕ ℕ → Type 0
Finds name ts (Ok i) = (i < length ts) × ((d : Tree) → stand name (get_or ts i d) ≡ Equal)
Finds name ts (Err i) = All (NotNamed name) (map node_of ts)

unequal : (name : List ℕ) (ts : List Tree) (i : ℕ)
    → ((k : ℕ) (d : Tree) → 0 ≤ k → k < i → stand name (get_or ts k d) ≡ Less)
    → ((k : ℕ) (d : Tree) → i ≤ k → k < length ts → stand name (get_or ts k d) ≡ Greater)
    → (k : ℕ) (d : Tree) → k < length ts → node_name (node_of (get_or ts k d)) ≢ name
unequal name ts i low high k d lt e = by (ltb k i) refl
  where
    tie : stand name (get_or ts k d) ≡ Equal
    tie = subst (λ (l : List ℕ). slice_cmp nat_cmp (node_name (node_of (get_or ts k d))) l ≡ Equal) e
        (tied_itself nat_list_cmp_total (node_name (node_of (get_or ts k d))))

    by : (b : Bool) → ltb k i ≡ b → ⊥
    by true h = let l = low k d (omega arith) (ltb-true k i h) in let t = tie in absurd (cc (l, t))
    by false h = let l = high k d (ltb-false k i h) lt in let t = tie in absurd (cc (l, t))

each_apart : (name : List ℕ) (ts : List Tree)
    → ((k : ℕ) (d : Tree) → k < length ts → node_name (node_of (get_or ts k d)) ≢ name)
    → All (NotNamed name) (map node_of ts)
each_apart name [] h = λ k d within. absurd (omega (arith, within))
each_apart name (t ∷ ts) h = λ k d within e.
    let lt : k < length (t ∷ ts) = omega (arith, within, length-map (t ∷ ts) node_of) in
    h k t lt (sym (ap node_name (get_or-map node_of (t ∷ ts) k t d lt)) ∙ e)

pub searched : {F : Type 0} (g : Mut F (Bor Tree × Unit {0}) Ordering) (f : F) (name : List ℕ) (ts : List Tree)
    (r : Result ℕ ℕ) → IsSorted name_cmp (map node_of ts) → IsSearchInRange r (length ts)
    → ((ord : Tree → Ordering) → ComputesKey g ord f → IsBinarySearchResult ord ts r)
    → ((a : Bor Tree × Unit {0}) (o : Ordering) (f' : F) → Called g f a o f'
    → (o ≡ slice_cmp nat_cmp (node_name (node_of a.0.now)) name) × (f' ≡ f))
    → Finds name ts r
searched g f name ts r sorted range at calls =
    by r range (at (stand name) (always_returns_same g (λ a o. o ≡ stand name a.0.now) f calls))
  where
    by : (r : Result ℕ ℕ) → IsSearchInRange r (length ts) → IsBinarySearchResult (stand name) ts r → Finds name ts r
    by (Ok i) lt h = (lt, h)
    by (Err i) lt h = let p = h (stands_rise name ts sorted) in each_apart name ts (unequal name ts i p.0 p.1)

-- what is found has the name, in any order
pub hit : {F : Type 0} (g : Mut F (Bor Tree × Unit {0}) Ordering) (f : F) (name : List ℕ) (ts : List Tree)
    (r : Result ℕ ℕ) (i : ℕ) → r ≡ Ok i → IsSearchInRange r (length ts)
    → ((ord : Tree → Ordering) → ComputesKey g ord f → IsBinarySearchResult ord ts r)
    → ((a : Bor Tree × Unit {0}) (o : Ordering) (f' : F) → Called g f a o f'
    → (o ≡ slice_cmp nat_cmp (node_name (node_of a.0.now)) name) × (f' ≡ f))
    → Finds name ts r
hit g f name ts r i is range at calls =
    by r is range (at (stand name) (always_returns_same g (λ a o. o ≡ stand name a.0.now) f calls))
  where
    by : (r : Result ℕ ℕ) → r ≡ Ok i → IsSearchInRange r (length ts) → IsBinarySearchResult (stand name) ts r
        → Finds name ts r
    by (Ok j) e lt h = (lt, h)
    by (Err j) e lt h = absurd cc

-- ---- the children of what is given

-- a node that is given to a directory
pub sorted_children : (kind : Kind) (staged : List Staged) (names : List (List ℕ)) (given : Option Node)
    → GivesAt kind staged names given → IsSortedBelow given
sorted_children kind staged names given g ts e = by given g e
  where
    empty : none ≡ nodes_from ts → IsSorted name_cmp ts
    empty z = subst (IsSorted name_cmp) (same_nodes [] ts z) (λ k d low within. absurd (omega (arith, within)))

    by : (given : Option Node) → GivesNode kind names (staged_at names staged) given → children_of given ≡ nodes_from ts
        → IsSorted name_cmp ts
    by None (nothing some later) z = empty z
    by (Some t) (its_tree n items u is some nodes) z = subst (IsSorted name_cmp)
        (same_nodes nodes.2.0 ts (ap (λ (x : Node). children_of (Some x)) (sym nodes.2.3) ∙ z)) nodes.2.2
    by (Some t) (whole n id u is w) z = empty (ap (λ (x : Node). children_of (Some x)) (sym w) ∙ z)

module _ (given : Option (Bor Tree)) (b : Bor Tree) (is : given ≡ Some b) (ts : List Tree)
    (value : ts ≡ (out-Tree b.now).children.items) (name : List ℕ) where
  abbrev as_node : Option Node
  as_node = option_map (λ t. node_of t.now) given

  pub kids : as_node ≡ Some (node_of b.now) → children_of as_node ≡ nodes_from (map node_of ts)
  kids e = ap children_of e ∙ ap (λ (x : Node). children_of (Some x)) (node_of-out b.now)
      ∙ ap (λ (l : List Tree). nodes_from (map node_of l)) (sym value)

  its_kids : children_of as_node ≡ nodes_from (map node_of ts)
  its_kids = kids (ap (λ (o : Option (Bor Tree)). option_map (λ t. node_of t.now) o) is)

  pub sorted_kids : IsSortedBelow as_node → IsSorted name_cmp (map node_of ts)
  sorted_kids h = h (map node_of ts) its_kids

  pub none_found : (r : Result ℕ ℕ) (i : ℕ) → r ≡ Err i → Finds name ts r → IsChildOf as_node name None
  none_found r i e h = (map node_of ts, its_kids, subst (Finds name ts) e h)

  pub one_found : (r : Result ℕ ℕ) (i : ℕ) (x : Tree) → r ≡ Ok i → x ≡ get_or ts i x → Finds name ts r
      → IsChildOf as_node name (Some (node_of x))
  one_found r i x e at h =
      let f = subst (Finds name ts) e h in
      let here : get_or (map node_of ts) i (node_of x) ≡ node_of x =
      get_or-map node_of ts i x (node_of x) f.0 ∙ ap node_of (sym at) in
      let tie : stand name x ≡ Equal = ap (stand name) at ∙ f.1 x in (
        map node_of ts,
        its_kids,
        ((i, omega (arith, f.0, length-map ts node_of), here), exact_bytes (node_name (node_of x)) name tie),
      )
