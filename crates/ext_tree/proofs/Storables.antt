-- Which trees bytes can hold, by what is looked at of them.
use Rattle.std.proofs.Common.{◌≡◌, ℕ, ◌+◌, ◌-◌, ◌<◌, ◌≤◌, ◌^◌, true, false, List, [], ◌∷◌, length, drop, take, get_or}
use Rattle.std.proofs.Common.{map, Option, Some, None, refl, sym, ap, subst, ◌∙◌, arith}
use Rattle.std.specs.Prelude.{◌≢◌}
use Rattle.std.specs.Cmp.Lexicographic.{slice_cmp}
use Rattle.std.specs.Ordering.{is_eq, nat_cmp}
use Rattle.std.specs.declared.cmp.Ordering.{Ordering}
use Rattle.std.specs.declared.cmp.Ordering.TheVariants.{Less, Equal, Greater}
use Rattle.std.proofs.lemmas.Cmp.{tied_itself}
use Rattle.std.proofs.lemmas.List.{length-drop, length-map, nil_from_length, take_all}
use Rattle.std.proofs.lemmas.Map.Lookups.{exact_bytes}
use Rattle.index_parts.specs.declared.hash.Kind.{Kind}
use Rattle.ext_tree.specs.Sound.{RiseFrom}
use Rattle.ext_tree.specs.StorableSteps.{IsPlainHead, IsSortedAfter, AreApart, IsStorableWithin, AreStorableWithin}
use Rattle.ext_tree.specs.StoredTree.{IsApartFrom, IsPlainNode, ArePlainNodes, IsStorableTree, IsSizedNode}
use Rattle.ext_tree.specs.StoredTree.{AreSizedNodes}
use Rattle.ext_tree.specs.Tree.{Node, Nodes, node, none, more, how_many_nodes, node_name, name_cmp, node_of}
use Rattle.ext_tree.specs.Tree.{node_depth, nodes_depth, NodeIdsAreOf, NodesIdsAreOf}
use Rattle.ext_tree.specs.declared.Tree.{Tree}
use Rattle.ext_tree.specs.declared.Tree.TheViews.{out-Tree}
use Rattle.ext_tree.proofs.KeptTrees.{listed_number, names_differ}
use Rattle.ext_tree.proofs.Sorted.{names_total}
use Rattle.ext_tree.proofs.Sounds.{row_of_trees, cut_at}
use Rattle.ext_tree.proofs.Spelled.{node_of-out}

-- ---- storable to so many levels, and storable

mutual
  plain_within : (kind : Kind) (n : ℕ) (t : Node) → IsStorableWithin kind n t → IsPlainNode t
  plain_within kind n (node name id count ts) h = (h.0.0, h.0.1, plains_within kind n ts h.2 h.3)

  plains_within : (kind : Kind) (n : ℕ) (ts : Nodes) → AreApart ts → AreStorableWithin kind n ts → ArePlainNodes ts
  plains_within kind n none a h = tt
  plains_within kind n (more t ts) a h = (plain_within kind (n - 1) t h.1, a.0, plains_within kind n ts a.1 h.2)

mutual
  ids_within : (kind : Kind) (n : ℕ) (t : Node) → IsStorableWithin kind n t → NodeIdsAreOf kind t
  ids_within kind n (node name id count ts) h = (h.0.2, all_ids_within kind n ts h.3)

  all_ids_within : (kind : Kind) (n : ℕ) (ts : Nodes) → AreStorableWithin kind n ts → NodesIdsAreOf kind ts
  all_ids_within kind n none h = tt
  all_ids_within kind n (more t ts) h = (ids_within kind (n - 1) t h.1, all_ids_within kind n ts h.2)

mutual
  depth_within : (kind : Kind) (n : ℕ) (t : Node) → IsStorableWithin kind n t → node_depth t ≤ n
  depth_within kind n (node name id count ts) h = depths_within kind n ts h.3

  depths_within : (kind : Kind) (n : ℕ) (ts : Nodes) → AreStorableWithin kind n ts → nodes_depth ts ≤ n
  depths_within kind n none h = omega arith
  depths_within kind n (more t ts) h =
      let some : 0 < n = h.0 in
      omega (arith, some, depth_within kind (n - 1) t h.1, depths_within kind n ts h.2)

mutual
  sized_within : (kind : Kind) (n : ℕ) (t : Node) → IsStorableWithin kind n t → IsSizedNode t
  sized_within kind n (node name id count ts) h = (h.0.3, h.1, all_sized_within kind n ts h.3)

  all_sized_within : (kind : Kind) (n : ℕ) (ts : Nodes) → AreStorableWithin kind n ts → AreSizedNodes ts
  all_sized_within kind n none h = tt
  all_sized_within kind n (more t ts) h = (sized_within kind (n - 1) t h.1, all_sized_within kind n ts h.2)

apart_of : (ts : Nodes) → ArePlainNodes ts → AreApart ts
apart_of none p = tt
apart_of (more t ts) p = (p.1, apart_of ts p.2)

mutual
  within_of : (kind : Kind) (n : ℕ) (t : Node) → IsPlainNode t → NodeIdsAreOf kind t → node_depth t ≤ n → IsSizedNode t
      → IsStorableWithin kind n t
  within_of kind n (node name id count ts) p i d s =
      ((p.0, p.1, i.0, s.0), s.1, apart_of ts p.2, all_within_of kind n ts p.2 i.1 d s.2)

  all_within_of : (kind : Kind) (n : ℕ) (ts : Nodes) → ArePlainNodes ts → NodesIdsAreOf kind ts → nodes_depth ts ≤ n
      → AreSizedNodes ts → AreStorableWithin kind n ts
  all_within_of kind n none p i d s = tt
  all_within_of kind n (more t ts) p i d s = (
    omega (arith, d),
    within_of kind (n - 1) t p.0 i.0 (omega (arith, d)) s.0,
    all_within_of kind n ts p.2 i.1 (omega (arith, d)) s.1,
  )

pub storable_of : (kind : Kind) (t : Node) → IsStorableWithin kind 2048 t → IsStorableTree kind t
storable_of kind t h = record {
  plain = plain_within kind 2048 t h;
  ids = ids_within kind 2048 t h;
  shallow = depth_within kind 2048 t h;
  sized = sized_within kind 2048 t h;
}

pub of_storable : (kind : Kind) (t : Node) → IsStorableTree kind t → IsStorableWithin kind 2048 t
of_storable kind t h = within_of kind 2048 t h.plain h.ids h.shallow h.sized

-- ---- names

pub same_of_tie : (t u : Node) → is_eq (name_cmp t u) ≡ true → node_name t ≡ node_name u
same_of_tie t u h = by (name_cmp t u) refl h
  where
    by : (o : Ordering) → name_cmp t u ≡ o → is_eq o ≡ true → node_name t ≡ node_name u
    by Less e k = absurd cc
    by Equal e k = exact_bytes (node_name t) (node_name u) e
    by Greater e k = absurd cc

tie_of_same : (t u : Node) → node_name t ≡ node_name u → is_eq (name_cmp t u) ≡ true
tie_of_same t u e = ap is_eq (ap (λ (l : List ℕ). slice_cmp nat_cmp (node_name t) l) (sym e)
    ∙ tied_itself names_total t)

pub apart_untied : (t u : Node) → is_eq (name_cmp t u) ≡ false → node_name t ≢ node_name u
apart_untied t u h e = let tie = tie_of_same t u e in absurd cc

above_first : (before : Option Node) (t : Node) (ts : Nodes) → RiseFrom before (more t ts)
    → IsSortedAfter before t × RiseFrom (Some t) ts
above_first None t ts h = (tt, h)
above_first (Some u) t ts h = (h.0, h.1)

first_above : (before : Option Node) (t : Node) (ts : Nodes) → IsSortedAfter before t → RiseFrom (Some t) ts
    → RiseFrom before (more t ts)
first_above None t ts a h = h
first_above (Some u) t ts a h = (a, h)

apart_above : (t u : Node) (us : Nodes) → name_cmp t u ≡ Less → RiseFrom (Some u) us → IsApartFrom t us
apart_above t u none l h = tt
apart_above t u (more v vs) l h =
    let above : name_cmp t v ≡ Less = names_total.trans t u v l h.0 in
    (names_differ t v above, apart_above t v vs above h.1)

apart_first : (t : Node) (ts : Nodes) → RiseFrom (Some t) ts → IsApartFrom t ts
apart_first t none h = tt
apart_first t (more u us) h = (names_differ t u h.0, apart_above t u us h.0 h.1)

apart_behind : (t : Node) (ts : Nodes) → RiseFrom (Some t) ts → AreApart ts
apart_behind t none h = tt
apart_behind t (more u us) h = (apart_first u us h.1, apart_behind u us h.1)

-- names that rise are apart
pub apart_of_rise : (ts : Nodes) → RiseFrom None ts → AreApart ts
apart_of_rise none h = tt
apart_of_rise (more t ts) h = (apart_first t ts h, apart_behind t ts h)

-- ---- a row of trees, cut at one of them

module _ (xs : List Tree) (i : ℕ) (x : Tree) (lt : i < length xs) (is : x ≡ get_or xs i x) where
  cut : row_of_trees (drop i xs) ≡ more (node_of x) (row_of_trees (drop (i + 1) xs))
  cut = ap row_of_trees (cut_at xs i x lt is)

  pub rise_here : (before : Option Node) → RiseFrom before (row_of_trees (drop i xs))
      → IsSortedAfter before (node_of x) × RiseFrom (Some (node_of x)) (row_of_trees (drop (i + 1) xs))
  rise_here before h = above_first before (node_of x) _ (subst (RiseFrom before) cut h)

  pub rise_on : (before : Option Node) → IsSortedAfter before (node_of x)
      → RiseFrom (Some (node_of x)) (row_of_trees (drop (i + 1) xs)) → RiseFrom before (row_of_trees (drop i xs))
  rise_on before a h = subst (RiseFrom before) (sym cut) (first_above before (node_of x) _ a h)

  pub apart_here : (t : Node) → IsApartFrom t (row_of_trees (drop i xs))
      → (node_name t ≢ node_name (node_of x)) × IsApartFrom t (row_of_trees (drop (i + 1) xs))
  apart_here t h = let k = subst (IsApartFrom t) cut h in (k.0, k.1)

  pub apart_on : (t : Node) → node_name t ≢ node_name (node_of x) → IsApartFrom t (row_of_trees (drop (i + 1) xs))
      → IsApartFrom t (row_of_trees (drop i xs))
  apart_on t a h = subst (IsApartFrom t) (sym cut) (a, h)

  pub storable_here : (kind : Kind) (n : ℕ) → AreStorableWithin kind n (row_of_trees (drop i xs))
      → (0 < n) × IsStorableWithin kind (n - 1) (node_of x) × AreStorableWithin kind n (row_of_trees (drop (i + 1) xs))
  storable_here kind n h = let k = subst (AreStorableWithin kind n) cut h in (k.0, k.1, k.2)

  pub storable_on : (kind : Kind) (n : ℕ) → 0 < n → IsStorableWithin kind (n - 1) (node_of x)
      → AreStorableWithin kind n (row_of_trees (drop (i + 1) xs)) → AreStorableWithin kind n (row_of_trees (drop i xs))
  storable_on kind n some a h = subst (AreStorableWithin kind n) (sym cut) (some, a, h)

-- ---- a row that is walked from the front

module _ (xs : List Tree) (x : Tree) (some : 1 ≤ length xs) (is : x ≡ get_or xs 0 x) where
  walked : row_of_trees xs ≡ more (node_of x) (row_of_trees (take (length xs - 1) (drop 1 xs)))
  walked =
      let others : take (length xs - 1) (drop 1 xs) ≡ drop 1 xs =
      take_all (length xs - 1) (drop 1 xs) (omega (arith, length-drop 1 xs)) in
      cut xs 0 x (omega arith) is ∙ ap (λ (ts : List Tree). more (node_of x) (row_of_trees ts)) (sym others)

  pub walk_here : AreApart (row_of_trees xs) → IsApartFrom (node_of x) (row_of_trees (take (length xs - 1) (drop 1 xs)))
      × AreApart (row_of_trees (take (length xs - 1) (drop 1 xs)))
  walk_here h = let k = subst AreApart walked h in (k.0, k.1)

  pub walk_on : IsApartFrom (node_of x) (row_of_trees (take (length xs - 1) (drop 1 xs)))
      → AreApart (row_of_trees (take (length xs - 1) (drop 1 xs))) → AreApart (row_of_trees xs)
  walk_on a h = subst AreApart (sym walked) (a, h)

pub apart_at_end : (xs : List Tree) → length xs < 1 → AreApart (row_of_trees xs)
apart_at_end [] few = tt
apart_at_end (x ∷ xs) few = absurd (omega (arith, few))

pub storable_at_end : (kind : Kind) (n : ℕ) (xs : List Tree) (i : ℕ) → (i < length xs → ⊥)
    → AreStorableWithin kind n (row_of_trees (drop i xs))
storable_at_end kind n xs i over =
    let left : drop i xs ≡ [] = nil_from_length (drop i xs) (omega (arith, over, length-drop i xs)) in
    subst (λ (ts : List Tree). AreStorableWithin kind n (row_of_trees ts)) (sym left) tt

-- ---- a node by what was read of it

module _ (kind : Kind) (n : ℕ) (t : Tree) (b : List Tree) (below : b ≡ (out-Tree t).children.items) where
  pub parts_of : IsStorableWithin kind n (node_of t)
      → IsPlainHead kind (node_of t) × AreApart (row_of_trees b) × AreStorableWithin kind n (row_of_trees b)
  parts_of h =
      let k = subst (IsStorableWithin kind n) (node_of-out t) h in (
        subst (IsPlainHead kind) (sym (node_of-out t)) k.0,
        subst (λ (ts : List Tree). AreApart (row_of_trees ts))
            (sym below) k.2,
        subst (λ (ts : List Tree). AreStorableWithin kind n (row_of_trees ts)) (sym below) k.3,
      )

  pub of_parts : length b < 2 ^ 64 → IsPlainHead kind (node_of t) → AreApart (row_of_trees b)
      → AreStorableWithin kind n (row_of_trees b) → IsStorableWithin kind n (node_of t)
  of_parts few head apart all =
      let number : how_many_nodes (row_of_trees b) < 2 ^ 64 =
      omega (arith, few, listed_number (map node_of b), length-map b node_of) in
      subst (IsStorableWithin kind n) (sym (node_of-out t)) (
        subst (IsPlainHead kind) (node_of-out t) head,
        subst (λ (ts : List Tree). how_many_nodes (row_of_trees ts) < 2 ^ 64) below number,
        subst (λ (ts : List Tree). AreApart (row_of_trees ts)) below apart,
        subst (λ (ts : List Tree). AreStorableWithin kind n (row_of_trees ts)) below all,
      )
