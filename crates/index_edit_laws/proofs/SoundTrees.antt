-- A consistent cache tree is still consistent after paths are invalidated.
use Rattle.std.proofs.Common.{◌≡◌, ℕ, ◌+◌, ◌≤◌, true, false, cond, List, [], ◌∷◌, take, drop, Option, Some}
use Rattle.std.proofs.Common.{None, refl, ap, ◌∙◌}
use Rattle.std.proofs.Common.{arith}
use Rattle.std.specs.Cmp.Lexicographic.{slice_cmp}
use Rattle.std.specs.Ordering.{nat_cmp}
use Rattle.ext_tree.specs.Sound.{AreSoundNodes, IsSoundNode, IsSoundTree, RiseFrom, counted_entries}
use Rattle.ext_tree.specs.Sound.{entries_sum}
use Rattle.ext_tree.specs.StorableSteps.{IsSortedAfter}
use Rattle.ext_tree.specs.Tree.{Node, Nodes, node, none, more, node_name}
use Rattle.ext_tree.proofs.Sorted.{names_total}
use Rattle.entry_edit.specs.Changes.{change_path}
use Rattle.entry_edit.specs.declared.change.Change.{Change}
use Rattle.ext_tree.specs.Invalidation.{is_node_named, invalidated, invalidated_below}
use Rattle.index_parts.specs.Path.{slash_of}
use Rattle.tree_encode.specs.Kept.{HasNamesInOrder, HaveNamesInOrder}
use Rattle.index_edit.specs.Invalidated.{all_invalidated}

pub same_name : (path : List ℕ) (t : Node) → node_name (invalidated path t) ≡ node_name t
same_name path (node name id count ts) = refl

uncounted : (path : List ℕ) (t : Node) → counted_entries (invalidated path t) ≡ 0
uncounted path (node name id count ts) = refl

-- ---- what siblings count together

no_more : (path : List ℕ) (slash : Option ℕ) (ts : Nodes)
    → entries_sum (invalidated_below path slash ts) ≤ entries_sum ts
no_more path slash none = omega arith
no_more path None (more t ts) = elim (is_node_named path t) as (λ b. entries_sum
    (cond b ts (more t (invalidated_below path None ts))) ≤ entries_sum (more t ts)) [
      | true ↦ omega arith
      | false ↦ omega (arith, no_more path None ts)
    ]
no_more path (Some k) (more t ts) = elim (is_node_named (take k path) t) as (λ b. entries_sum
    (cond b (more (invalidated (drop (k + 1) path) t) ts)
    (more t (invalidated_below path (Some k) ts))) ≤ entries_sum (more t ts)) [
      | true ↦ omega (arith, uncounted (drop (k + 1) path) t)
      | false ↦ omega (arith, no_more path (Some k) ts)
    ]

-- ---- their names

above_first : (before : Option Node) (t : Node) (ts : Nodes) → RiseFrom before (more t ts)
    → IsSortedAfter before t × RiseFrom (Some t) ts
above_first None t ts h = (tt, h)
above_first (Some u) t ts h = (h.0, h.1)

first_above : (before : Option Node) (t : Node) (ts : Nodes) → IsSortedAfter before t → RiseFrom (Some t) ts
    → RiseFrom before (more t ts)
first_above None t ts a h = h
first_above (Some u) t ts a h = (a, h)

-- without the first of them
passed : (before : Option Node) (t : Node) (ts : Nodes) → IsSortedAfter before t → RiseFrom (Some t) ts
    → RiseFrom before ts
passed before t none a h = tt
passed None t (more u us) a h = h.1
passed (Some v) t (more u us) a h = (names_total.trans v t u a h.0, h.1)

-- with another node of the same name as the first
above_as : (before : Option Node) (t u : Node) → node_name u ≡ node_name t → IsSortedAfter before t
    → IsSortedAfter before u
above_as None t u e a = tt
above_as (Some v) t u e a = ap (λ (n : List ℕ). slice_cmp nat_cmp (node_name v) n) e ∙ a

rise_as : (t u : Node) (ts : Nodes) → node_name u ≡ node_name t → RiseFrom (Some t) ts → RiseFrom (Some u) ts
rise_as t u none e h = tt
rise_as t u (more v vs) e h = (ap (λ (n : List ℕ). slice_cmp nat_cmp n (node_name v)) e ∙ h.0, h.1)

rise_stay : (path : List ℕ) (slash : Option ℕ) (before : Option Node) (ts : Nodes) → RiseFrom before ts
    → RiseFrom before (invalidated_below path slash ts)
rise_stay path slash before none h = tt
rise_stay path None before (more t ts) h =
    let a = above_first before t ts h in
    elim (is_node_named path t) as (λ b. RiseFrom before (cond b ts (more t (invalidated_below path None ts)))) [
      | true ↦ passed before t ts a.0 a.1
      | false ↦ first_above before t (invalidated_below path None ts) a.0 (rise_stay path None (Some t) ts a.1)
    ]
rise_stay path (Some k) before (more t ts) h =
    let a = above_first before t ts h in
    let rest = drop (k + 1) path in
    let same = same_name rest t in
    elim (is_node_named (take k path) t) as (λ b. RiseFrom before
    (cond b (more (invalidated rest t) ts) (more t (invalidated_below path (Some k) ts)))) [
      | true ↦ first_above before (invalidated rest t) ts (above_as before t (invalidated rest t) same a.0)
          (rise_as t (invalidated rest t) ts same a.1)
      | false ↦ first_above before t (invalidated_below path (Some k) ts) a.0
          (rise_stay path (Some k) (Some t) ts a.1)
    ]

-- ---- a node with all below it

mutual
  node_stays : (path : List ℕ) (t : Node) → IsSoundNode t → IsSoundNode (invalidated path t)
  node_stays path (node name id count ts) h = (
    omega (arith, h.0, no_more path (slash_of path) ts),
    rise_stay path (slash_of path) None ts h.1,
    tt,
    nodes_stay path (slash_of path) ts h.3,
  )

  nodes_stay : (path : List ℕ) (slash : Option ℕ) (ts : Nodes) → AreSoundNodes ts
      → AreSoundNodes (invalidated_below path slash ts)
  nodes_stay path slash none h = tt
  nodes_stay path None (more t ts) h = elim (is_node_named path t) as (λ b. AreSoundNodes
      (cond b ts (more t (invalidated_below path None ts)))) [
        | true ↦ h.1
        | false ↦ (h.0, nodes_stay path None ts h.1)
      ]
  nodes_stay path (Some k) (more t ts) h = elim (is_node_named (take k path) t) as (λ b. AreSoundNodes
      (cond b (more (invalidated (drop (k + 1) path) t) ts) (more t (invalidated_below path (Some k) ts)))) [
        | true ↦ (node_stays (drop (k + 1) path) t h.0, h.1)
        | false ↦ (h.0, nodes_stay path (Some k) ts h.1)
      ]

mutual
  order_stays : (path : List ℕ) (t : Node) → HasNamesInOrder t → HasNamesInOrder (invalidated path t)
  order_stays path (node name id count ts) h =
      (rise_stay path (slash_of path) None ts h.0, orders_stay path (slash_of path) ts h.1)

  orders_stay : (path : List ℕ) (slash : Option ℕ) (ts : Nodes) → HaveNamesInOrder ts
      → HaveNamesInOrder (invalidated_below path slash ts)
  orders_stay path slash none h = tt
  orders_stay path None (more t ts) h = elim (is_node_named path t) as (λ b. HaveNamesInOrder
      (cond b ts (more t (invalidated_below path None ts)))) [
        | true ↦ h.1
        | false ↦ (h.0, orders_stay path None ts h.1)
      ]
  orders_stay path (Some k) (more t ts) h = elim (is_node_named (take k path) t) as (λ b. HaveNamesInOrder
      (cond b (more (invalidated (drop (k + 1) path) t) ts) (more t (invalidated_below path (Some k) ts)))) [
        | true ↦ (order_stays (drop (k + 1) path) t h.0, h.1)
        | false ↦ (h.0, orders_stay path (Some k) ts h.1)
      ]

pub in_order_stays : (path : List ℕ) (t : Node) → HasNamesInOrder t → HasNamesInOrder (invalidated path t)
in_order_stays path t h = order_stays path t h

mutual
  node_in_order : (t : Node) → IsSoundNode t → HasNamesInOrder t
  node_in_order (node name id count ts) h = (h.1, nodes_in_order ts h.3)

  nodes_in_order : (ts : Nodes) → AreSoundNodes ts → HaveNamesInOrder ts
  nodes_in_order none h = tt
  nodes_in_order (more t ts) h = (node_in_order t h.0, nodes_in_order ts h.1)

-- ---- a tree

pub sound_in_order : (t : Node) → IsSoundTree t → HasNamesInOrder t
sound_in_order t h = node_in_order t h.1

pub sound_stays : (cs : List Change) (t : Node) → IsSoundTree t → IsSoundTree (all_invalidated cs t)
unfolding all_invalidated
sound_stays [] t h = h
sound_stays (c ∷ cs) t h =
    let path = change_path c in
    sound_stays cs (invalidated path t) (same_name path t ∙ h.0, node_stays path t h.1)
