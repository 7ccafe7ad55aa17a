-- Bytes are one tree, the ids in it are of one kind, and its levels are bounded.
use Rattle.std.proofs.Common.{◌≡◌, ℕ, ◌+◌, ◌-◌, ◌≤◌, List, [], ◌∷◌, Option, sym, ap, subst, ◌∙◌, arith}
use Rattle.std.specs.List.{AllByRecursion}
use Rattle.std.specs.List.Sorted.{IsPermutation}
use Rattle.std.proofs.lemmas.List.Elements.{All-from_recursion, recursion_from_All}
use Rattle.std.proofs.lemmas.List.Sorted.{IsPermutation-sym, IsPermutation-trans, All-permutation}
use Rattle.index_parts.specs.declared.hash.Kind.{Kind}
use Rattle.ext_tree.specs.Tree.{Node, Nodes, node, none, more, how_many_nodes, nodes_from, IsNodeEncoding}
use Rattle.ext_tree.specs.Tree.{AreNodeEncodings, node_depth, nodes_depth, NodeIdsAreOf, NodesIdsAreOf, SortsChildren}
use Rattle.ext_tree.specs.Tree.{SortsEach, IsNode, IsTree}
use Rattle.ext_tree.proofs.NodeHeads.{head_kind}
use Rattle.ext_tree.proofs.Sorted.{one_order}
use Rattle.ext_tree.proofs.Spelled.{one_node}

-- ---- one sorted tree

mutual
  one_sorted : (u t v : Node) → SortsChildren u t → SortsChildren u v → t ≡ v
  one_sorted (node n i c us) t v p q =
      let e : p.0 ≡ q.0 = each_once us p.0 q.0 p.1 q.1 in
      let order : IsPermutation p.0 q.2.0 = rw e q.2.1 in
      let same : p.2.0 ≡ q.2.0 = one_order p.2.0 q.2.0
      (IsPermutation-trans p.2.0 p.0 q.2.0 (IsPermutation-sym p.0 p.2.0 p.2.1) order) p.2.2 q.2.2 in
      p.2.3 ∙ ap (λ vs. node n i c (nodes_from vs)) same ∙ sym q.2.3

  pub each_once : (us : Nodes) (ts vs : List Node) → SortsEach us ts → SortsEach us vs → ts ≡ vs
  each_once none ts vs p q = p ∙ sym q
  each_once (more u us) ts vs p q =
      let a : p.0 ≡ q.0 = one_sorted u p.0 q.0 p.3 q.3 in
      let b : p.1 ≡ q.1 = each_once us p.1 q.1 p.4 q.4 in
      p.2 ∙ rw (a, b) (sym q.2)

pub one_subtree : (kind : Kind) (limit : Option ℕ) (levels : ℕ) (bytes : List ℕ) (t v : Node) (rest end : List ℕ)
    → IsNode kind limit levels bytes t rest → IsNode kind limit levels bytes v end → (t ≡ v) × (rest ≡ end)
one_subtree kind limit levels bytes t v rest end p q =
    let e = one_node kind limit p.spelled q.spelled bytes rest end p.spells q.spells in
    let same : p.spelled ≡ q.spelled = e.0 in
    (one_sorted p.spelled t v p.sorts (rw same q.sorts), e.1)

-- bytes are one tree
pub one_tree : (kind : Kind) (limit : Option ℕ) (bytes : List ℕ) (t v : Node) → IsTree kind limit bytes t
    → IsTree kind limit bytes v → t ≡ v
one_tree kind limit bytes t v p q = (one_subtree kind limit 2048 bytes t v [] [] p q).0

pub moved : (P : Node → Type 0) (ts vs : List Node) → IsPermutation ts vs → AllByRecursion P ts → AllByRecursion P vs
moved P ts vs h a = recursion_from_All P vs (All-permutation P ts vs h (All-from_recursion P ts a))

-- ---- the kind of ids

mutual
  spelled_ids : (kind : Kind) (limit : Option ℕ) (t : Node) (bytes rest : List ℕ)
      → IsNodeEncoding kind limit t bytes rest
      → NodeIdsAreOf kind t
  spelled_ids kind limit (node n i c ts) bytes rest p = (
    head_kind kind limit bytes (record { name = n; count = c; id = i; number = how_many_nodes ts }) p.0 p.1,
    row_ids kind limit ts p.0 rest p.2,
  )

  row_ids : (kind : Kind) (limit : Option ℕ) (ts : Nodes) (bytes rest : List ℕ)
      → AreNodeEncodings kind limit ts bytes rest
      → NodesIdsAreOf kind ts
  row_ids kind limit none bytes rest p = tt
  row_ids kind limit (more t ts) bytes rest p =
      (spelled_ids kind limit t bytes p.0 p.1, row_ids kind limit ts p.0 rest p.2)

ids_from : (kind : Kind) (ts : List Node) → AllByRecursion (NodeIdsAreOf kind) ts → NodesIdsAreOf kind (nodes_from ts)
ids_from kind [] h = tt
ids_from kind (t ∷ ts) h = (h.0, ids_from kind ts h.1)

mutual
  sorted_ids : (kind : Kind) (u t : Node) → SortsChildren u t → NodeIdsAreOf kind u → NodeIdsAreOf kind t
  sorted_ids kind (node n i c us) t s h =
      let below = ids_from kind s.2.0 (moved (NodeIdsAreOf kind) s.0 s.2.0 s.2.1 (each_ids kind us s.0 s.1 h.1)) in
      subst (NodeIdsAreOf kind) (sym s.2.3) (h.0, below)

  each_ids : (kind : Kind) (us : Nodes) (ts : List Node) → SortsEach us ts → NodesIdsAreOf kind us
      → AllByRecursion (NodeIdsAreOf kind) ts
  each_ids kind none ts s h = subst (AllByRecursion (NodeIdsAreOf kind)) (sym s) tt
  each_ids kind (more u us) ts s h =
      subst (AllByRecursion (NodeIdsAreOf kind)) (sym s.2) (sorted_ids kind u s.0 s.3 h.0, each_ids kind us s.1 s.4 h.1)

-- all ids of a tree are of the kind that its bytes are read by
pub ids_of_tree : (kind : Kind) (limit : Option ℕ) (bytes : List ℕ) (t : Node) → IsTree kind limit bytes t
    → NodeIdsAreOf kind t
ids_of_tree kind limit bytes t p =
    sorted_ids kind p.spelled t p.sorts (spelled_ids kind limit p.spelled bytes [] p.spells)

-- ---- levels

depth_from : (n : ℕ) (ts : List Node) → AllByRecursion (λ t. node_depth t + 1 ≤ n) ts → nodes_depth (nodes_from ts) ≤ n
depth_from n [] h = omega arith
depth_from n (t ∷ ts) h = omega (arith, h.0, depth_from n ts h.1)

mutual
  sorted_depth : (n : ℕ) (u t : Node) → SortsChildren u t → node_depth u ≤ n → node_depth t ≤ n
  sorted_depth n (node name i c us) t s h =
      let below = depth_from n s.2.0 (moved (λ t. node_depth t + 1 ≤ n) s.0 s.2.0 s.2.1 (each_depth n us s.0 s.1 h)) in
      subst (λ (v : Node). node_depth v ≤ n) (sym s.2.3) below

  each_depth : (n : ℕ) (us : Nodes) (ts : List Node) → SortsEach us ts → nodes_depth us ≤ n
      → AllByRecursion (λ t. node_depth t + 1 ≤ n) ts
  each_depth n none ts s h = subst (AllByRecursion (λ t. node_depth t + 1 ≤ n)) (sym s) tt
  each_depth n (more u us) ts s h =
      let first : node_depth s.0 ≤ n - 1 = sorted_depth (n - 1) u s.0 s.3 (omega (arith, h)) in
      subst (AllByRecursion (λ t. node_depth t + 1 ≤ n)) (sym s.2)
      (omega (arith, h, first), each_depth n us s.1 s.4 (omega (arith, h)))

-- a tree has 2048 levels below its root at most
pub depth_of_tree : (kind : Kind) (limit : Option ℕ) (bytes : List ℕ) (t : Node) → IsTree kind limit bytes t
    → node_depth t ≤ 2048
depth_of_tree kind limit bytes t p = sorted_depth 2048 p.spelled t p.sorts p.shallow
