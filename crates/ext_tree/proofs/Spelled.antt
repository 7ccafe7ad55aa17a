-- Bytes spell one node, and one row of nodes.
use Rattle.std.proofs.Common.{◌≡◌, ℕ, suc, ◌+◌, ◌*◌, ◌≤◌, max, List, [], ◌∷◌, ◌++◌, length, Option, None, refl, sym, ap}
use Rattle.std.proofs.Common.{subst, ◌∙◌, arith, map}
use Rattle.index_parts.specs.declared.hash.Kind.{Kind}
use Rattle.ext_tree.specs.NodeSteps.{roomy_head_at}
use Rattle.ext_tree.specs.Tree.{Node, Nodes, node, none, more, nodes_from, how_many_nodes, NodeHead, IsNodeEncoding}
use Rattle.ext_tree.specs.Tree.{AreNodeEncodings, node_depth, nodes_depth, node_of, node_step}
use Rattle.ext_tree.specs.declared.Tree.{Tree}
use Rattle.ext_tree.specs.declared.Tree.TheOpen.{Tree-F}
use Rattle.ext_tree.specs.declared.Tree.TheViews.{roll-Tree, out-Tree}
use Rattle.ext_tree.specs.declared.Tree.TheFolds.{fold-roll-Tree, fold_out-Tree}
use Rattle.ext_tree.proofs.NodeHeads.{one_node_head, six_or_more, roomy_head_again}

pub node_of-roll : (x : Tree-F Tree)
    → node_of (roll-Tree x) ≡ node x.name.items x.id x.num_entries (nodes_from (map node_of x.children.items))
node_of-roll = fold-roll-Tree Node node_step

pub node_of-out : (t : Tree) → node_of t ≡ node (out-Tree t).name.items (out-Tree t).id (out-Tree t).num_entries
    (nodes_from (map node_of (out-Tree t).children.items))
node_of-out = fold_out-Tree Node node_step

pub depth_push : (ts : List Node) (t : Node)
    → nodes_depth (nodes_from (ts ++ t ∷ [])) ≡ max (nodes_depth (nodes_from ts)) (node_depth t + 1)
depth_push [] t = omega arith
depth_push (u ∷ ts) t = omega (arith, depth_push ts t)

pub number_push : (ts : List Node) (t : Node)
    → how_many_nodes (nodes_from (ts ++ t ∷ [])) ≡ suc (how_many_nodes (nodes_from ts))
number_push [] t = refl
number_push (u ∷ ts) t = omega (arith, number_push ts t)

module _ (kind : Kind) (limit : Option ℕ) where
  mutual
    pub one_node : (t u : Node) (bytes rest end : List ℕ) → IsNodeEncoding kind limit t bytes rest
        → IsNodeEncoding kind limit u bytes end → (t ≡ u) × (rest ≡ end)
    one_node (node n i c ts) (node m j d us) bytes rest end p q =
        let same = one_node_head kind limit bytes (record { name = n; count = c; id = i; number = how_many_nodes ts })
        (record { name = m; count = d; id = j; number = how_many_nodes us }) p.0 q.0 p.1 q.1 in
        let name : n ≡ m = ap (λ (h : NodeHead). h.name) same.0 in
        let count : c ≡ d = ap (λ (h : NodeHead). h.count) same.0 in
        let id : i ≡ j = ap (λ (h : NodeHead). h.id) same.0 in
        let number : how_many_nodes ts ≡ how_many_nodes us = ap (λ (h : NodeHead). h.number) same.0 in
        let others : AreNodeEncodings kind limit us p.0 end =
        subst (λ (l : List ℕ). AreNodeEncodings kind limit us l end) (sym same.1) q.2 in
        let below = one_row ts us p.0 rest end number p.2 others in
        let children : ts ≡ us = below.0 in
        (rw (name, id, count, children) refl, below.1)

    pub one_row : (ts us : Nodes) (bytes rest end : List ℕ) → how_many_nodes ts ≡ how_many_nodes us
        → AreNodeEncodings kind limit ts bytes rest → AreNodeEncodings kind limit us bytes end
        → (ts ≡ us) × (rest ≡ end)
    one_row none none bytes rest end e p q = (refl, sym p ∙ q)
    one_row none (more u us) bytes rest end e p q = absurd (omega arith)
    one_row (more t ts) none bytes rest end e p q = absurd (omega arith)
    one_row (more t ts) (more u us) bytes rest end e p q =
        let first = one_node t u bytes p.0 q.0 p.1 q.1 in
        let others : AreNodeEncodings kind limit us p.0 end =
        subst (λ (l : List ℕ). AreNodeEncodings kind limit us l end) (sym first.1) q.2 in
        let behind = one_row ts us p.0 rest end (omega arith) p.2 others in
        let node_is : t ≡ u = first.0 in
        let nodes_are : ts ≡ us = behind.0 in
        (rw (node_is, nodes_are) refl, behind.1)

  pub spelled_push : (ts : List Node) (t : Node) (bytes middle rest : List ℕ)
      → AreNodeEncodings kind limit (nodes_from ts) bytes middle → IsNodeEncoding kind limit t middle rest
      → AreNodeEncodings kind limit (nodes_from (ts ++ t ∷ [])) bytes rest
  spelled_push [] t bytes middle rest p q =
      (rest, subst (λ (l : List ℕ). IsNodeEncoding kind limit t l rest) (sym p) q, refl)
  spelled_push (u ∷ ts) t bytes middle rest p q = (p.0, p.1, spelled_push ts t p.0 middle rest p.2 q)

  mutual
    -- a node has six bytes or more
    spelled_len : (t : Node) (bytes rest : List ℕ) → IsNodeEncoding kind limit t bytes rest
        → 6 + length rest ≤ length bytes
    spelled_len (node n i c ts) bytes rest p = omega (
      arith,
      six_or_more kind limit bytes
          (record { name = n; count = c; id = i; number = how_many_nodes ts }) p.0 p.1,
      row_len ts p.0 rest p.2,
    )

    row_len : (ts : Nodes) (bytes rest : List ℕ) → AreNodeEncodings kind limit ts bytes rest
        → 6 * how_many_nodes ts + length rest ≤ length bytes
    row_len none bytes rest p = omega (arith, ap length p)
    row_len (more t ts) bytes rest p = omega (arith, spelled_len t bytes p.0 p.1, row_len ts p.0 rest p.2)

  -- if no head with room for its children is read, no node is encoded
  pub no_node : (t : Node) (bytes rest : List ℕ) → roomy_head_at kind limit bytes ≡ None
      → IsNodeEncoding kind limit t bytes rest → ⊥
  no_node (node n i c ts) bytes rest e p =
      let room : 6 * how_many_nodes ts ≤ length p.0 = omega (arith, row_len ts p.0 rest p.2) in
      let found = roomy_head_again kind limit bytes
      (record { name = n; count = c; id = i; number = how_many_nodes ts }) p.0 p.1 room in
      cc
