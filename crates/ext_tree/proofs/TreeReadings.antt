-- All bytes are a cached tree or are none.
use Rattle.std.proofs.Common.{◌≡◌, ℕ, zero, suc, ◌-◌, inl, inr, List, [], ◌∷◌, Option, Some, None, refl, subst, arith}
use Rattle.std.specs.List.Sorted.{IsPermutation}
use Rattle.index_parts.specs.declared.hash.Kind.{Kind}
use Rattle.index_extensions.specs.ExtensionValue.{IsRead}
use Rattle.ext_tree.specs.NodeSteps.{roomy_head_at}
use Rattle.ext_tree.specs.Tree.{Node, node, nodes_from, NodeHead, NamesRise, IsNode, IsTree}
use Rattle.ext_tree.proofs.Orders.{sort_reading}
use Rattle.index_extensions.proofs.Readings.{Decided, read_of, one_read}
use Rattle.ext_tree.proofs.Rows.{IsRow, no_row, same_row, first_of, others_of, node_from, row_of, none_at}
use Rattle.ext_tree.proofs.Trees.{one_subtree, one_tree}

module _ (kind : Kind) (limit : Option ℕ) where
  -- a node that begins bytes, and the rest; or none begins them
  abbrev NodeAt : ℕ → List ℕ → Type 0
  NodeAt levels bytes = Decided (λ (x : Node × List ℕ). IsNode kind limit levels bytes x.0 x.1)

  -- so many nodes that begin bytes, and the rest; or so many don't begin them
  abbrev RowAt : ℕ → ℕ → List ℕ → Type 0
  RowAt levels number bytes = Decided (λ (x : List Node × List ℕ). IsRow kind limit levels number bytes x.0 x.1)

  -- ---- a row

  row_cons : (level number : ℕ) (bytes middle rest : List ℕ) (t : Node) (ts : List Node)
      → IsNode kind limit level bytes t middle → IsRow kind limit (suc level) number middle ts rest
      → IsRow kind limit (suc level) (suc number) bytes (t ∷ ts) rest
  row_cons level number bytes middle rest t ts p q = record {
    nodes = p.spelled ∷ q.nodes;
    spelled = (middle, p.spells, q.spelled);
    number_is = omega (arith, q.number_is);
    shallow = omega (arith, p.shallow, q.shallow);
    sorted = (t, ts, refl, p.sorts, q.sorted);
  }

  row_behind : (level number : ℕ) (bytes middle rest : List ℕ) (t : Node) (ts : List Node)
      → IsNode kind limit level bytes t middle → IsRow kind limit (suc level) (suc number) bytes ts rest
      → (vs : List Node) × IsRow kind limit (suc level) number middle vs rest
  row_behind level number bytes middle rest t ts p q =
      let below : level ≡ suc level - 1 = omega arith in
      let fewer : suc number - 1 ≡ number = omega arith in
      let lower : IsNode kind limit (suc level - 1) bytes t middle =
      subst (λ (l : ℕ). IsNode kind limit l bytes t middle) below p in
      let others = others_of kind limit (suc level) (suc number) bytes middle rest ts t (omega arith) q lower in
      (others.0, subst (λ (n : ℕ). IsRow kind limit (suc level) n middle others.0 rest) fewer others.1)

  row_with : (level number : ℕ) (bytes middle : List ℕ) (t : Node) → IsNode kind limit level bytes t middle
      → RowAt (suc level) number middle → RowAt (suc level) (suc number) bytes
  row_with level number bytes middle t p (inl q) =
      inl ((t ∷ q.0.0, q.0.1), row_cons level number bytes middle q.0.1 t q.0.0 p q.1)
  row_with level number bytes middle t p (inr none_behind) = inr (λ x q.
      let others = row_behind level number bytes middle x.1 t x.0 p q in
      none_behind (others.0, x.1) others.1)

  row_first : (level number : ℕ) (bytes rest : List ℕ) (ts : List Node)
      → IsRow kind limit (suc level) (suc number) bytes ts rest
      → (x : Node × List ℕ) × IsNode kind limit level bytes x.0 x.1
  row_first level number bytes rest ts q =
      let below : suc level - 1 ≡ level = omega arith in
      let f = first_of kind limit (suc level) (suc number) bytes rest ts (omega arith) q in
      ((f.first, f.after), subst (λ (l : ℕ). IsNode kind limit l bytes f.first f.after) below f.is_first)

  row_more : (level number : ℕ) (bytes : List ℕ) → ((middle : List ℕ) → RowAt (suc level) number middle)
      → NodeAt level bytes → RowAt (suc level) (suc number) bytes
  row_more level number bytes others (inl p) = row_with level number bytes p.0.1 p.0.0 p.1 (others p.0.1)
  row_more level number bytes others (inr no_first) = inr (λ x q.
      let f = row_first level number bytes x.1 x.0 q in
      no_first f.0 f.1)

  row_below : (level : ℕ) → ((bytes : List ℕ) → NodeAt level bytes) → (number : ℕ) (bytes : List ℕ)
      → RowAt (suc level) number bytes
  row_below level child zero bytes = inl (([], bytes), no_row kind limit (suc level) bytes)
  row_below level child (suc number) bytes =
      row_more level number bytes (λ middle. row_below level child number middle) (child bytes)

  -- there is nothing below the last level
  row_last : (number : ℕ) (bytes : List ℕ) → RowAt 0 number bytes
  row_last zero bytes = inl (([], bytes), no_row kind limit 0 bytes)
  row_last (suc number) bytes = inr (λ x q. let f = first_of kind limit 0 (suc number) bytes x.1 x.0 (omega arith) q in
      absurd (omega (arith, f.level)))

  -- ---- a node

  node_sorted : (levels : ℕ) (bytes tail rest : List ℕ) (h : NodeHead) (ts : List Node)
      → roomy_head_at kind limit bytes ≡ Some (h, tail) → IsRow kind limit levels h.number tail ts rest
      → Decided (λ (vs : List Node). IsPermutation ts vs × NamesRise vs) → NodeAt levels bytes
  node_sorted levels bytes tail rest h ts e p (inl s) = inl (
    (node h.name h.id h.count (nodes_from s.0), rest),
    node_from kind limit levels bytes tail rest h ts s.0 e p s.1.0 s.1.1,
  )
  node_sorted levels bytes tail rest h ts e p (inr no_order) = inr (λ x q.
      let r = row_of kind limit levels bytes tail x.1 h x.0 e q in
      let same : r.nodes ≡ ts = same_row kind limit levels h.number tail x.1 rest r.nodes ts r.row p in
      no_order r.ordered (subst (λ (us : List Node). IsPermutation us r.ordered) same r.order, r.rise))

  node_with : (levels : ℕ) (bytes tail : List ℕ) (h : NodeHead) → roomy_head_at kind limit bytes ≡ Some (h, tail)
      → RowAt levels h.number tail → NodeAt levels bytes
  node_with levels bytes tail h e (inl p) = node_sorted levels bytes tail p.0.1 h p.0.0 e p.1 (sort_reading p.0.0)
  node_with levels bytes tail h e (inr none_below) = inr (λ x q.
      let r = row_of kind limit levels bytes tail x.1 h x.0 e q in
      none_below (r.nodes, x.1) r.row)

  node_by : (levels : ℕ) (bytes : List ℕ) → ((number : ℕ) (tail : List ℕ) → RowAt levels number tail)
      → (o : Option (NodeHead × List ℕ)) → roomy_head_at kind limit bytes ≡ o → NodeAt levels bytes
  node_by levels bytes row None e = inr (λ x q. none_at kind limit levels bytes e x.0 x.1 q)
  node_by levels bytes row (Some h) e = node_with levels bytes h.1 h.0 e (row h.0.number h.1)

  pub node_reading : (levels : ℕ) (bytes : List ℕ) → NodeAt levels bytes
  node_reading zero bytes = node_by 0 bytes row_last (roomy_head_at kind limit bytes) refl
  node_reading (suc level) bytes = node_by (suc level) bytes (row_below level (λ middle. node_reading level middle))
      (roomy_head_at kind limit bytes) refl

  -- ---- the tree

  tree_with : (bytes : List ℕ) (t : Node) (rest : List ℕ) → IsNode kind limit 2048 bytes t rest
      → Decided (IsTree kind limit bytes)
  tree_with bytes t [] p = inl (t, p)
  tree_with bytes t (b ∷ rest) p =
      inr (λ v q. let same : (b ∷ rest) ≡ [] = (one_subtree kind limit 2048 bytes t v (b ∷ rest) [] p q).1 in absurd cc)

  tree_by : (bytes : List ℕ) → NodeAt 2048 bytes → Decided (IsTree kind limit bytes)
  tree_by bytes (inl p) = tree_with bytes p.0.0 p.0.1 p.1
  tree_by bytes (inr none_at_all) = inr (λ v q. none_at_all (v, []) q)

  -- bytes are read as a tree or as none
  pub tree_reading : (bytes : List ℕ) → (v : Option Node) × IsRead (IsTree kind limit) bytes v
  tree_reading bytes = read_of (IsTree kind limit) bytes (tree_by bytes (node_reading 2048 bytes))

  -- and in one way
  pub tree_reading_one : (bytes : List ℕ) (v w : Option Node) → IsRead (IsTree kind limit) bytes v
      → IsRead (IsTree kind limit) bytes w → v ≡ w
  tree_reading_one bytes = one_read (IsTree kind limit) bytes (one_tree kind limit bytes)
