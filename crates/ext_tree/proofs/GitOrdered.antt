-- Git's order of a tree changes nothing that its bytes preserve. It can be encoded if the tree can, and is read as the
-- tree.
use Rattle.std.proofs.Common.{◌≡◌, ◌+◌, ◌<◌, Bool, true, false, cond, ltb, refl, sym, ap, ◌∙◌, arith}
use Rattle.std.specs.Prelude.{◌≢◌, max}
use Rattle.std.specs.Ordering.{is_lt, ordering_reverse}
use Rattle.std.specs.declared.cmp.Ordering.{Ordering}
use Rattle.std.specs.declared.cmp.Ordering.TheVariants.{Less, Equal, Greater}
use Rattle.std.proofs.lemmas.Bool.{ltb-true}
use Rattle.std.proofs.lemmas.Map.Lookups.{exact_bytes}
use Rattle.index_parts.specs.declared.hash.Kind.{Kind}
use Rattle.ext_tree.specs.GitOrder.{all_in_git_order, in_git_order, insert_by_length, name_len}
use Rattle.ext_tree.specs.StoredTree.{insert_node, stored_node, stored_nodes, IsApartFrom, IsPlainNode}
use Rattle.ext_tree.specs.StoredTree.{ArePlainNodes, IsSizedNode, AreSizedNodes, IsStorableTree}
use Rattle.ext_tree.specs.Tree.{Node, Nodes, node, none, more, node_name, name_cmp, node_depth, nodes_depth}
use Rattle.ext_tree.specs.Tree.{NodeIdsAreOf, NodesIdsAreOf}
use Rattle.ext_tree.proofs.GitOrders.{as_many}
use Rattle.ext_tree.proofs.Sorted.{names_total}

-- ---- what is read

-- of two with different names either may be put in first
swapped : (a b : Node) (us : Nodes) → name_cmp a b ≡ Less
    → insert_node a (insert_node b us) ≡ insert_node b (insert_node a us)
swapped a b none less =
    let back : name_cmp b a ≡ Greater = names_total.antisymm b a ∙ ap ordering_reverse less in
    rw (less, back) refl
swapped a b (more u us) less = by (name_cmp u a) refl (name_cmp u b) refl (swapped a b us less)
  where
    back : name_cmp b a ≡ Greater
    back = names_total.antisymm b a ∙ ap ordering_reverse less

    by : (o : Ordering) → name_cmp u a ≡ o → (p : Ordering) → name_cmp u b ≡ p
        → insert_node a (insert_node b us) ≡ insert_node b (insert_node a us)
        → insert_node a (cond (is_lt p) (more u (insert_node b us)) (more b (more u us)))
        ≡ insert_node b (cond (is_lt o) (more u (insert_node a us)) (more a (more u us)))
    by Less e Less f k = rw (e, f) (ap (more u) k)
    by Less e Equal f k = absurd (let h : name_cmp u b ≡ Less = names_total.trans u a b e less in cc)
    by Less e Greater f k = absurd (let h : name_cmp u b ≡ Less = names_total.trans u a b e less in cc)
    by Equal e Less f k = rw (e, less, f) refl
    by Greater e Less f k = rw (e, less, f) refl
    by Equal e Equal f k = rw (back, less, f) refl
    by Equal e Greater f k = rw (back, less, f) refl
    by Greater e Equal f k = rw (back, less, f) refl
    by Greater e Greater f k = rw (back, less, f) refl

same_name : (kind : Kind) (t : Node) → node_name (stored_node kind t) ≡ node_name t
same_name kind (node name id count children) = refl

by_name : (t u : Node) → node_name t ≡ node_name u → name_len t ≡ name_len u
by_name t u e = rw e refl

-- names of different lengths may be put in in either order
either_first : (kind : Kind) (t u : Node) (us : Nodes) → name_len u < name_len t
    → insert_node (stored_node kind u) (insert_node (stored_node kind t) us)
    ≡ insert_node (stored_node kind t) (insert_node (stored_node kind u) us)
either_first kind t u us lt = by (name_cmp (stored_node kind u) (stored_node kind t)) refl
  where
    a : Node
    a = stored_node kind u

    b : Node
    b = stored_node kind t

    by : (o : Ordering) → name_cmp a b ≡ o → insert_node a (insert_node b us) ≡ insert_node b (insert_node a us)
    by Less e = swapped a b us e
    by Greater e = sym (swapped b a us (names_total.antisymm b a ∙ ap ordering_reverse e))
    by Equal e =
        let same : node_name u ≡ node_name t =
        sym (same_name kind u) ∙ exact_bytes (node_name a) (node_name b) e ∙ same_name kind t in
        absurd (omega (arith, by_name u t same))

stored_inserted : (kind : Kind) (t : Node) (us : Nodes) → stored_nodes kind (insert_by_length t us)
    ≡ insert_node (stored_node kind t) (stored_nodes kind us)
stored_inserted kind t none = refl
stored_inserted kind t (more u us) = by (ltb (name_len u) (name_len t)) refl (stored_inserted kind t us)
  where
    by : (b : Bool) → ltb (name_len u) (name_len t) ≡ b
        → stored_nodes kind (insert_by_length t us) ≡ insert_node (stored_node kind t) (stored_nodes kind us)
        → stored_nodes kind (cond b (more u (insert_by_length t us)) (more t (more u us)))
        ≡ insert_node (stored_node kind t) (stored_nodes kind (more u us))
    by true e k = ap (insert_node (stored_node kind u)) k
        ∙ either_first kind t u (stored_nodes kind us) (ltb-true (name_len u) (name_len t) e)
    by false e k = refl

mutual
  pub stored_in_git_order : (kind : Kind) (t : Node) → stored_node kind (in_git_order t) ≡ stored_node kind t
  stored_in_git_order kind (node name id count children) = rw (all_stored kind children) refl

  all_stored : (kind : Kind) (ts : Nodes) → stored_nodes kind (all_in_git_order ts) ≡ stored_nodes kind ts
  all_stored kind none = refl
  all_stored kind (more t ts) =
      stored_inserted kind (in_git_order t) (all_in_git_order ts)
      ∙ ap (λ (u : Node). insert_node u (stored_nodes kind (all_in_git_order ts))) (stored_in_git_order kind t)
      ∙ ap (insert_node (stored_node kind t)) (all_stored kind ts)

-- ---- what can be held

apart_inserted : (v t : Node) (us : Nodes) → node_name v ≢ node_name t → IsApartFrom v us
    → IsApartFrom v (insert_by_length t us)
apart_inserted v t none h k = (h, tt)
apart_inserted v t (more u us) h k = by (ltb (name_len u) (name_len t)) (apart_inserted v t us h k.1)
  where
    by : (b : Bool) → IsApartFrom v (insert_by_length t us)
        → IsApartFrom v (cond b (more u (insert_by_length t us)) (more t (more u us)))
    by true x = (k.0, x)
    by false x = (h, k)

git_name : (t : Node) → node_name (in_git_order t) ≡ node_name t
git_name (node name id count children) = refl

apart_in_git_order : (t : Node) (ts : Nodes) → IsApartFrom t ts → IsApartFrom (in_git_order t) (all_in_git_order ts)
apart_in_git_order t none h = tt
apart_in_git_order t (more u us) h = apart_inserted (in_git_order t) (in_git_order u) (all_in_git_order us)
    (λ e. h.0 (sym (git_name t) ∙ e ∙ git_name u)) (apart_in_git_order t us h.1)

plain_inserted : (t : Node) (us : Nodes) → IsPlainNode t → IsApartFrom t us → ArePlainNodes us
    → ArePlainNodes (insert_by_length t us)
plain_inserted t none p a h = (p, tt, tt)
plain_inserted t (more u us) p a h =
    by (ltb (name_len u) (name_len t)) (plain_inserted t us p a.1 h.2)
  where
    by : (b : Bool) → ArePlainNodes (insert_by_length t us)
        → ArePlainNodes (cond b (more u (insert_by_length t us)) (more t (more u us)))
    by true k = (h.0, apart_inserted u t us (λ e. a.0 (sym e)) h.1, k)
    by false k = (p, a, h)

mutual
  plain_in_git_order : (t : Node) → IsPlainNode t → IsPlainNode (in_git_order t)
  plain_in_git_order (node name id count children) h = (h.0, h.1, all_plain children h.2)

  all_plain : (ts : Nodes) → ArePlainNodes ts → ArePlainNodes (all_in_git_order ts)
  all_plain none h = tt
  all_plain (more t ts) h = plain_inserted (in_git_order t) (all_in_git_order ts) (plain_in_git_order t h.0)
      (apart_in_git_order t ts h.1) (all_plain ts h.2)

ids_inserted : (kind : Kind) (t : Node) (us : Nodes) → NodeIdsAreOf kind t → NodesIdsAreOf kind us
    → NodesIdsAreOf kind (insert_by_length t us)
ids_inserted kind t none p h = (p, tt)
ids_inserted kind t (more u us) p h = by (ltb (name_len u) (name_len t)) (ids_inserted kind t us p h.1)
  where
    by : (b : Bool) → NodesIdsAreOf kind (insert_by_length t us)
        → NodesIdsAreOf kind (cond b (more u (insert_by_length t us)) (more t (more u us)))
    by true k = (h.0, k)
    by false k = (p, h)

mutual
  ids_in_git_order : (kind : Kind) (t : Node) → NodeIdsAreOf kind t → NodeIdsAreOf kind (in_git_order t)
  ids_in_git_order kind (node name id count children) h = (h.0, all_ids kind children h.1)

  all_ids : (kind : Kind) (ts : Nodes) → NodesIdsAreOf kind ts → NodesIdsAreOf kind (all_in_git_order ts)
  all_ids kind none h = tt
  all_ids kind (more t ts) h = ids_inserted kind (in_git_order t) (all_in_git_order ts)
      (ids_in_git_order kind t h.0) (all_ids kind ts h.1)

sized_inserted : (t : Node) (us : Nodes) → IsSizedNode t → AreSizedNodes us → AreSizedNodes (insert_by_length t us)
sized_inserted t none p h = (p, tt)
sized_inserted t (more u us) p h = by (ltb (name_len u) (name_len t)) (sized_inserted t us p h.1)
  where
    by : (b : Bool) → AreSizedNodes (insert_by_length t us)
        → AreSizedNodes (cond b (more u (insert_by_length t us)) (more t (more u us)))
    by true k = (h.0, k)
    by false k = (p, h)

mutual
  sized_in_git_order : (t : Node) → IsSizedNode t → IsSizedNode (in_git_order t)
  sized_in_git_order (node name id count children) h =
      (h.0, omega (arith, h.1, as_many children), all_sized children h.2)

  all_sized : (ts : Nodes) → AreSizedNodes ts → AreSizedNodes (all_in_git_order ts)
  all_sized none h = tt
  all_sized (more t ts) h =
      sized_inserted (in_git_order t) (all_in_git_order ts) (sized_in_git_order t h.0) (all_sized ts h.1)

depth_inserted : (t : Node) (us : Nodes)
    → nodes_depth (insert_by_length t us) ≡ max (node_depth t + 1) (nodes_depth us)
depth_inserted t none = refl
depth_inserted t (more u us) = by (ltb (name_len u) (name_len t)) (depth_inserted t us)
  where
    by : (b : Bool) → nodes_depth (insert_by_length t us) ≡ max (node_depth t + 1) (nodes_depth us)
        → nodes_depth (cond b (more u (insert_by_length t us)) (more t (more u us)))
        ≡ max (node_depth t + 1) (nodes_depth (more u us))
    by true e = omega (arith, e)
    by false e = refl

mutual
  same_depth : (t : Node) → node_depth (in_git_order t) ≡ node_depth t
  same_depth (node name id count children) = same_depths children

  same_depths : (ts : Nodes) → nodes_depth (all_in_git_order ts) ≡ nodes_depth ts
  same_depths none = refl
  same_depths (more t ts) =
      omega (arith, depth_inserted (in_git_order t) (all_in_git_order ts), same_depth t, same_depths ts)

pub storable_in_git_order : (kind : Kind) (t : Node) → IsStorableTree kind t → IsStorableTree kind (in_git_order t)
storable_in_git_order kind t h = record {
  plain = plain_in_git_order t h.plain;
  ids = ids_in_git_order kind t h.ids;
  shallow = omega (arith, h.shallow, same_depth t);
  sized = sized_in_git_order t h.sized;
}
