-- A cache tree that bytes can store can still be stored after a path is invalidated.
use Rattle.std.proofs.Common.{◌≡◌, ℕ, ◌+◌, ◌-◌, ◌≤◌, true, false, cond, List, length, take, drop, Option, Some, None, refl, ap, sym}
use Rattle.std.proofs.Common.{◌∙◌, arith}
use Rattle.std.proofs.lemmas.List.{length-replicate}
use Rattle.index_parts.specs.Id.{id_bytes, id_kind, id_len, null_id}
use Rattle.index_parts.specs.declared.hash.Kind.{Kind}
use Rattle.index_parts.proofs.Ids.{id_bytes-make_id, id_kind-make_id}
use Rattle.ext_tree.specs.StorableSteps.{AreApart, AreStorableWithin, IsStorableWithin}
use Rattle.ext_tree.specs.StoredTree.{IsApartFrom, IsStorableTree}
use Rattle.ext_tree.specs.Tree.{Node, Nodes, node, none, more, how_many_nodes, node_name}
use Rattle.ext_tree.proofs.Storables.{of_storable, storable_of}
use Rattle.ext_tree.specs.Invalidation.{is_node_named, invalidated, invalidated_below}
use Rattle.index_parts.specs.Path.{slash_of}

-- ---- a null id

null_kind : (kind : Kind) → id_kind (null_id kind) ≡ kind
null_kind kind = id_kind-make_id kind _

null_len : (kind : Kind) → length (id_bytes (null_id kind)) ≡ id_len (id_kind (null_id kind))
null_len kind = ap length (id_bytes-make_id kind _) ∙ length-replicate (id_len kind) 0 ∙ ap id_len (sym (null_kind kind))

-- ---- siblings

same_name : (path : List ℕ) (t : Node) → node_name (invalidated path t) ≡ node_name t
same_name path (node name id count ts) = refl

-- another node of the same name
apart_as : (t u : Node) (ts : Nodes) → node_name u ≡ node_name t → IsApartFrom t ts → IsApartFrom u ts
apart_as t u none e h = tt
apart_as t u (more v vs) e h = (λ same. h.0 (sym e ∙ same), apart_as t u vs e h.1)

apart_from_stay : (path : List ℕ) (slash : Option ℕ) (t : Node) (ts : Nodes) → IsApartFrom t ts
    → IsApartFrom t (invalidated_below path slash ts)
apart_from_stay path slash t none h = tt
apart_from_stay path None t (more u us) h = elim (is_node_named path u) as (λ b. IsApartFrom t
    (cond b us (more u (invalidated_below path None us)))) [
      | true ↦ h.1
      | false ↦ (h.0, apart_from_stay path None t us h.1)
    ]
apart_from_stay path (Some k) t (more u us) h = elim (is_node_named (take k path) u) as (λ b. IsApartFrom t
    (cond b (more (invalidated (drop (k + 1) path) u) us)
    (more u (invalidated_below path (Some k) us)))) [
      | true ↦ (λ same. h.0 (same ∙ same_name (drop (k + 1) path) u), h.1)
      | false ↦ (h.0, apart_from_stay path (Some k) t us h.1)
    ]

apart_stay : (path : List ℕ) (slash : Option ℕ) (ts : Nodes) → AreApart ts → AreApart (invalidated_below path slash ts)
apart_stay path slash none h = tt
apart_stay path None (more t ts) h = elim (is_node_named path t) as (λ b. AreApart
    (cond b ts (more t (invalidated_below path None ts)))) [
      | true ↦ h.1
      | false ↦ (apart_from_stay path None t ts h.0, apart_stay path None ts h.1)
    ]
apart_stay path (Some k) (more t ts) h = elim (is_node_named (take k path) t) as (λ b. AreApart
    (cond b (more (invalidated (drop (k + 1) path) t) ts)
    (more t (invalidated_below path (Some k) ts)))) [
      | true ↦ (apart_as t (invalidated (drop (k + 1) path) t) ts (same_name (drop (k + 1) path) t) h.0, h.1)
      | false ↦ (apart_from_stay path (Some k) t ts h.0, apart_stay path (Some k) ts h.1)
    ]

no_more : (path : List ℕ) (slash : Option ℕ) (ts : Nodes)
    → how_many_nodes (invalidated_below path slash ts) ≤ how_many_nodes ts
no_more path slash none = omega arith
no_more path None (more t ts) = elim (is_node_named path t) as (λ b. how_many_nodes
    (cond b ts (more t (invalidated_below path None ts))) ≤ how_many_nodes (more t ts)) [
      | true ↦ omega arith
      | false ↦ omega (arith, no_more path None ts)
    ]
no_more path (Some k) (more t ts) = elim (is_node_named (take k path) t) as (λ b. how_many_nodes
    (cond b (more (invalidated (drop (k + 1) path) t) ts)
    (more t (invalidated_below path (Some k) ts))) ≤ how_many_nodes (more t ts)) [
      | true ↦ omega arith
      | false ↦ omega (arith, no_more path (Some k) ts)
    ]

-- ---- a node with all below it

module _ (kind : Kind) where
  mutual
    within_stays : (n : ℕ) (path : List ℕ) (t : Node) → IsStorableWithin kind n t
        → IsStorableWithin kind n (invalidated path t)
    within_stays n path (node name id count ts) h = (
      (h.0.0, tt, null_kind (id_kind id) ∙ h.0.2, null_len (id_kind id)),
      omega (arith, h.1, no_more path (slash_of path) ts),
      apart_stay path (slash_of path) ts h.2,
      all_within_stay n path (slash_of path) ts h.3,
    )

    all_within_stay : (n : ℕ) (path : List ℕ) (slash : Option ℕ) (ts : Nodes) → AreStorableWithin kind n ts
        → AreStorableWithin kind n (invalidated_below path slash ts)
    all_within_stay n path slash none h = tt
    all_within_stay n path None (more t ts) h = elim (is_node_named path t) as (λ b. AreStorableWithin kind n
        (cond b ts (more t (invalidated_below path None ts)))) [
          | true ↦ h.2
          | false ↦ (h.0, h.1, all_within_stay n path None ts h.2)
        ]
    all_within_stay n path (Some k) (more t ts) h = elim (is_node_named (take k path) t) as (λ b. AreStorableWithin
        kind n
        (cond b (more (invalidated (drop (k + 1) path) t) ts)
        (more t (invalidated_below path (Some k) ts)))) [
          | true ↦ (h.0, within_stays (n - 1) (drop (k + 1) path) t h.1, h.2)
          | false ↦ (h.0, h.1, all_within_stay n path (Some k) ts h.2)
        ]

  pub storable_stays : (path : List ℕ) (t : Node) → IsStorableTree kind t → IsStorableTree kind (invalidated path t)
  storable_stays path t h = storable_of kind (invalidated path t) (within_stays 2048 path t (of_storable kind t h))
