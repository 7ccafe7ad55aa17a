use Rattle.std.proofs.Common.{◌≡◌, ◌+◌, false, take, drop, map, None, All, sym, ap, subst, ◌∙◌, List, refl}
use Rattle.std.specs.Prelude.{position}
use Rattle.std.proofs.lemmas.List.Quantifiers.{position-Some}
use Rattle.ext_tree.specs.Sound.{CountsAtMost}
use Rattle.ext_tree.specs.StoredTree.{IsStorableTree}
use Rattle.ext_tree.specs.Tree.{node_of, nodes_from}
use Rattle.ext_tree.specs.declared.Tree.{Tree}
use Rattle.ext_tree.specs.declared.Tree.TheOpen.{Tree-F}
use Rattle.ext_tree.specs.declared.Tree.TheViews.{out-Tree}
use Rattle.ext_tree.proofs.Spelled.{node_of-out, node_of-roll}
use Rattle.index_parts.specs.Id.{id_kind, null_id}
use Rattle.ext_tree.specs.Invalidation.{invalidated, invalidated_below, is_node_named}
use Rattle.index_parts.specs.Path.{slash_of}
use Rattle.ext_tree.proofs.Below.{counts_stay}
use Rattle.ext_tree.proofs.Places.{changed, gone, none_changed, none_gone, same_node}
use Rattle.ext_tree.proofs.StorableTrees.{storable_stays}
use Rattle.ext_tree.proofs.invalidate.+nodes.Goals as goal

pub invalidate_below-returns-in-Some-place_of : goal.invalidate_below-returns-in-Some-place_of
invalidate_below-returns-in-Some-place_of t c =
    let xs = c.args.children.now.items in
    let path = c.args.path.now in
    let i = c.in-Some-place_of.place in
    let found = position-Some (λ x. is_node_named path (node_of x)) xs i c.remove.result
    (sym (c.in-Some-place_of.ensures.value
    ∙ ap (λ (l : List Tree). position (λ x. is_node_named path (node_of x)) l) c.deref.ensures.value)) in
    ap (λ (l : List Tree). nodes_from (map node_of l)) c.remove.ensures.items
    ∙ gone node_of path c.remove.result xs i found.0 found.1 found.2
    ∙ ap (λ s. invalidated_below path s (nodes_from (map node_of xs))) c.in_default.ensures.value

pub invalidate_below-returns-in_default-place_of : goal.invalidate_below-returns-in_default-place_of
invalidate_below-returns-in_default-place_of t c =
    let xs = c.args.children.now.items in
    let path = c.args.path.now in
    none_gone node_of path xs (subst (λ (l : List Tree). All (λ x. is_node_named path (node_of x) ≡ false) l)
    c.deref.ensures.value (c.in_default-place_of.ensures.none refl))
    ∙ ap (λ s. invalidated_below path s (nodes_from (map node_of xs))) c.in_default.ensures.value

pub invalidate_below-returns-in-Some-place_of-2 : goal.invalidate_below-returns-in-Some-place_of-2
invalidate_below-returns-in-Some-place_of-2 t c =
    let xs = c.args.children.now.items in
    let path = c.args.path.now in
    let k = c.in-Some.slash in
    let i = c.in-Some-place_of-2.place in
    let d = c.index_mut.result.now in
    let found = position-Some (λ x. is_node_named (take k path) (node_of x)) xs i d
    (sym (c.in-Some-place_of-2.ensures.value
    ∙ ap (λ (l : List Tree). position (λ x. is_node_named c.split_at.result.0.now (node_of x)) l)
    c.deref-2.ensures.value
    ∙ ap (λ n. position (λ x. is_node_named n (node_of x)) xs) c.split_at.ensures.front)) in
    changed node_of path k d c.invalidate.new.tree xs i found.0 found.1 found.2 (c.invalidate.ensures.is
    ∙ ap (λ r. invalidated r (node_of d)) c.split_at-2.ensures.back
    ∙ ap (λ (x : Tree). invalidated (drop (k + 1) path) (node_of x)) c.index_mut.ensures.value)
    ∙ ap (λ s. invalidated_below path s (nodes_from (map node_of xs))) c.in-Some.ensures.value

pub invalidate_below-returns-in_default-place_of-2 : goal.invalidate_below-returns-in_default-place_of-2
invalidate_below-returns-in_default-place_of-2 t c =
    let xs = c.args.children.now.items in
    let path = c.args.path.now in
    let k = c.in-Some.slash in
    none_changed node_of path k xs (subst (λ n. All (λ x. is_node_named n (node_of x) ≡ false) xs)
    c.split_at.ensures.front
    (subst (λ (l : List Tree). All (λ x. is_node_named c.split_at.result.0.now (node_of x) ≡ false) l)
    c.deref-2.ensures.value (c.in_default-place_of-2.ensures.none refl)))
    ∙ ap (λ s. invalidated_below path s (nodes_from (map node_of xs))) c.in-Some.ensures.value

pub invalidate-returns-clause-is : goal.invalidate-returns-clause-is
invalidate-returns-clause-is t c =
    let path = c.args.path.now in
    let x = out-Tree c.clear.new.tree in
    let fields : Tree-F Tree = record {
      name = x.name;
      id = x.id;
      num_entries = x.num_entries;
      children = c.invalidate_below.new.children;
    } in
    node_of-roll fields
    ∙ same_node x.name.items (out-Tree c.args.tree.now).name.items x.id (null_id (id_kind (out-Tree c.args.tree.now).id))
    x.num_entries None (nodes_from (map node_of c.invalidate_below.new.children.items))
    (invalidated_below path (slash_of path) (nodes_from (map node_of (out-Tree c.args.tree.now).children.items)))
    (ap (λ v. v.items) c.clear.ensures.name) c.clear.ensures.id c.clear.ensures.count
    (c.invalidate_below.ensures ∙ ap (λ v. invalidated_below path (slash_of path) (nodes_from (map node_of v.items)))
    c.clear.ensures.children)
    ∙ sym (ap (λ n. invalidated path n) (node_of-out c.args.tree.now))

pub invalidate-returns-clause-counts : goal.invalidate-returns-clause-counts
invalidate-returns-clause-counts t c = λ most h.
    subst (CountsAtMost most) (sym (invalidate-returns-clause-is t c))
    (counts_stay most c.args.path.now (node_of c.args.tree.now) h)

pub invalidate-returns-clause-storable : goal.invalidate-returns-clause-storable
invalidate-returns-clause-storable t c = λ kind h. subst (IsStorableTree kind) (sym (invalidate-returns-clause-is t c))
    (storable_stays kind c.args.path.now (node_of c.args.tree.now) h)
