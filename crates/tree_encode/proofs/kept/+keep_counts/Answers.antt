use Rattle.std.proofs.Common.{◌≤◌, List, [], ◌∷◌, ◌++◌, length, length-set, get_or-set_other, ap, sym, subst, ◌∙◌}
use Rattle.std.proofs.Common.{arith, take}
use Rattle.std.specs.List.{AllZip}
use Rattle.std.specs.Option.{option_map}
use Rattle.std.proofs.lemmas.List.{take_all, with_items_is}
use Rattle.ext_tree.specs.Tree.{node_of}
use Rattle.std.specs.Vec.{with_items}
use Rattle.ext_tree.specs.declared.Tree.{Tree}
use Rattle.ext_tree.specs.declared.Tree.TheOpen.{Tree-F}
use Rattle.ext_tree.specs.declared.Tree.TheViews.{out-Tree, out-roll-Tree, roll-Tree}
use Rattle.tree_encode.specs.Kept.{Becomes}
use Rattle.tree_encode.specs.TreeIds.{spots_below}
use Rattle.tree_encode.proofs.Keeps.{step, whole}
use Rattle.tree_encode.proofs.Spots.{row}
use Rattle.tree_encode.proofs.kept.+keep_counts.Goals as goal

pub loop-child-preserved : goal.loop-child-preserved
loop-child-preserved t c =
    let xs = c.loop-child.child-items in
    let i = c.loop-child.child-index in
    let u = c.keep_counts.new.made in
    let ys = c.deref_mut-child-items.result.now in
    let old = c.loop-child.invariant.unvisited in
    record {
      unvisited = (
        length-set xs i u ∙ old.0,
        λ k d low. get_or-set_other xs i k u d (omega (arith, low)) ∙ old.1 k d (omega (arith, low)),
      );
      kept = λ names.
          let name = c.as_slice.result.now in
          step c.args.kind names (option_map (λ t. node_of t.now) c.args.old) xs ys
          (out-Tree c.args.made.now).children.items i c.child-item.result u name
          (option_map (λ t. node_of t.now) c.child_of-old.result) c.loop-child-test.true old.0 old.1
          c.deref_mut-child-items.ensures.value c.as_slice.ensures c.child_of-old.ensures.found
          c.child_of-old.ensures.exactly (c.keep_counts.ensures (names ++ name ∷ []))
          (c.loop-child.invariant.kept names);
    }

pub returns : goal.returns
returns t c = λ names.
    let zs = (out-Tree c.args.made.now).children.items in
    let us = c.loop-child.child-items in
    let i = c.loop-child.child-index in
    let old = option_map (λ t. node_of t.now) c.args.old in
    let long : length zs ≤ i = subst (λ (l : List Tree). length l ≤ i) c.deref_mut-child-items.ensures.value
    c.loop-child-test.false in
    let len = c.loop-child.invariant.unvisited.0 in
    let fields : Tree-F Tree = record {
      name = (out-Tree c.args.made.now).name;
      id = (out-Tree c.args.made.now).id;
      num_entries = (out-Tree c.args.made.now).num_entries;
      children = with_items (out-Tree c.args.made.now).children us;
    } in
    let shown = out-roll-Tree fields in
    whole c.args.kind names old c.args.made.now (roll-Tree fields) c.keep_count.new.made us
    (subst (λ (l : List Tree). AllZip (Becomes c.args.kind names old) (spots_below names (row l))
    (spots_below names (row us))) (take_all i zs long)
    (subst (λ (l : List Tree). AllZip (Becomes c.args.kind names old) (spots_below names (row (take i zs)))
    (spots_below names (row l))) (take_all i us (omega (arith, len, c.loop-child-test.false)))
    (c.loop-child.invariant.kept names))) (ap (λ (x : Tree-F Tree). x.name.items) shown)
    (ap (λ (x : Tree-F Tree). record { names = names; id = x.id; count = x.num_entries }) shown)
    (ap (λ (x : Tree-F Tree). x.children.items) shown ∙ with_items_is (out-Tree c.args.made.now).children us
    (len ∙ ap length c.deref_mut-child-items.ensures.value ∙ sym (out-Tree c.args.made.now).children.ok.0))
    c.keep_count.ensures.name c.keep_count.ensures.children
    (c.keep_count.ensures.spot names)
