use Rattle.std.proofs.Common.{◌++◌, ◌∷◌, [], refl, ◌∙◌, arith}
use Rattle.std.specs.Option.{option_map}
use Rattle.std.proofs.lemmas.Result.{err_from_is_err_and}
use Rattle.ext_tree.specs.Tree.{node_of}
use Rattle.tree_encode.specs.Staged.{merged_in, staged_in}
use Rattle.tree_encode.proofs.Searches.{sorted_children}
use Rattle.tree_encode.proofs.Spots.{all_right, child_fault, child_given, front_back, front_more, more_right}
use Rattle.tree_encode.proofs.Spots.{own_fault}
use Rattle.tree_encode.proofs.tree_ids.+check_nodes.Goals as goal

pub returns-in_err-check_node-clause-fault : goal.returns-in_err-check_node-clause-fault
returns-in_err-check_node-clause-fault t c =
    let p = err_from_is_err_and c.from_residual.result c.from_residual.ensures.1 in
    rw (p.1, p.2)
    (λ kind rs names is f g. own_fault kind rs names c.args.tree.now _ refl c.in_err-check_node.field-0.0
    (c.in_err-check_node.ensures.fault kind rs names is (c.deref.ensures.value ∙ f) g))

pub returns-in_err-check_nodes-clause-fault : goal.returns-in_err-check_nodes-clause-fault
returns-in_err-check_nodes-clause-fault t c =
    let p =
    err_from_is_err_and c.from_residual-in_err-check_nodes.result c.from_residual-in_err-check_nodes.ensures.1 in
    rw (p.1, p.2) (λ kind rs names is f g.
    let staged = staged_in (merged_in rs) in
    let given = option_map (λ t. node_of t.now) c.args.given in
    let found = option_map (λ t. node_of t.now) c.child_of.result in
    let name = c.as_slice-name.result.now in
    let child = child_given kind staged names name given found g
    (c.child_of.ensures.exactly (sorted_children kind staged names given g)) in
    let parent = c.in_ok-extend_from_slice-2.ensures.items
    ∙ front_more names name c.loop-child.parent.items c.extend_from_slice.new.self.items
    (c.loop-child.invariant.parent ∙ f) c.in_ok-extend_from_slice.ensures.items in
    child_fault kind rs names c.args.tree.now c.deref-child-items.result.now c.deref-child-items.ensures.value
    c.loop-child.child-index (c.loop-child.invariant.right kind rs names is f g) c.child-item.result
    c.loop-child-test.true c.child-item.is name c.as_slice-name.ensures
    c.in_err-check_nodes.field-0.0 (c.in_ok-check_node.ensures.ok kind rs names is (c.deref.ensures.value ∙ f) g)
    (c.in_err-check_nodes.ensures.fault kind rs (names ++ name ∷ []) is parent child))

pub loop-child-preserved : goal.loop-child-preserved
loop-child-preserved t c =
    let given = option_map (λ t. node_of t.now) c.args.given in
    let found = option_map (λ t. node_of t.now) c.child_of.result in
    let name = c.as_slice-name.result.now in
    record {
      parent = front_back c.loop-child.parent.items c.extend_from_slice.new.self.items
          c.extend_from_slice-in-loop-child.new.self.items c.check_nodes.new.parent.items c.truncate.new.self.items
          c.args.parent.now.items name c.len-len.result
          c.truncate.ensures.items c.in_ok-check_nodes.ensures.parent c.in_ok-extend_from_slice-2.ensures.items
          c.in_ok-extend_from_slice.ensures.items c.loop-child.invariant.parent
          (c.len-len.ensures ∙ c.args.parent.now.ok.0);
      right = λ kind rs names is f g.
          let staged = staged_in (merged_in rs) in
          let child = child_given kind staged names name given found g
          (c.child_of.ensures.exactly (sorted_children kind staged names given g)) in
          let parent = c.in_ok-extend_from_slice-2.ensures.items
          ∙ front_more names name c.loop-child.parent.items c.extend_from_slice.new.self.items
          (c.loop-child.invariant.parent ∙ f) c.in_ok-extend_from_slice.ensures.items in
          more_right kind rs names c.args.tree.now c.deref-child-items.result.now c.deref-child-items.ensures.value
          c.loop-child.child-index (c.loop-child.invariant.right kind rs names is f g) c.child-item.result
          c.loop-child-test.true c.child-item.is name c.as_slice-name.ensures
          (c.in_ok-check_nodes.ensures.ok kind rs (names ++ name ∷ []) is parent child);
    }

pub returns-clause-ok : goal.returns-clause-ok
returns-clause-ok t c = λ kind rs names is f g.
    all_right kind rs names c.args.tree.now c.deref-child-items.result.now c.deref-child-items.ensures.value
    c.loop-child.child-index (c.loop-child.invariant.right kind rs names is f g) (λ lt. omega (arith, lt))
    (c.in_ok-check_node.ensures.ok kind rs names is (c.deref.ensures.value ∙ f) g)
