use Rattle.std.proofs.Common.{arith}
use Rattle.std.proofs.lemmas.Result.{err_from_is_err_and, IfOk-weaker, IfErr-weaker}
use Rattle.ext_tree.proofs.Sounds.{risen, row_said, object_said, child_said, count_said, none_there}
use Rattle.ext_tree.proofs.verify.+verify_node.Goals as goal

pub check_object-requires : goal.check_object-requires
check_object-requires g t c = record { rise = risen c.as_slice-children.result.now _ c.in_ok-sum.ensures.ok }

pub returns-in_err-sum-clause-err : goal.returns-in_err-sum-clause-err
returns-in_err-sum-clause-err g t c =
    let p = err_from_is_err_and c.from_residual.result c.from_residual.ensures.1 in
    rw (p.1, p.2) (λ trees looked. row_said c.args.tree.now c.as_slice-children.result.now
    c.as_slice-children.ensures.value trees _ c.in_err-sum.ensures.err)

pub returns-in_err-check_object-clause-err : goal.returns-in_err-check_object-clause-err
returns-in_err-check_object-clause-err g t c =
    let p =
    err_from_is_err_and c.from_residual-in_err-check_object.result c.from_residual-in_err-check_object.ensures.1 in
    rw (p.1, p.2)
    (λ trees looked. object_said c.args.tree.now c.as_slice-children.result.now c.as_slice-children.ensures.value
    trees c.in_ok-sum.ensures.ok _ (c.in_err-check_object.ensures.err trees looked))

pub returns-in_err-verify_node-clause-err : goal.returns-in_err-verify_node-clause-err
returns-in_err-verify_node-clause-err g t c =
    let p =
    err_from_is_err_and c.from_residual-in_err-verify_node.result c.from_residual-in_err-verify_node.ensures.1 in
    rw (p.1, p.2) (λ trees looked. child_said c.args.tree.now c.as_slice-children.result.now
    c.as_slice-children.ensures.value trees c.in_ok-sum.ensures.ok
    (c.in_ok-check_object.ensures.ok trees looked) c.loop-child.child-index (c.loop-child.invariant trees looked) _
    c.child-item.result c.loop-child-test.true c.child-item.is (c.in_err-verify_node.ensures.err trees looked))

pub returns-clause-ok : goal.returns-clause-ok
returns-clause-ok g t c =
    IfOk-weaker c.check_count.result _ _ (λ x e trees looked. none_there c.args.tree.now c.as_slice-children.result.now
    c.as_slice-children.ensures.value trees c.in_ok-sum.ensures.ok (c.in_ok-check_object.ensures.ok trees looked)
    c.loop-child.child-index (c.loop-child.invariant trees looked) c.in_ok-sum.sum
    (λ lt. omega (arith, lt)) c.in_ok-sum.ensures.sum e) c.check_count.ensures.ok

pub returns-clause-err : goal.returns-clause-err
returns-clause-err g t c =
    IfErr-weaker c.check_count.result _ _ (λ e s trees looked. count_said c.args.tree.now c.as_slice-children.result.now
    c.as_slice-children.ensures.value trees c.in_ok-sum.ensures.ok (c.in_ok-check_object.ensures.ok trees looked)
    c.loop-child.child-index (c.loop-child.invariant trees looked) c.in_ok-sum.sum e
    (λ lt. omega (arith, lt)) c.in_ok-sum.ensures.sum s) c.check_count.ensures.err
