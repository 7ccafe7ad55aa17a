use Rattle.std.proofs.Common.{arith}
use Rattle.std.proofs.lemmas.Result.{err_from_is_err_and}
use Rattle.ext_tree.proofs.Excesses.{below_said, none_in}
use Rattle.ext_tree.proofs.verify.+check_counts.Goals as goal

pub returns-in_err-check_counts-clause-err : goal.returns-in_err-check_counts-clause-err
returns-in_err-check_counts-clause-err t c =
    let p =
    err_from_is_err_and c.from_residual-in_err-check_counts.result c.from_residual-in_err-check_counts.ensures.1 in
    rw (p.1, p.2) (below_said c.args.entries c.args.tree.now c.as_slice.result.now c.deref-child-items.result.now
    c.as_slice.ensures c.deref-child-items.ensures.value c.in_ok-check_excess.ensures.ok c.loop-child.child-index
    c.loop-child.invariant _ c.child-item.result c.loop-child-test.true c.child-item.is
    c.in_err-check_counts.ensures.err)

pub returns-clause-ok : goal.returns-clause-ok
returns-clause-ok t c = none_in c.args.entries c.args.tree.now c.as_slice.result.now c.deref-child-items.result.now
    c.as_slice.ensures c.deref-child-items.ensures.value c.in_ok-check_excess.ensures.ok c.loop-child.child-index
    c.loop-child.invariant (λ lt. omega (arith, lt))
