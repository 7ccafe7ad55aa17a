use Rattle.std.proofs.Common.{Some, ap, sym, ◌∙◌}
use Rattle.std.proofs.lemmas.Result.{err_from_is_err_and}
use Rattle.ext_tree.proofs.TreeChecks.{missing_said, same_number, other_said}
use Rattle.ext_tree.proofs.verify.objects.check_tree.Goals as goal

pub returns-in_err-expected_childcount-clause-err : goal.returns-in_err-expected_childcount-clause-err
returns-in_err-expected_childcount-clause-err g c =
    let p = err_from_is_err_and c.from_residual-in_err-expected_childcount.result
    c.from_residual-in_err-expected_childcount.ensures.1 in
    rw (p.1, p.2) (λ trees are. missing_said (g.F.Find.found c.args.objects.now) c.args.id c.args.children.now trees are
    c.as_slice.result.now (c.in_ok-find_tree.ensures.ok ∙ ap Some (sym c.as_slice.ensures.value)) _
    c.in_err-expected_childcount.ensures.err)

pub returns-then-expected_childcount-actual_childcount-clause-ok : goal.returns-then-expected_childcount-actual_childcount-clause-ok
returns-then-expected_childcount-actual_childcount-clause-ok g c = λ trees are.
    same_number (g.F.Find.found c.args.objects.now) c.args.id c.args.children.now trees are c.as_slice.result.now
    (c.in_ok-find_tree.ensures.ok ∙ ap Some (sym c.as_slice.ensures.value))
    c.in_ok-expected_childcount.expected_childcount c.in_ok-expected_childcount.ensures.number
    c.in_ok-expected_childcount.ensures.ok c.if-expected_childcount-actual_childcount.true

pub returns-clause-err : goal.returns-clause-err
returns-clause-err g c = λ trees are.
    other_said (g.F.Find.found c.args.objects.now) c.args.id c.args.children.now trees are c.as_slice.result.now
    (c.in_ok-find_tree.ensures.ok ∙ ap Some (sym c.as_slice.ensures.value))
    c.in_ok-expected_childcount.expected_childcount c.in_ok-expected_childcount.ensures.number
    c.in_ok-expected_childcount.ensures.ok c.if-expected_childcount-actual_childcount.false
