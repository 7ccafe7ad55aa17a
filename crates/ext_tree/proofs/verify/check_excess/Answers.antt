use Rattle.std.proofs.lemmas.Result.{err_from_is_err_and}
use Rattle.ext_tree.proofs.Excesses.{no_memory_for_excess}
use Rattle.ext_tree.proofs.verify.check_excess.Goals as goal

pub returns-in_err-name-clause-err : goal.returns-in_err-name-clause-err
returns-in_err-name-clause-err c =
    let p = err_from_is_err_and c.from_residual.result c.from_residual.ensures.1 in
    rw (p.1, p.2, c.in-Some.is)
    (no_memory_for_excess c.args.entries c.args.name.now c.in-Some.actual c.if-actual-entries.false)
