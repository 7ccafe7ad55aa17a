use Rattle.std.proofs.Common.{sym}
use Rattle.std.proofs.lemmas.Bool.{eqb-false}
use Rattle.std.proofs.lemmas.Result.{err_from_is_err_and}
use Rattle.ext_tree.proofs.Sounds.{no_memory_for_name}
use Rattle.ext_tree.proofs.verify.check_root.Goals as goal

pub returns-in_err-name-clause-err : goal.returns-in_err-name-clause-err
returns-in_err-name-clause-err c =
    let p = err_from_is_err_and c.from_residual.result c.from_residual.ensures.1 in
    rw (p.1, p.2) (no_memory_for_name c.args.name.now (eqb-false _ _ (sym c.if-is_empty.ensures)))
