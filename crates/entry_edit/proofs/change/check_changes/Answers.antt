use Rattle.std.proofs.Common.{refl}
use Rattle.std.proofs.lemmas.Result.{err_from_is_err_and}
use Rattle.entry_edit.specs.Wholes.{first_in_whole}
use Rattle.entry_edit.proofs.change.check_changes.Goals as goal

pub returns-in_err-check_each : goal.returns-in_err-check_each
returns-in_err-check_each g c =
    let p = err_from_is_err_and c.from_residual.result c.from_residual.ensures.1 in
    rw (p.1, p.2) (record {
      place = first_in_whole c.args.changes.now c.args.entries.now;
      exactly = λ o. refl;
      answer = rw c.in_err-check_each.ensures refl;
    })
