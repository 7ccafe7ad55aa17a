use Rattle.std.proofs.Common.{refl}
use Rattle.std.proofs.lemmas.Result.{err_from_is_err_and}
use Rattle.entry_edit.specs.Wholes.{lies_in_whole}
use Rattle.entry_edit.proofs.stage.check_stage.Goals as goal

pub returns-in_err-check_entry : goal.returns-in_err-check_entry
returns-in_err-check_entry g c =
    let p = err_from_is_err_and c.from_residual.result c.from_residual.ensures.1 in
    rw (p.1, p.2) (record {
      inside = lies_in_whole c.args.path.now c.args.entries.now;
      exactly = λ o. refl;
      reason = rw c.in_err-check_entry.ensures refl;
    })
