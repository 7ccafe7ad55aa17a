use Rattle.std.proofs.Common.{ℕ, List, arith, refl, subst}
use Rattle.std.proofs.lemmas.Grind.{common_steps}
use Rattle.gix_index.specs.Disk.{MayHave}
use Rattle.std.proofs.lemmas.Result.{err_from_is_err_and}
use Rattle.tool_inspect.proofs.Readings.{in_bytes, says_alone}
use Rattle.tool_errors.proofs.Readings.{lacks_memory, options_are}
use Rattle.tool_inspect.proofs.show.inspect_at.Goals as goal

pub returns-in-Ok-marks_of : goal.returns-in-Ok-marks_of
returns-in-Ok-marks_of g c =
    let default = c.default.ensures in
    let is = c.in-Ok.ensures.read in
    record {
      told = in_bytes (g.D.Folder.known c.args.folder.now c.args.path.now) c.args.kind is.0 _ _ _ _ _ _
          (subst (λ (p : List ℕ). MayHave (g.D.Folder.known c.args.folder.now p) is.0) c.in_ok-file.ensures.path is.1)
          (refl, refl)
          (options_are _ default.0 default.1.0 default.1.1.0 default.1.1.1) is.2.read is.2.ending
          (rw c.deref.ensures.value at c.in-Ok-marks_of.ensures);
      placed = grind (arith, common_steps);
      fault = tt;
    }

pub returns-in_err-file : goal.returns-in_err-file
returns-in_err-file g c =
    let p = err_from_is_err_and c.from_residual.result c.from_residual.ensures.1 in
    rw (p.1, p.2) (record {
      told = tt;
      placed = tt;
      fault = lacks_memory _ c.args.path c.in_err-file.field-0.0 c.in_err-file.ensures.memory tt;
    })

pub returns-in-Err : goal.returns-in-Err
returns-in-Err g c =
    let default = c.default.ensures in
    record {
      told = tt;
      placed = tt;
      fault = record {
        file = c.args.path;
        names = refl;
        fault = c.in-Err.fault;
        is = c.failure_of.ensures;
        says = says_alone (g.D.Folder.works c.args.folder.now) (g.D.Folder.known c.args.folder.now) _ c.args.path.now
            c.args.kind _ _ _ c.in_ok-file.ensures.path
            (options_are _ default.0 default.1.0 default.1.1.0 default.1.1.1)
            c.in-Err.ensures.fault;
      };
    }
