use Rattle.std.proofs.Common.{refl, rules}
use Rattle.std.proofs.lemmas.Result.{err_from_is_err_and}
use Rattle.tool_errors.proofs.Readings.{in_file_since, lacks_memory, options_are, says_so}
use Rattle.tool_errors.proofs.index.opened_at.Goals as goal

pub returns-in-Ok : goal.returns-in-Ok
returns-in-Ok g c =
    let default = c.default.ensures in
    record {
      read = in_file_since (g.D.Folder.known c.args.folder.now) _ c.args.path.now c.args.kind _ _ _
          c.in_ok-file.ensures.path
          (options_are _ default.0 default.1.0 default.1.1.0 default.1.1.1) c.in-Ok.ensures.read;
      placed = search rules;
      fault = tt;
    }

pub returns-in_err-file : goal.returns-in_err-file
returns-in_err-file g c =
    let p = err_from_is_err_and c.from_residual.result c.from_residual.ensures.1 in
    rw (p.1, p.2) (record {
      read = tt;
      placed = tt;
      fault = lacks_memory _ c.args.path c.in_err-file.field-0.0 c.in_err-file.ensures.memory tt;
    })

pub returns-in-Err : goal.returns-in-Err
returns-in-Err g c =
    let default = c.default.ensures in
    record {
      read = tt;
      placed = tt;
      fault = record {
        file = c.args.path;
        names = refl;
        fault = c.in-Err.fault;
        is = c.failure_of.ensures;
        says = says_so (g.D.Folder.works c.args.folder.now) (g.D.Folder.known c.args.folder.now) _ c.args.path.now
            c.args.kind c.in-Err.ensures.fault.0 _ _ c.in_ok-file.ensures.path
            (options_are _ default.0 default.1.0 default.1.1.0 default.1.1.1) c.in-Err.ensures.fault.1;
      };
    }
