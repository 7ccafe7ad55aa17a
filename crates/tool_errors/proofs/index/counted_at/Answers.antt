use Rattle.std.proofs.Common.{refl}
use Rattle.std.proofs.lemmas.Result.{err_from_is_err_and}
use Rattle.std.specs.Path.{path_buf_bytes}
use Rattle.tool_errors.proofs.Readings.{call_says, lacks_memory}
use Rattle.tool_errors.proofs.index.counted_at.Goals as goal

pub returns-in_err-file : goal.returns-in_err-file
returns-in_err-file g c =
    let p = err_from_is_err_and c.from_residual.result c.from_residual.ensures.1 in
    rw (p.1, p.2) (record {
      counted = tt;
      fault = lacks_memory _ c.args.path c.in_err-file.field-0.0 c.in_err-file.ensures.memory tt;
    })

pub returns : goal.returns
returns g c =
    let works = g.D.Folder.works c.args.folder.now in
    let known = g.D.Folder.known c.args.folder.now in
    record {
      counted = tt;
      fault = record {
        file = c.args.path;
        names = refl;
        fault = c.of.result;
        is = c.failure_of.ensures;
        says = call_says works known (path_buf_bytes c.in_ok-file.file) c.args.path.now c.in-Err.why c.of.result
            c.of.ensures c.in_ok-file.ensures.path (λ e. rw c.as_path.ensures at (c.in-Err.ensures.fault e));
      };
    }
