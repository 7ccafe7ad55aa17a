use Rattle.std.proofs.lemmas.Result.{err_from_is_err_and}
use Rattle.tool_inspect.proofs.salvage.saved_at.Goals as goal

pub returns-in_err-bytes : goal.returns-in_err-bytes
returns-in_err-bytes g c =
    let p = err_from_is_err_and c.from_residual.result c.from_residual.ensures.1 in
    rw (p.1, p.2) (record {
      saved = tt;
      since = tt;
      fault = c.in_err-bytes.ensures.fault;
    })

pub returns-in_err-saved : goal.returns-in_err-saved
returns-in_err-saved g c =
    let p = err_from_is_err_and c.from_residual-in_err-saved.result c.from_residual-in_err-saved.ensures.1 in
    rw (p.1, p.2) (record {
      saved = tt;
      since = tt;
      fault = rw c.deref.ensures.value at (c.in_err-saved.ensures.fault (g.D.Folder.works c.args.folder.now)
          (g.D.Folder.known c.args.folder.now)) c.in_ok-bytes.ensures.held;
    })
