use Rattle.std.proofs.Common.{◌∙◌, ℕ, List, refl, subst}
use Rattle.gix_index.specs.FileFaults.ReadError.TheVariants.{Decode}
use Rattle.tool_errors.specs.Calls.{IsHeadless}
use Rattle.std.specs.Path.{path_buf_bytes}
use Rattle.tool_errors.proofs.Readings.{call_says}
use Rattle.tool_errors.proofs.Headed.{refused_says, says_of_headed}
use Rattle.tool_errors.proofs.index.headed_bytes_at.Goals as goal

pub returns-in-Ok : goal.returns-in-Ok
returns-in-Ok g c =
    let world = g.D.Folder.known c.args.folder.now in
    record {
      held = tt;
      since = tt;
      fault = record {
        file = c.args.path;
        names = refl;
        fault = Decode c.in-Refused.e;
        is = c.failure_of.ensures;
        says = refused_says (g.D.Folder.works c.args.folder.now) world c.args.kind c.args.path.now c.in-Refused.e
            (subst (λ (p : List ℕ). IsHeadless (world p) c.args.kind c.in-Refused.e)
            (c.as_path.ensures ∙ c.in_ok-file.ensures.path)
            (rw c.in-Refused.is at c.in-Ok.ensures.read));
      };
    }

pub returns : goal.returns
returns g c =
    let works = g.D.Folder.works c.args.folder.now in
    let world = g.D.Folder.known c.args.folder.now in
    record {
      held = tt;
      since = tt;
      fault = record {
        file = c.args.path;
        names = refl;
        fault = c.of.result;
        is = c.failure_of-in-Err.ensures;
        says = says_of_headed works world c.args.kind c.args.path.now c.of.result
            (call_says works world (path_buf_bytes c.in_ok-file.file) c.args.path.now c.in-Err.fault c.of.result
            c.of.ensures c.in_ok-file.ensures.path (λ e. rw c.as_path.ensures at (c.in-Err.ensures.fault e)));
      };
    }
