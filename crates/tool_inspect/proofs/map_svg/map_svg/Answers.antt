use Rattle.std.proofs.Common.{refl}
use Rattle.std.proofs.KnownBytes.{Keeps-refl}
use Rattle.std.proofs.lemmas.Result.{err_from_is_err_and}
use Rattle.tool_errors.specs.Outputs.{part, untold}
use Rattle.view_layout.specs.Picture.{picture_text}
use Rattle.tool_inspect.proofs.Mappings.{any_parts, parts_of, parts_told}
use Rattle.tool_inspect.proofs.map_svg.map_svg.Goals as goal

pub returns-in_err-division : goal.returns-in_err-division
returns-in_err-division g c =
    let p = err_from_is_err_and c.from_residual.result c.from_residual.ensures.1 in
    rw (p.1, p.2) (record {
      told = tt;
      refused = untold c.in_err-division.ensures.fault (Keeps-refl (g.W.Out.taken c.args.out.now));
    })

pub returns-in-Err : goal.returns-in-Err
returns-in-Err g c =
    let known = g.D.Folder.known c.args.folder.now c.args.path.now in
    let division = c.in_ok-division.division in
    record {
      told = tt;
      refused = part c.in-Err.e refl c.in-Err.ensures.cause (record {
        text = picture_text division.entries.records division.parts.items;
        is = any_parts picture_text division.fault known c.args.kind _
            (parts_of picture_text known c.args.kind division c.in_ok-division.ensures.divided);
        grew = rw c.deref.ensures.value at c.in-Err.ensures.err;
      });
    }

pub returns : goal.returns
returns g c = parts_told g.W.Out c.args.out.now _ _ c.args.path.now (g.D.Folder.known c.args.folder.now c.args.path.now)
    c.args.kind c.in_ok-division.division c.in_ok-division.ensures.divided c.finish.result c.finish.ensures picture_text
    (rw c.deref.ensures.value at c.in_default.ensures.ok)
