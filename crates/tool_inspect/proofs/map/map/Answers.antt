use Rattle.std.proofs.Common.{inl, inr, refl}
use Rattle.std.proofs.KnownBytes.{Keeps-refl}
use Rattle.std.proofs.lemmas.Result.{err_from_is_err_and}
use Rattle.tool_errors.specs.Outputs.{part, untold}
use Rattle.view_layout.specs.Lines.{map_lines}
use Rattle.tool_inspect.proofs.Mappings.{any_map, map_told, parts_of}
use Rattle.tool_inspect.proofs.map.map.Goals as goal

pub returns-in_err-division : goal.returns-in_err-division
returns-in_err-division g c =
    let p = err_from_is_err_and c.from_residual.result c.from_residual.ensures.1 in
    rw (p.1, p.2) (record {
      told = tt;
      refused = untold (inl c.in_err-division.ensures.fault) (Keeps-refl (g.W.Out.taken c.args.out.now));
    })

pub returns-in_err-check_paths : goal.returns-in_err-check_paths
returns-in_err-check_paths g c =
    let p = err_from_is_err_and c.from_residual-in_err-check_paths.result c.from_residual-in_err-check_paths.ensures.1 in
    let divided = c.in_ok-division.ensures.divided in
    rw (p.1, p.2) (record {
      told = tt;
      refused = untold (inr (record {
        bytes = divided.bytes;
        held = divided.held;
        records = c.in_ok-division.division.entries.records;
        parts = c.in_ok-division.division.parts.items;
        fault = c.in_ok-division.division.fault;
        divided = divided.divides;
        is = rw c.as_slice.ensures at c.in_err-check_paths.ensures.fault;
      })) (Keeps-refl (g.W.Out.taken c.args.out.now));
    })

pub returns-in-Err : goal.returns-in-Err
returns-in-Err g c =
    let known = g.D.Folder.known c.args.folder.now c.args.path.now in
    let division = c.in_ok-division.division in
    record {
      told = tt;
      refused = part c.in-Err.e refl c.in-Err.ensures.cause (record {
        text = map_lines c.args.style division.entries.records division.parts.items;
        is = any_map c.args.style division.fault known c.args.kind _ (
          parts_of (map_lines c.args.style) known c.args.kind division c.in_ok-division.ensures.divided,
          rw c.as_slice.ensures at c.in_ok-check_paths.ensures.shown,
        );
        grew = rw c.deref.ensures.value at c.in-Err.ensures.err;
      });
    }

pub returns : goal.returns
returns g c = map_told g.W.Out c.args.out.now _ _ c.args.path.now (g.D.Folder.known c.args.folder.now c.args.path.now)
    c.args.kind c.in_ok-division.division c.in_ok-division.ensures.divided c.finish.result c.finish.ensures c.args.style
    (rw c.as_slice.ensures at c.in_ok-check_paths.ensures.shown)
    (rw c.deref.ensures.value at c.in_default.ensures.ok)
