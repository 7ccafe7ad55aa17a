use Rattle.std.proofs.Common.{◌++◌, refl}
use Rattle.std.specs.List.{flat_map}
use Rattle.index_parts.proofs.Puts.{puts_after, puts_is, puts_stopped}
use Rattle.ext_small.specs.ResolveUndo.{path_stages}
use Rattle.ext_encode.specs.ResolveUndoImage.{mode_bytes, stage_id}
use Rattle.ext_encode.proofs.WrittenPaths.{path_parts}
use Rattle.ext_encode.proofs.resolve_undo.put_path.Goals as goal

pub returns-in_err-put_text : goal.returns-in_err-put_text
returns-in_err-put_text g c =
    let p = path_stages c.args.path.now in
    puts_stopped c.from_residual.result (flat_map mode_bytes p.stages ++ flat_map stage_id p.stages)
    c.from_residual.ensures.0 (path_parts p c.name.result.now p.stages c.name.ensures refl) c.in_err-put_text.ensures

pub returns : goal.returns
returns g c =
    let p = path_stages c.args.path.now in
    puts_is c.put_stages.result
    (path_parts p c.name.result.now c.stages.result.now c.name.ensures c.stages.ensures)
    (puts_after c.put_stages.result c.in_ok-put_text.ensures c.put_stages.ensures)
