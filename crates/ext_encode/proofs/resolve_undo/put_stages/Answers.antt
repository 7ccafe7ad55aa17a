use Rattle.std.proofs.Common.{refl}
use Rattle.index_parts.proofs.Puts.{puts_after, puts_stopped}
use Rattle.std.specs.List.{flat_map}
use Rattle.ext_encode.specs.ResolveUndoImage.{stage_id}
use Rattle.ext_encode.proofs.resolve_undo.put_stages.Goals as goal

pub returns-in_err-put_modes : goal.returns-in_err-put_modes
returns-in_err-put_modes g c =
    puts_stopped c.from_residual.result (flat_map stage_id c.args.stages.now) c.from_residual.ensures.0 refl c.in_err-put_modes.ensures

pub returns : goal.returns
returns g c = puts_after c.put_ids.result c.in_ok-put_modes.ensures c.put_ids.ensures
