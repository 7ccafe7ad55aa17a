use Rattle.std.proofs.Common.{sym}
use Rattle.index_parts.proofs.Taking.{flat_map_at}
use Rattle.index_parts.proofs.Puts.{puts_stopped_after}
use Rattle.ext_encode.specs.ResolveUndoImage.{mode_bytes}
use Rattle.ext_encode.proofs.resolve_undo.put_modes.Goals as goal

pub returns-in_err-put_mode : goal.returns-in_err-put_mode
returns-in_err-put_mode g c = puts_stopped_after c.from_residual.result _ c.from_residual.ensures.0
    (sym (flat_map_at mode_bytes c.args.stages.now c.loop-stage.stage-index _ c.loop-stage-test.true)) c.loop-stage.invariant.so_far
    c.loop-stage.invariant.loan c.in_err-put_mode.ensures
