use Rattle.ext_encode.proofs.WrittenPaths.{stages_len}
use Rattle.ext_encode.proofs.resolve_undo.stages_len.Goals as goal

pub returns-clause-len : goal.returns-clause-len
returns-clause-len c = stages_len c.args.stages.now _ _ _ c.stage_len.result c.stage_len-2.result c.stage_len-3.result
    c.told-stages c.stage_len.ensures.len c.stage_len-2.ensures.len c.stage_len-3.ensures.len
