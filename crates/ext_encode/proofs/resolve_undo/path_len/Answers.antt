use Rattle.ext_small.specs.ResolveUndo.{path_stages}
use Rattle.ext_encode.proofs.WrittenPaths.{path_len}
use Rattle.ext_encode.proofs.resolve_undo.path_len.Goals as goal

pub returns-clause-len : goal.returns-clause-len
returns-clause-len c = path_len (path_stages c.args.path.now) c.name.result.now c.stages.result.now c.stages_len.result
    c.name.ensures c.stages.ensures c.stages_len.ensures.len
