use Rattle.std.specs.Path.{path_buf_bytes}
use Rattle.tool_defaults.proofs.Faults.{repository_fault}
use Rattle.tool_defaults.proofs.repository.kind_in_repository.Goals as goal

pub returns-in-Err-clause-fault : goal.returns-in-Err-clause-fault
returns-in-Err-clause-fault g c =
    repository_fault (g.D.Folder.works c.args.folder.now) (g.D.Folder.known c.args.folder.now)
    (path_buf_bytes c.args.file.now) (path_buf_bytes c.in_ok-config.config) _ c.in-Err.e _ c.in_ok-config.ensures.counts
    c.as_path.ensures c.requires.inside c.in-Err.ensures.fault c.of.ensures
