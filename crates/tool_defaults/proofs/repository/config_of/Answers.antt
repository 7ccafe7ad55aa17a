use Rattle.std.proofs.Common.{◌∙◌}
use Rattle.std.specs.Path.{path_buf_bytes}
use Rattle.tool_defaults.proofs.Configs.{counts_common, counts_own}
use Rattle.tool_defaults.proofs.Faults.{common_fault}
use Rattle.tool_defaults.proofs.repository.config_of.Goals as goal

pub returns-in-Ok-Some-clause-counts : goal.returns-in-Ok-Some-clause-counts
returns-in-Ok-Some-clause-counts g c =
    counts_common (g.D.Folder.known c.args.folder.now) (path_buf_bytes c.args.file.now) _ c.in-Ok-Some.text.items
    c.deref.result.now c.config_by_text.result (c.as_path.ensures ∙ c.in_ok-common.ensures) (rw c.in-Ok-Some.field-0-is at c.in-Ok-Some.ensures.text)
    c.deref.ensures.value c.config_by_text.ensures.leads

pub returns-in_ok-with_file_name-in-Ok-None-clause-counts : goal.returns-in_ok-with_file_name-in-Ok-None-clause-counts
returns-in_ok-with_file_name-in-Ok-None-clause-counts g c =
    counts_own (g.D.Folder.known c.args.folder.now) (path_buf_bytes c.args.file.now) _ _
    (c.as_path.ensures ∙ c.in_ok-common.ensures) (rw c.in-Ok-None.field-0-is at c.in-Ok-None.ensures.missing) c.in_ok-with_file_name-in-Ok-None.ensures

pub returns-in-Err-clause-fault : goal.returns-in-Err-clause-fault
returns-in-Err-clause-fault g c =
    common_fault (g.D.Folder.works c.args.folder.now) (g.D.Folder.known c.args.folder.now)
    (path_buf_bytes c.args.file.now) (path_buf_bytes c.in_ok-common.common) _ c.in-Err.e _ c.in_ok-common.ensures
    c.as_path.ensures c.requires.inside c.in-Err.ensures.fault c.of.ensures
