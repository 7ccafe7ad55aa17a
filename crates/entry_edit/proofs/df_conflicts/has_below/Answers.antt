use Rattle.std.proofs.Common.{◌∙◌}
use Rattle.entry_edit.proofs.Ways.{those_below}
use Rattle.entry_edit.proofs.df_conflicts.has_below.Goals as goal

pub returns : goal.returns
returns c = λ o.
    c.has_stage.ensures ∙ those_below c.args.path.now c.args.stage c.args.entries.now c.folder_range.result
    (c.folder_range.ensures.exactly o)
