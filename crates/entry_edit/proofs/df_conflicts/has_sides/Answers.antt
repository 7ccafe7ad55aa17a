use Rattle.std.proofs.Common.{◌∙◌}
use Rattle.entry_edit.proofs.Ways.{sides_at}
use Rattle.entry_edit.proofs.df_conflicts.has_sides.Goals as goal

pub returns : goal.returns
returns c = λ o.
    c.has_stage.ensures ∙ sides_at c.args.path.now c.args.entries.now c.path_range.result (c.path_range.ensures.exactly o)
