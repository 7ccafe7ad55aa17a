use Rattle.std.proofs.Common.{◌∙◌, refl, sym}
use Rattle.tool_edit.proofs.Timed.{renewed_by, timed_none, timed_some}
use Rattle.tool_edit.proofs.update.renew.Goals as goal

pub returns-then-is_empty-clause-timed : goal.returns-then-is_empty-clause-timed
returns-then-is_empty-clause-timed c = timed_none _ _ (sym c.is_empty.ensures ∙ c.if-is_empty.true)

pub returns-clause-timed : goal.returns-clause-timed
returns-clause-timed c = timed_some _ _ _ (sym c.is_empty.ensures ∙ c.if-is_empty.false)
    (renewed_by _ _ _ _ _ c.timestamp.ensures c.smudge_racy.ensures.smudged c.smudge_racy.ensures.trusted
    c.set_timestamp.ensures.set (refl, refl))
