use Rattle.std.proofs.Common.{◌∙◌, refl, sym, arith}
use Rattle.view_salvage.proofs.Saving.{above_by, above_none, never_nameless}
use Rattle.view_salvage.proofs.salvage.is_above.Goals as goal

pub returns-then-is_empty : goal.returns-then-is_empty
returns-then-is_empty c = (
  λ t. absurd cc,
  λ h. absurd (never_nameless c.args.entries.now c.args.kept c.args.place c.path.result.now c.path.ensures
      c.requires.inside (sym c.is_empty.ensures ∙ c.if-is_empty.true) h),
)

pub returns-then-kept-eq0 : goal.returns-then-kept-eq0
returns-then-kept-eq0 c = (
  λ t. above_none c.args.entries.now c.args.kept c.args.place c.path.result.now c.path.ensures c.if-kept-eq0.true
      (sym c.is_empty.ensures ∙ c.if-is_empty.false),
  λ h. refl,
)

pub returns : goal.returns
returns c = above_by c.args.entries.now c.args.kept c.args.place c.path.result.now c.path.ensures c.is_lt.result
    c.compare.result c.requires.inside (omega arith) (sym c.is_empty.ensures ∙ c.if-is_empty.false) c.is_lt.ensures
    c.compare.ensures
