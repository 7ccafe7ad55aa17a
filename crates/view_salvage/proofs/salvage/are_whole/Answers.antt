use Rattle.std.proofs.Common.{◌∙◌, refl, sym, arith}
use Rattle.view_salvage.proofs.Wholeness.{above_at, whole_all, whole_more, whole_none}
use Rattle.view_salvage.proofs.salvage.are_whole.Goals as goal

pub loop-place-init : goal.loop-place-init
loop-place-init c = whole_none

pub loop-place-preserved : goal.loop-place-preserved
loop-place-preserved c = whole_more c.args.entries.now c.loop-place.place (omega arith)
    (c.is_above.ensures.0 c.if-not-is_above.false) c.loop-place.invariant

pub returns-then-not-is_above : goal.returns-then-not-is_above
returns-then-not-is_above c = (
  λ t. absurd cc,
  λ w. sym c.if-not-is_above.true
      ∙ c.is_above.ensures.1 (above_at c.args.entries.now c.loop-place.place (omega arith) w),
)

pub returns : goal.returns
returns c = (
  λ t. whole_all c.args.entries.now c.loop-place.place (omega arith) c.loop-place.invariant,
  λ w. refl,
)
