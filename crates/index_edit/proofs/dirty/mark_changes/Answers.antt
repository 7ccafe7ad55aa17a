use Rattle.std.proofs.Common.{◌∙◌, arith, refl}
use Rattle.index_edit.proofs.Markings.{none_yet, one_more}
use Rattle.index_edit.proofs.dirty.mark_changes.Goals as goal

pub loop-change-init : goal.loop-change-init
loop-change-init c = record {
  len = refl;
  marked = λ e o. none_yet c.args.changes.now c.args.entries.now c.args.bits.now e;
}

pub loop-change-preserved : goal.loop-change-preserved
loop-change-preserved c = record {
  len = c.mark_change.ensures.len ∙ c.loop-change.invariant.len;
  marked = λ e o. one_more c.args.changes.now c.loop-change.change-index _ c.args.entries.now c.args.bits.now
      c.loop-change.bits c.mark_change.new.bits (omega (arith, c.loop-change-test.true)) (c.loop-change.invariant.marked e o)
      (c.mark_change.ensures.marked (c.loop-change.invariant.len ∙ e) o);
}
