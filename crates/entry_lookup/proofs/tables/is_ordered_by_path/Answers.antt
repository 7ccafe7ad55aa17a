use Rattle.std.proofs.Common.{arith, sym, ◌∙◌}
use Rattle.entry_lookup.proofs.PathOrder.{falls_here, first_one, next_one}
use Rattle.entry_lookup.proofs.tables.is_ordered_by_path.Goals as goal
use Rattle.entry_lookup.proofs.tables.is_ordered_by_path.Goals.{else-i-gt0-via-then-i-gt0+else-is_gt}
use Rattle.entry_lookup.proofs.tables.is_ordered_by_path.Goals.{else-i-gt0-via-else-i-gt0}

pub returns-then-is_gt : goal.returns-then-is_gt
returns-then-is_gt c = (
  λ t. cc,
  λ o. absurd (falls_here c.args.entries.now c.loop-i.i (omega (arith, c.loop-i-test.true, c.len-i-end.ensures))
      c.path.result.now c.path-then-i-gt0.result.now c.cmp_filepaths.result c.if-i-gt0.true c.path.ensures
      c.path-then-i-gt0.ensures c.cmp_filepaths.ensures.order (sym c.is_gt.ensures ∙ c.if-is_gt.true) o),
)

pub loop-i-preserved : goal.loop-i-preserved
loop-i-preserved c = elim c.else-i-gt0.branch [
  | else-i-gt0-via-then-i-gt0+else-is_gt w ↦
      next_one c.args.entries.now c.loop-i.i (omega (arith, c.loop-i-test.true, c.len-i-end.ensures)) c.loop-i.invariant
      w.path.result.now w.path-then-i-gt0.result.now w.cmp_filepaths.result w.if-i-gt0.true w.path.ensures
      w.path-then-i-gt0.ensures w.cmp_filepaths.ensures.order (sym w.is_gt.ensures ∙ w.if-is_gt.false)
  | else-i-gt0-via-else-i-gt0 w ↦ first_one c.args.entries.now c.loop-i.i (omega (arith, w.if-i-gt0.false))
]
