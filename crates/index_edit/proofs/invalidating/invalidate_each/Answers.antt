use Rattle.std.proofs.Common.{arith}
use Rattle.ext_tree.specs.Tree.{node_of}
use Rattle.index_edit.proofs.Invalidations.{all_done, invalidated_more, invalidated_none}
use Rattle.index_edit.proofs.invalidating.invalidate_each.Goals as goal

pub loop-change-init : goal.loop-change-init
loop-change-init c = record { is = invalidated_none (node_of c.args.tree.now); counts = λ most h. h }

pub loop-change-preserved : goal.loop-change-preserved
loop-change-preserved c = record {
  is = invalidated_more c.args.changes.now c.loop-change.change-index (node_of c.args.tree.now) _ c.path.result.now
      (node_of c.loop-change.tree) (node_of c.invalidate.new.tree) (omega (arith, c.loop-change-test.true)) c.path.ensures
      c.loop-change.invariant.is c.invalidate.ensures.is;
  counts = λ most h. c.invalidate.ensures.counts most (c.loop-change.invariant.counts most h);
}

pub returns-clause-is : goal.returns-clause-is
returns-clause-is c =
    all_done c.args.changes.now c.loop-change.change-index (node_of c.args.tree.now) (node_of c.loop-change.tree)
    (omega (arith, c.loop-change-test.false)) c.loop-change.invariant.is
