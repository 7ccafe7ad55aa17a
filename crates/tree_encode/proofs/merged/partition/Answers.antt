use Rattle.std.proofs.Common.{ap, sym, ◌∙◌}
use Rattle.tree_encode.proofs.Divided.{more_merged, more_unmerged, same_entry}
use Rattle.tree_encode.proofs.merged.partition.Goals as goal
use Rattle.tree_encode.proofs.merged.partition.Goals.{then-is_unmerged+in_ok-push, else-is_unmerged+in_ok-push-2}

pub loop-entry-preserved : goal.loop-entry-preserved
loop-entry-preserved c = elim c.if-is_unmerged.branch [
  | then-is_unmerged+in_ok-push w ↦
      let p = more_unmerged c.args.entries.now c.loop-entry.entry-index _ c.loop-entry-test.true c.in_ok-copy.copy
      (let e = c.in_ok-copy.ensures.cases in same_entry _ _ e.0 e.1.0 e.1.1.0 e.1.1.1.0 e.1.1.1.1)
      c.loop-entry.merged.items c.loop-entry.unmerged.items c.loop-entry.invariant.merged
      c.loop-entry.invariant.unmerged (sym c.is_unmerged.ensures ∙ w.if-is_unmerged.true) in
      record {
        merged = ap (λ v. v.items) w.merged-is ∙ p.0;
        unmerged = ap (λ v. v.items) w.unmerged-is ∙ w.in_ok-push.ensures.items ∙ p.1;
      }
  | else-is_unmerged+in_ok-push-2 w ↦
      let p = more_merged c.args.entries.now c.loop-entry.entry-index _ c.loop-entry-test.true c.in_ok-copy.copy
      (let e = c.in_ok-copy.ensures.cases in same_entry _ _ e.0 e.1.0 e.1.1.0 e.1.1.1.0 e.1.1.1.1)
      c.loop-entry.merged.items c.loop-entry.unmerged.items c.loop-entry.invariant.merged
      c.loop-entry.invariant.unmerged (sym c.is_unmerged.ensures ∙ w.if-is_unmerged.false) in
      record {
        merged = ap (λ v. v.items) w.merged-is ∙ w.in_ok-push-2.ensures.items ∙ p.0;
        unmerged = ap (λ v. v.items) w.unmerged-is ∙ p.1;
      }
]
