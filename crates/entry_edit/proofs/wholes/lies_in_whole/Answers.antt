use Rattle.std.proofs.Common.{◌∙◌, sym, arith, take}
use Rattle.entry_lookup.proofs.Lookup.{ordered_by_path}
use Rattle.entry_edit.proofs.Arounds.{around_at, none_around, one_more, whole_at}
use Rattle.entry_edit.proofs.wholes.lies_in_whole.Goals as goal
use Rattle.entry_edit.proofs.wholes.lies_in_whole.Goals.{else-path-at-eq47-via-then-path-at-eq47+else-has_whole}
use Rattle.entry_edit.proofs.wholes.lies_in_whole.Goals.{else-path-at-eq47-via-else-path-at-eq47}

pub returns-then-has_whole : goal.returns-then-has_whole
returns-then-has_whole c = λ o.
    let path = c.args.path.now in
    let rs = c.args.entries.now in
    let there = whole_at (take c.loop-at.at path) rs c.path_range.result (c.path_range.ensures.exactly (ordered_by_path rs o)) in
    sym (around_at path rs c.loop-at.at c.loop-at.auto.at c.loop-at-test.true c.if-path-at-eq47.true
    (sym there ∙ sym c.has_whole.ensures ∙ c.if-has_whole.true))

pub loop-at-preserved : goal.loop-at-preserved
loop-at-preserved c = λ k low within slash o.
    let path = c.args.path.now in
    let rs = c.args.entries.now in
    one_more path rs c.loop-at.at (λ i l w s. c.loop-at.invariant i l w s o) (λ here.
    elim c.else-path-at-eq47.branch [
      | else-path-at-eq47-via-then-path-at-eq47+else-has_whole w ↦
          sym (whole_at (take c.loop-at.at path) rs w.path_range.result (w.path_range.ensures.exactly (ordered_by_path rs o)))
          ∙ sym w.has_whole.ensures ∙ w.if-has_whole.false
      | else-path-at-eq47-via-else-path-at-eq47 w ↦ absurd (w.if-path-at-eq47.false here)
    ]) k low within slash

pub returns : goal.returns
returns c = λ o.
    none_around c.args.path.now c.args.entries.now
    (λ k low within slash. c.loop-at.invariant k low (omega (arith, c.loop-at-test.false)) slash o)
