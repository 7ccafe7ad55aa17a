use Rattle.std.proofs.Common.{◌≡◌, ◌∙◌, false, sym, ap, arith}
use Rattle.std.specs.Prelude.{slice_range}
use Rattle.std.proofs.lemmas.List.{get_or_default}
use Rattle.entry_list.specs.Record.{has_directory}
use Rattle.base_search.proofs.Halving.{position_is, position_none}
use Rattle.entry_edit.specs.Changes.{change_path}
use Rattle.entry_edit.specs.Wholes.{lies_in_whole}
use Rattle.entry_edit.specs.declared.change.Change.{Change}
use Rattle.entry_edit.proofs.Arounds.{all_of, no_change_inside}
use Rattle.entry_edit.proofs.wholes.first_in_whole.Goals as goal

pub returns-then-not-has_whole : goal.returns-then-not-has_whole
returns-then-not-has_whole c = λ o.
    let rs = c.args.entries.now in
    let none : has_directory rs ≡ false =
    ap has_directory (sym (ap (λ n. slice_range rs 0 n) c.len.ensures ∙ all_of rs)) ∙ sym c.has_whole.ensures
    ∙ c.if-not-has_whole.true in
    sym (no_change_inside c.args.changes.now rs none)

pub returns-then-lies_in_whole : goal.returns-then-lies_in_whole
returns-then-lies_in_whole c = λ o.
    let rs = c.args.entries.now in
    let cs = c.args.changes.now in
    let p = λ (x : Change). lies_in_whole (change_path x) rs in
    sym (position_is p cs c.loop-at.at (omega (arith, c.loop-at-test.true)) (c.loop-at.invariant o) (λ d.
    ap (λ x. p x) (get_or_default cs c.loop-at.at d _ (omega (arith, c.loop-at-test.true)))
    ∙ ap (λ path. lies_in_whole path rs) (sym c.path.ensures) ∙ sym (c.lies_in_whole.ensures o) ∙ c.if-lies_in_whole.true))

pub returns : goal.returns
returns c = λ o.
    let p = λ (x : Change). lies_in_whole (change_path x) c.args.entries.now in
    sym (position_none p c.args.changes.now
    (λ k d within. c.loop-at.invariant o k d (omega arith) (omega (arith, within, c.loop-at-test.false))))
