use Rattle.std.proofs.Common.{rules, ◌∙◌, sym}
use Rattle.entry_lookup.proofs.Lookup.{ordered_by_path}
use Rattle.entry_edit.specs.declared.change.Change.TheVariants.{Stage, Unstage}
use Rattle.index_edit.proofs.Losings.{lost_in_range, lost_merged, lost_odds, lost_unstaged}
use Rattle.index_edit.proofs.losing.lost_places.Goals as goal

pub returns-then-stage_raw-ne0 : goal.returns-then-stage_raw-ne0
returns-then-stage_raw-ne0 c =
    let rs = c.args.entries.now in
    let entry = c.in-Stage.entry in
    let path = c.in-Stage.path in
    record {
      all = λ o. rw c.in-Stage.is (lost_odds entry path rs c.odd_places.result
          (λ e. c.if-stage_raw-ne0.true (c.stage_raw.ensures ∙ e)) (c.odd_places.ensures.all o));
      inside = c.odd_places.ensures.inside;
    }

pub returns-else-stage_raw-ne0 : goal.returns-else-stage_raw-ne0
returns-else-stage_raw-ne0 c =
    let rs = c.args.entries.now in
    let entry = c.in-Stage.entry in
    let path = c.in-Stage.path in
    record {
      all = λ o. rw c.in-Stage.is (lost_in_range (Stage entry path) path.now rs c.path_range.result
          (λ r. lost_merged entry path r (sym c.stage_raw.ensures ∙ c.if-stage_raw-ne0.false))
          (c.path_range.ensures.exactly (ordered_by_path rs o)));
      inside = search rules;
    }

pub returns-in-Unstage : goal.returns-in-Unstage
returns-in-Unstage c =
    let rs = c.args.entries.now in
    record {
      all = λ o. rw c.in-Unstage.is (lost_in_range (Unstage c.in-Unstage.path) c.in-Unstage.path.now rs
          c.path_range-in-Unstage.result (lost_unstaged c.in-Unstage.path)
          (c.path_range-in-Unstage.ensures.exactly (ordered_by_path rs o)));
      inside = search rules;
    }
