use Rattle.std.proofs.Common.{◌≡◌, ◌∙◌, Some, ap, subst, sym}
use Rattle.entry_lookup.specs.Range.{part_of}
use Rattle.index_edit.specs.Undone.{all_recorded, lost, undo_paths}
use Rattle.index_edit.proofs.Losings.{recorded_none}
use Rattle.index_edit.proofs.Risings.{Rises, all_recorded_rises}
use Rattle.index_edit.proofs.losing.record_lost.Goals as goal

pub returns-in_default-clause-added : goal.returns-in_default-clause-added
returns-in_default-clause-added c = λ o.
    let rs = c.args.entries.now in
    let undo = undo_paths c.args.undo.now in
    recorded_none undo
    ∙ ap (λ l. all_recorded l undo) (subst (λ p. lost c.args.change.now (part_of rs p) ≡ lost c.args.change.now rs)
    c.in_default.is (c.lost_places.ensures.all o))

pub returns-in_ok-record_lost_at-clause-rising : goal.returns-in_ok-record_lost_at-clause-rising
returns-in_ok-record_lost_at-clause-rising c = λ t. subst Rises (sym c.in_ok-record_lost_at.ensures)
    (all_recorded_rises (lost c.args.change.now (part_of c.args.entries.now (Some c.in-Some.places)))
    (undo_paths c.args.undo.now) (c.requires t))
