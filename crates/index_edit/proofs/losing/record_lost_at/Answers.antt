use Rattle.std.proofs.Common.{◌≡◌, ◌∙◌, ap, arith, subst, sym}
use Rattle.std.specs.Prelude.{slice_range}
use Rattle.index_edit.specs.Undone.{all_recorded, lost, undo_paths}
use Rattle.index_edit.proofs.Losings.{range_none, recorded_more, recorded_none}
use Rattle.index_edit.proofs.Risings.{Rises, all_recorded_rises}
use Rattle.index_edit.proofs.losing.record_lost_at.Goals as goal

pub loop-place-init : goal.loop-place-init
loop-place-init c = record {
  recorded = recorded_none (undo_paths c.args.undo.now)
      ∙ ap (λ l. all_recorded (lost c.args.change.now l) (undo_paths c.args.undo.now))
      (sym (range_none c.args.entries.now c.args.places.start));
  inside = c.requires.inside.0;
}

pub loop-place-preserved : goal.loop-place-preserved
loop-place-preserved c = record {
  recorded = recorded_more c.args.change.now c.args.entries.now c.args.places.start c.loop-place.place c.path-path.result.now
      c.entry.result.now _ _ _ c.loop-place.auto.place (omega (arith, c.loop-place-test.true, c.requires.inside.1))
      c.path-path.ensures c.entry.ensures c.loop-place.invariant.recorded c.in_ok-record_if_lost.ensures;
  inside = omega (arith, c.loop-place-test.true);
}

pub returns : goal.returns
returns c =
    let end : c.loop-place.place ≡ c.args.places.end =
    omega (arith, c.loop-place-test.false, c.loop-place.invariant.inside) in
    c.loop-place.invariant.recorded
    ∙ ap (λ k. all_recorded (lost c.args.change.now (slice_range c.args.entries.now c.args.places.start k))
    (undo_paths c.args.undo.now)) end

pub record_if_lost-requires : goal.record_if_lost-requires
record_if_lost-requires c = λ t. subst Rises (sym c.loop-place.invariant.recorded)
    (all_recorded_rises (lost c.args.change.now (slice_range c.args.entries.now c.args.places.start c.loop-place.place))
    (undo_paths c.args.undo.now) (c.requires.rising t))
