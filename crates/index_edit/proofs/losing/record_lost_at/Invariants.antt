use Rattle.std.proofs.Common.{◌≡◌, ◌≤◌}
use Rattle.std.specs.Prelude.{slice_range}
use Rattle.index_edit.specs.Undone.{all_recorded, lost, undo_paths}
use Rattle.index_edit.proofs.losing.record_lost_at.Given as goal

-- the sides that go of the places so far are recorded
abbrev pub invariant-loop-place : goal.invariant-loop-place
invariant-loop-place l = record {
  recorded : undo_paths l.undo
      ≡ all_recorded (lost l.change (slice_range l.entries l.initial.place l.place)) (undo_paths l.initial.undo);
  inside : l.place ≤ l.place-end;
}
