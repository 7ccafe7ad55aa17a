use Rattle.std.proofs.Common.{◌≡◌, ◌++◌, ℕ, List, All, length, take}
use Rattle.entry_list.specs.Order.{IsStrictlyOrdered}
use Rattle.entry_list.specs.Record.{IsPlaced, records_in}
use Rattle.entry_edit.specs.Ahead.{entries_ahead}
use Rattle.entry_edit.specs.Changes.{IsAppliedTo}
use Rattle.index_edit.specs.RecordingSteps.{AreRisingIf}
use Rattle.index_edit.specs.Undone.{undo_paths, undone}
use Rattle.index_edit.proofs.update.update_each.Given as goal

-- the changes so far are made, of those that are done and those ahead, and what they take out is recorded
abbrev pub invariant-loop-place : goal.invariant-loop-place
invariant-loop-place l = record {
  placed : All (IsPlaced (length l.initial.storage.items)) l.entries
      → All (IsPlaced (length l.storage.items)) (l.done.items ++ entries_ahead l.ahead);
  applied : All (IsPlaced (length l.initial.storage.items)) l.entries
      → IsStrictlyOrdered (records_in l.initial.storage.items l.entries)
      → IsAppliedTo (take l.place l.changes) (records_in l.initial.storage.items l.entries)
      (records_in l.storage.items (l.done.items ++ entries_ahead l.ahead));
  undone : All (IsPlaced (length l.initial.storage.items)) l.entries
      → IsStrictlyOrdered (records_in l.initial.storage.items l.entries) → undo_paths l.undo
      ≡ undone (take l.place l.changes) (records_in l.initial.storage.items l.entries)
      (undo_paths l.initial.undo);
  rising : AreRisingIf l.rising l.undo;
  storage : (more : List ℕ) × (l.storage.items ≡ l.initial.storage.items ++ more);
}
