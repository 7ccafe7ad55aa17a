use Rattle.std.proofs.Common.{◌≡◌, ◌≤◌, All, length}
use Rattle.gix_index.specs.Record.{IsPlaced, records_in}
use Rattle.gix_index.specs.Sorted.{IsOrdered}
use Rattle.view_salvage.specs.SalvageSteps.{AreKept}
use Rattle.view_salvage.proofs.salvage.keep_firsts.Given as goal

abbrev pub invariant-loop-place : goal.invariant-loop-place
invariant-loop-place l = record {
  few : l.kept ≤ l.place;
  same_length : length l.entries.items ≡ length l.fn.entries.items;
  placed : All (IsPlaced (length l.storage)) l.fn.entries.items → All (IsPlaced (length l.storage)) l.entries.items;
  kept : IsOrdered (records_in l.storage l.fn.entries.items)
      → AreKept (records_in l.storage l.fn.entries.items) l.place (records_in l.storage l.entries.items) l.kept;
}
