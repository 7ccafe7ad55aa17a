use Rattle.std.proofs.Common.{◌≡◌, ◌+◌, ◌++◌, All, length, take}
use Rattle.entry_list.specs.Record.{IsPlaced, records_in}
use Rattle.ext_split.proofs.merge.append_entries.Given as goal

abbrev pub invariant-loop-entry : goal.invariant-loop-entry
invariant-loop-entry l = record {
  count : length l.entries.items ≡ length l.fn.entries.items + l.entry-index;
  appended : All (IsPlaced (length l.fn.storage.items)) l.fn.entries.items → records_in l.storage.items l.entries.items
      ≡ records_in l.fn.storage.items l.fn.entries.items ++ records_in l.split_storage (take l.entry-index l.split);
  placed : All (IsPlaced (length l.fn.storage.items)) l.fn.entries.items
      → All (IsPlaced (length l.storage.items)) l.entries.items;
}
