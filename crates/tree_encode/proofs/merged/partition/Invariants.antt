use Rattle.std.proofs.Common.{◌≡◌, take}
use Rattle.tree_encode.specs.MergedSteps.{merged_entries, unmerged_entries}
use Rattle.tree_encode.proofs.merged.partition.Given as goal

-- each list has its part of the entries so far
abbrev pub invariant-loop-entry : goal.invariant-loop-entry
invariant-loop-entry l = record {
  merged : l.merged.items ≡ merged_entries (take l.entry-index l.entries);
  unmerged : l.unmerged.items ≡ unmerged_entries (take l.entry-index l.entries);
}
