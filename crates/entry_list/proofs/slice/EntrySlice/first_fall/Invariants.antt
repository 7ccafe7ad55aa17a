use Rattle.std.specs.List.{AllAdjacentBelow}
use Rattle.entry_list.proofs.Falls.{Rises}
use Rattle.entry_list.proofs.slice.EntrySlice.first_fall.Given as goal

abbrev pub invariant-loop-i : goal.invariant-loop-i
invariant-loop-i l = AllAdjacentBelow Rises l.self l.i
