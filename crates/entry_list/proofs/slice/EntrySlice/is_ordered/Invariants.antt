use Rattle.entry_list.proofs.Falls.{RisesFrom}
use Rattle.entry_list.proofs.slice.EntrySlice.is_ordered.Given as goal

abbrev pub invariant-loop-i : goal.invariant-loop-i
invariant-loop-i l = RisesFrom l.self l.i
