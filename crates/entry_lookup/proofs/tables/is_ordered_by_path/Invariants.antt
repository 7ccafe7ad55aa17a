use Rattle.std.proofs.Common.{◌≢◌, take}
use Rattle.std.specs.List.{AllPairs}
use Rattle.std.specs.declared.cmp.Ordering.TheVariants.{Greater}
use Rattle.entry_list.specs.Order.{path_cmp}
use Rattle.entry_lookup.proofs.tables.is_ordered_by_path.Given as goal

abbrev pub invariant-loop-i : goal.invariant-loop-i
invariant-loop-i l = AllPairs (λ r q. path_cmp r.path q.path ≢ Greater) (take l.i l.entries)
