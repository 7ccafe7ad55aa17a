use Rattle.std.proofs.Common.{◌≡◌, ◌≤◌, take}
use Rattle.entry_list.specs.Order.{IsOrderedByPath}
use Rattle.entry_lookup.specs.Tables.{present_count}
use Rattle.entry_lookup.proofs.tables.count_present.Given as goal

abbrev pub invariant-loop-path : goal.invariant-loop-path
invariant-loop-path g l = record {
  in_range : l.count ≤ l.path-index;
  counted : IsOrderedByPath (g.S.PathSearch.list l.searcher)
      → l.count ≡ present_count (take l.path-index l.paths) (g.S.PathSearch.list l.searcher);
}
