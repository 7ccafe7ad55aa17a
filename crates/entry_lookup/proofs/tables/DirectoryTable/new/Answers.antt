use Rattle.std.proofs.Common.{subst, sym}
use Rattle.entry_list.specs.Order.{IsOrderedByPath}
use Rattle.entry_lookup.proofs.SpanTable.{spans_are}
use Rattle.entry_lookup.proofs.Visits.{visits_ordered}
use Rattle.entry_lookup.proofs.tables.DirectoryTable.new.Goals as goal

pub directories_of-requires : goal.directories_of-requires
directories_of-requires c =
    visits_ordered c.new-entries.result (subst IsOrderedByPath (sym c.new-entries.ensures) c.requires)

pub invariant_of-result : goal.invariant_of-result
invariant_of-result c =
    let rs = c.new-entries.result in
    spans_are rs c.in_ok-spans.spans.items (subst IsOrderedByPath (sym c.new-entries.ensures) c.requires)
    c.in_ok-spans.ensures
