use Rattle.std.proofs.Common.{take}
use Rattle.gix_index.specs.EntryImage.{written}
use Rattle.gix_index.specs.Order.{IsStrictlyOrdered}
use Rattle.capi_table.specs.Table.{records_of}
use Rattle.capi_table.proofs.WrittenRows.{EndsIn}
use Rattle.capi_table.proofs.spell.first_fallen.Given as goal

abbrev pub invariant-loop-place : goal.invariant-loop-place
invariant-loop-place l = record {
  ordered : IsStrictlyOrdered (written (take l.place (records_of l.paths l.rows)));
  ends : EndsIn l.paths (written (take l.place (records_of l.paths l.rows))) l.before;
}
