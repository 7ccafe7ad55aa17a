use Rattle.std.proofs.Common.{◌≡◌, take}
use Rattle.gix_index.specs.EntryImage.{written}
use Rattle.gix_index.specs.State.{records}
use Rattle.capi_table.specs.Table.{records_of}
use Rattle.capi_table.proofs.same.are_entries_of.Given as goal

-- none before the place is left out, and they are the first entries
abbrev pub invariant-loop-place : goal.invariant-loop-place
invariant-loop-place l = record {
  stay : written (take l.place (records_of l.paths l.rows)) ≡ take l.place (records_of l.paths l.rows);
  same : take l.place (records_of l.paths l.rows) ≡ take l.place (records l.state);
}
