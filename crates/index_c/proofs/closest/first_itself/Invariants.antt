use Rattle.std.proofs.Common.{◌≡◌, false}
use Rattle.std.specs.List.{AllWithin}
use Rattle.gix_index.specs.Closest.{is_itself}
use Rattle.capi_table.specs.Table.{records_of}
use Rattle.index_c.proofs.closest.first_itself.Given as goal

abbrev pub invariant-loop-place : goal.invariant-loop-place
invariant-loop-place l = AllWithin (λ r. is_itself l.directory r ≡ false) (records_of l.paths l.rows) l.fn.low l.place
