use Rattle.std.proofs.Common.{◌≡◌, ◌<◌, ◌^◌, take}
use Rattle.gix_index.specs.Outlined.Passed.{paths_len}
use Rattle.gix_index.specs.Record.{records_in}
use Rattle.capi_table.proofs.filling.path_bytes_of.Given as goal

abbrev pub invariant-loop-place : goal.invariant-loop-place
invariant-loop-place l = record {
  sum_is : l.sum ≡ paths_len (records_in l.storage (take l.place l.entries));
  small : l.sum < 2 ^ 64;
}
