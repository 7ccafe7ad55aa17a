use Rattle.std.proofs.Common.{◌≡◌, ◌+◌, ◌<◌, ◌≤◌, ◌^◌, [], length, take}
use Rattle.std.specs.List.{list_any}
use Rattle.entry_fields.specs.Flags.{is_extended}
use Rattle.entry_list.specs.Counted.{counted_in}
use Rattle.entry_list.proofs.Written.{written_of, last_of}
use Rattle.entry_list.proofs.write.totals_of.Given as goal

abbrev pub invariant-loop-entry : goal.invariant-loop-entry
invariant-loop-entry l = record {
  extended : l.is_extended ≡ list_any (λ e. is_extended e.flags.0) (take l.entry-index l.entries);
  counted : l.count ≡ length (written_of l.storage (take l.entry-index l.entries));
  few : l.count ≤ l.entry-index;
  so_far : l.most ≡ 12 + counted_in l.precision l.counted [] (written_of l.storage (take l.entry-index l.entries));
  small : l.most < 2 ^ 32;
  path : l.last ≡ last_of [] (written_of l.storage (take l.entry-index l.entries));
}
