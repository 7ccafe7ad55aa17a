use Rattle.std.proofs.Common.{◌≡◌, ℕ, List, ◌++◌, length, None}
use Rattle.std.specs.Prelude.{All}
use Rattle.index_parts.specs.Id.{id_kind}
use Rattle.entry_list.specs.Entries.{AreEntries, last_path}
use Rattle.entry_list.specs.Record.{has_directory}
use Rattle.entry_decode.specs.Reader.{IsBehind}
use Rattle.entry_decode.proofs.entries.entries_in.Given as goal

abbrev pub invariant-entries : goal.invariant-entries
invariant-entries l = record {
  read : (all : List ℕ) → AreEntries l.fn.version l.fn.kind None all l.fn.first.list.records l.bytes
      → AreEntries l.fn.version l.fn.kind None all l.first.list.records l.reader.rest;
  end : (taken : List ℕ) × (l.bytes ≡ taken ++ l.reader.rest);
  behind : IsBehind l.fn.version l.fn.kind (last_path None l.first.list.records) l.reader;
  count : length l.first.list.records ≡ l.index;
  ids : All (λ r. id_kind r.id ≡ l.fn.kind) l.first.list.records;
  sparse : l.first.sparse ≡ has_directory l.first.list.records;
}
