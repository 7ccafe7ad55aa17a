use Rattle.std.proofs.Common.{◌≡◌, List, length, None}
use Rattle.entry_list.specs.Entries.{AreEntries, last_path}
use Rattle.entry_list.specs.Record.{Record, has_directory}
use Rattle.entry_decode.specs.Reader.{IsBehind}
use Rattle.file_windows.specs.Passed.{in_64_bits, paths_len}
use Rattle.file_windows.proofs.passed.pass_entries.Given as goal

-- this number of entries precedes the rest, and the reader is after them
abbrev pub invariant-loop-place : goal.invariant-loop-place
invariant-loop-place l = (records : List Record) × record {
  entries : AreEntries l.fn.version l.fn.kind None l.fn.bytes records l.reader.rest;
  count : length records ≡ l.place;
  path_bytes : l.path_bytes ≡ in_64_bits (paths_len records);
  sparse : l.sparse ≡ has_directory records;
  behind : IsBehind l.fn.version l.fn.kind (last_path None records) l.reader;
}
