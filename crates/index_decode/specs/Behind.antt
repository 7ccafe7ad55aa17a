-- The bytes after the entries of a file: its extensions and its trailer (gitformat-index, "The git index file has the
-- following format").
use Rattle.std.specs.Prelude.{◌≡◌, List, ℕ, drop, length, None, Ok}
use Rattle.index_parts.specs.declared.hash.Kind.{Kind}
use Rattle.entry_list.specs.declared.Version.{Version}
use Rattle.entry_list.specs.Entries.{AreEntries}
use Rattle.entry_list.specs.Header.{count_of, header_len, header_of}
use Rattle.entry_list.specs.Record.{Record}

-- the bytes after a valid header and after as many entries as it counts
pub record FollowEntries (kind : Kind) (bytes after : List ℕ) : Type 0 where
  pub version : Version
  pub header : header_of kind bytes ≡ Ok version
  pub records : List Record
  pub entries : AreEntries version kind None (drop header_len bytes) records after
  pub count : length records ≡ count_of bytes
