-- A table in a caller's memory: rows, and the bytes with their paths (the library's own; gitformat-index, "Index
-- entry", defines the parts of an entry).
use Rattle.std.specs.Prelude.{◌≡◌, ℕ, ◌+◌, ◌≤◌, nat_eq, true, List, ◌++◌, All, length, map, take, drop, replicate}
use Rattle.std.specs.Prelude.{if◌then◌else◌}
use Rattle.gix_index.specs.Id.{id_kind}
use Rattle.gix_index.specs.Flags.{stage_number}
use Rattle.gix_index.specs.Kind.{Kind}
use Rattle.gix_index.specs.Kind.TheVariants as kinds
use Rattle.gix_index.specs.ObjectId.{ObjectId}
use Rattle.gix_index.specs.ObjectId.TheVariants as ids
use Rattle.gix_index.specs.EntryType.{Entry}
use Rattle.gix_index.specs.Outlined.Passed.{paths_len}
use Rattle.gix_index.specs.PathRange.{range_start}
use Rattle.gix_index.specs.Record.{Record}
use Rattle.gix_index.specs.Pathless.{Pathless}
use Rattle.gix_index.specs.StatType.{Stat}
use Rattle.capi_table.specs.declared.row.Row.{Row}
use Rattle.capi_table.specs.declared.row.TheConstants.{SHA1, SHA256}

-- ---- the number in a row for a hash algorithm

abbrev pub kind_number : Kind → ℕ
kind_number kinds.Sha1 = SHA1
kind_number kinds.Sha256 = SHA256

-- ---- what a table spells

-- The id of a row: 32 bytes if its hash algorithm is SHA256, and otherwise the first 20.
abbrev pub row_id : Row → ObjectId
row_id row = if nat_eq row.kind SHA256 then ids.Sha256 row.id else ids.Sha1 (take 20 row.id)

abbrev pub row_stat : Row → Stat
row_stat row = record {
  mtime = record { secs = row.mtime_secs; nsecs = row.mtime_nsecs };
  ctime = record { secs = row.ctime_secs; nsecs = row.ctime_nsecs };
  dev = row.dev;
  ino = row.ino;
  uid = row.uid;
  gid = row.gid;
  size = row.size;
}

-- the `path_len` bytes for paths from `path_start` on; fewer if these end before
abbrev pub row_path : List ℕ → Row → List ℕ
row_path paths row = take row.path_len (drop row.path_start paths)

-- the record that a row spells, if these are the bytes for paths; its stage is in the flags
abbrev pub spelled : List ℕ → Row → Record
spelled paths row =
    record { path = row_path paths row; stat = row_stat row; id = row_id row; flags = row.flags; mode = row.mode }

abbrev pub records_of : List ℕ → List Row → List Record
records_of paths rows = map (spelled paths) rows

-- ---- what is filled in

-- The row has all of its record: the stage in addition to the flags, the hash algorithm in addition to the id, and
-- zeros after an id of 20 bytes. Its path is among the first `len` bytes.
pub record IsWholeRow (len : ℕ) (row : Row) : Type 0 where
  pub stage : row.stage ≡ stage_number row.flags
  pub kind : row.kind ≡ kind_number (id_kind (row_id row))
  pub zeros : nat_eq row.kind SHA1 ≡ true → drop 20 row.id ≡ replicate 12 0
  pub inside : row.path_start + row.path_len ≤ len

-- The first rows of a caller's table, before and after, have these records, with their paths in the first bytes for
-- paths. What follows both is as it was.
pub record HoldsRecords (rs : List Record) (len : ℕ) (rows filled : List Row) (paths spelling : List ℕ) : Type 0 where
  pub rows_fit : length rs ≤ length rows
  pub paths_fit : len ≤ length paths
  pub spells : records_of (take len spelling) (take (length rs) filled) ≡ rs
  pub whole : All (IsWholeRow len) (take (length rs) filled)
  pub rows_behind : drop (length rs) filled ≡ drop (length rs) rows
  pub paths_behind : drop len spelling ≡ drop len paths

-- the first rows of a table have these records, with as many bytes for paths as the records' paths have together
abbrev pub FillsRecords : List Record → List Row → List Row → List ℕ → List ℕ → Type 0
FillsRecords rs rows filled paths spelling = HoldsRecords rs (paths_len rs) rows filled paths spelling

-- ---- an entry's row

-- the id's bytes, followed by zeros if it is of SHA-1
abbrev pub padded_id : ObjectId → List ℕ
padded_id (ids.Sha1 bytes) = bytes ++ replicate 12 0
padded_id (ids.Sha256 bytes) = bytes

-- the row of an entry of these parts, whose path is `len` bytes from the position `start` on
abbrev pub row_from : Pathless → ℕ → ℕ → Row
row_from e start len = record {
  ctime_secs = e.stat.ctime.secs;
  ctime_nsecs = e.stat.ctime.nsecs;
  mtime_secs = e.stat.mtime.secs;
  mtime_nsecs = e.stat.mtime.nsecs;
  dev = e.stat.dev;
  ino = e.stat.ino;
  uid = e.stat.uid;
  gid = e.stat.gid;
  size = e.stat.size;
  mode = e.mode.0;
  flags = e.flags.0;
  stage = stage_number e.flags.0;
  kind = kind_number (id_kind e.id);
  id = padded_id e.id;
  path_start = start;
  path_len = len;
}

-- all of an entry except its path
abbrev pub entry_parts : Entry → Pathless
entry_parts e = record { stat = e.stat; id = e.id; flags = e.flags; mode = e.mode }

-- the row of an entry, if the storage of paths is the bytes for paths
abbrev pub row_of : Entry → Row
row_of e = row_from (entry_parts e) (range_start e.path) e.path.len
