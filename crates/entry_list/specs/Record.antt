-- An entry as a value, without the range of its path in memory (gitformat-index, "Index entry").
use Rattle.std.specs.Prelude.{◌≡◌, ℕ, ◌<◌, ◌≤◌, ◌==◌, ◌^◌, Bool, List, All, length, map, slice_range}
use Rattle.std.specs.List.{list_any}
use Rattle.index_parts.specs.Id.{id_len, id_bytes, id_kind}
use Rattle.index_parts.specs.Mode.{directory_mode}
use Rattle.index_parts.specs.declared.hash.Kind.{Kind}
use Rattle.index_parts.specs.declared.hash.ObjectId.{ObjectId}
use Rattle.entry_fields.specs.declared.entry.stat.Stat.{Stat}
use Rattle.entry_list.specs.declared.Entry.{Entry}
use Rattle.entry_list.specs.declared.Pathless.{Pathless}
use Rattle.entry_list.specs.declared.path_range.PathRange.{PathRange}
use Rattle.entry_list.specs.PathRange.{range_end, range_start}

-- an entry with its complete path; its stage is in the flags
pub record Record : Type 0 where
  pub path : List ℕ
  pub stat : Stat
  pub id : ObjectId
  pub flags : ℕ
  pub mode : ℕ

-- the record of an entry whose path is in this storage
abbrev pub record_in : List ℕ → Entry → Record
record_in storage e =
    record {
      path = slice_range storage (range_start e.path) (range_end e.path);
      stat = e.stat;
      id = e.id;
      flags = e.flags.0;
      mode = e.mode.0;
    }

abbrev pub records_in : List ℕ → List Entry → List Record
records_in storage entries = map (record_in storage) entries

-- the entry's path is inside a storage of `len` bytes
pub record IsPlaced (len : ℕ) (e : Entry) : Type 0 where
  pub inside : range_end e.path ≤ len

-- the record of this path and an entry's other parts
abbrev pub with_path : List ℕ → Pathless → Record
with_path path e = record { path = path; stat = e.stat; id = e.id; flags = e.flags.0; mode = e.mode.0 }

-- the entry of these parts, whose path is this range of a storage
abbrev pub made_entry : Pathless → PathRange → Entry
made_entry e path = record { stat = e.stat; id = e.id; flags = e.flags; mode = e.mode; path = path }

-- each entry's id is of this hash algorithm
abbrev pub IdsAreOf : Kind → List Entry → Type 0
IdsAreOf kind entries = All (λ e. id_kind e.id ≡ kind) entries

-- some record is for a complete directory
abbrev pub has_directory : List Record → Bool
has_directory rs = list_any (λ r. r.mode == directory_mode) rs

-- The numbers of a record have at most 32 bits, and its id has the length of its hash algorithm. So it is for each
-- entry in memory.
pub record IsSized (r : Record) : Type 0 where
  pub ctime_secs : r.stat.ctime.secs < 2 ^ 32
  pub ctime_nsecs : r.stat.ctime.nsecs < 2 ^ 32
  pub mtime_secs : r.stat.mtime.secs < 2 ^ 32
  pub mtime_nsecs : r.stat.mtime.nsecs < 2 ^ 32
  pub dev : r.stat.dev < 2 ^ 32
  pub ino : r.stat.ino < 2 ^ 32
  pub uid : r.stat.uid < 2 ^ 32
  pub gid : r.stat.gid < 2 ^ 32
  pub size : r.stat.size < 2 ^ 32
  pub mode : r.mode < 2 ^ 32
  pub id : length (id_bytes r.id) ≡ id_len (id_kind r.id)

-- numbers below 256
abbrev pub AreBytes : List ℕ → Type 0
AreBytes l = All (λ b. b < 256) l
