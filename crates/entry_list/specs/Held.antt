-- Entries with the storage of their paths (the library's own).
use Rattle.std.specs.Prelude.{◌≡◌, ◌≤◌, ◌+◌, ℕ, List, [], ◌∷◌, ◌++◌, None, length, take, slice_range, unwrap_or}
use Rattle.entry_list.specs.Entries.{last_path}
use Rattle.entry_list.specs.Record.{Record, IsPlaced, record_in}
use Rattle.entry_list.specs.declared.Entry.{Entry}

-- the records of the entries, and the bytes of the storage
pub record Held : Type 0 where
  pub records : List Record
  pub storage : List ℕ

-- one more record at the end, and its path at the end of the storage
abbrev pub pushed : Held → Record → Held
pushed h r = record { records = h.records ++ r ∷ []; storage = h.storage ++ r.path }

-- one more entry is at the end, with this record, and its path is at the end of the storage
pub record Appends (s : List ℕ) (es : List Entry) (r : Record) (t : List ℕ) (fs : List Entry) : Type 0 where
  pub entry : Entry
  pub entries : fs ≡ es ++ entry ∷ []
  pub storage : t ≡ s ++ r.path
  pub placed : IsPlaced (length t) entry
  pub is : record_in t entry ≡ r

-- the first `shared` bytes of the last path are in the storage, from index `place` on
pub record IsFrontOfLast (h : Held) (shared place : ℕ) : Type 0 where
  pub inside : place + shared ≤ length h.storage
  pub is : slice_range h.storage place (place + shared) ≡ take shared (unwrap_or (last_path None h.records) [])
