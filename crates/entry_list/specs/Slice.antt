-- Properties of one entry or two, at indices of a list of records (the library's own).
use Rattle.std.specs.Prelude.{◌≡◌, ℕ, List, slice_index_or}
use Rattle.std.specs.declared.cmp.Ordering.{Ordering}
use Rattle.entry_list.specs.declared.Entry.{Entry}
use Rattle.entry_list.specs.Order.{record_cmp}
use Rattle.entry_list.specs.Record.{Record}

-- the record is the entry's, except for the path, which an entry alone doesn't determine
pub record IsRecordOf (e : Entry) (r : Record) : Type 0 where
  pub stat : r.stat ≡ e.stat
  pub id : r.id ≡ e.id
  pub flags : r.flags ≡ e.flags.0
  pub mode : r.mode ≡ e.mode.0

-- how the record at index a compares with the one at index b
abbrev pub StandsTo : List Record → ℕ → ℕ → Ordering → Type 0
StandsTo rs a b o = (d : Record) → record_cmp (slice_index_or rs a d) (slice_index_or rs b d) ≡ o
