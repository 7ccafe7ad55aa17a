-- Which entries git works with (gitformat-index, "Index entry", "Sparse Directory Entries"; git-update-index,
-- "--cacheinfo").
use Rattle.std.specs.Prelude.{◌≡◌, ℕ, ◌-◌, ◌==◌, List, All, length, take, slice_index, Option, Some, None, if◌then◌else◌}
use Rattle.std.specs.Option.{option_map, option_or}
use Rattle.gix_index.specs.EntryType.{Entry}
use Rattle.gix_index.specs.Kind.{Kind}
use Rattle.gix_index.specs.Mode.{directory_mode, file_mode}
use Rattle.gix_index.specs.Order.{IsStrictlyOrdered}
use Rattle.gix_index.specs.Pathless.{Pathless}
use Rattle.gix_index.specs.Record.{Record}
use Rattle.entry_edit.specs.Changes.{room_fault}
use Rattle.entry_edit.specs.Refusals.{staged_entry_fault}
use Rattle.entry_info.specs.Names.{name_rejection}
use Rattle.view_salvage.specs.declared.accepted.EntryFault.{EntryFault}
use Rattle.view_salvage.specs.declared.accepted.EntryFault.TheVariants as faults

-- Why an entry can't be staged at a path.
abbrev pub staging_fault : Kind → Pathless → List ℕ → Option EntryFault
staging_fault kind entry path =
    option_map (λ e. faults.Refused e) (option_or (staged_entry_fault name_rejection kind entry path) (room_fault 0
    path))

-- The entry of a file with the other parts of this entry.
abbrev pub as_file : Pathless → Pathless
as_file entry = record entry { mode = record { 0 = file_mode } }

-- The path of a sparse directory ends with a slash, and a file can be staged at the path before the slash.
abbrev pub directory_fault : Kind → Pathless → List ℕ → Option EntryFault
directory_fault kind entry path =
    if slice_index path (length path - 1) == 47 then staging_fault kind (as_file entry) (take (length path - 1) path)
    else Some faults.NoSlash

-- Why git doesn't work with an entry; `None` if it does.
unfoldable pub entry_fault : Kind → Pathless → List ℕ → Option EntryFault
entry_fault kind entry path =
    if entry.mode.0 == directory_mode then directory_fault kind entry path else staging_fault kind entry path

-- The parts of an entry except its path.
abbrev pub parts_of : Entry → Pathless
parts_of e = record { stat = e.stat; id = e.id; flags = e.flags; mode = e.mode }

-- The parts of a record except its path.
abbrev pub pathless_of : Record → Pathless
pathless_of r = record { stat = r.stat; id = r.id; flags = record { 0 = r.flags }; mode = record { 0 = r.mode } }

-- Why git doesn't work with a record; `None` if it does.
abbrev pub record_fault : Kind → Record → Option EntryFault
record_fault kind r = entry_fault kind (pathless_of r) r.path

-- Git works with each of the entries, and path and stage strictly increase.
pub record AreAcceptable (kind : Kind) (rs : List Record) : Type 0 where
  pub ordered : IsStrictlyOrdered rs
  pub accepted : All (λ r. record_fault kind r ≡ None) rs
