-- An empty index, and the states after edits of one (the library's own).
use Rattle.std.specs.Prelude.{◌≡◌, ℕ, Bool, true, false, List, [], ◌∷◌, ◌++◌, length, map, Option, Some, None, IfSome, slice_index_or}
use Rattle.std.specs.Borrow.{Lends, LendsIf, LendsSo, MutBor, Fml, Array}
use Rattle.std.specs.Global.{Vec}
use Rattle.index_parts.specs.declared.hash.Kind.{Kind}
use Rattle.index_parts.specs.declared.hash.ObjectId.{ObjectId}
use Rattle.entry_fields.specs.declared.entry.flags.Flags.{Flags}
use Rattle.entry_fields.specs.declared.entry.mode.Mode.{Mode}
use Rattle.entry_fields.specs.declared.entry.stat.Stat.{Stat}
use Rattle.ext_small.specs.ResolveUndo.{PathStages, path_stages}
use Rattle.ext_small.specs.declared.resolve_undo.ResolvePath.{ResolvePath}
use Rattle.entry_fields.specs.declared.entry.stat.FileTime.{FileTime}
use Rattle.entry_list.specs.declared.Version.{Version}
use Rattle.entry_list.specs.declared.Version.TheVariants.{V2}
use Rattle.entry_list.specs.declared.Entry.{Entry}
use Rattle.index_state.specs.declared.State.{State}
use Rattle.ext_tree.specs.Tree.{Node}
use Rattle.ext_tree.specs.declared.Tree.{Tree}
use Rattle.ext_tree.specs.contracts.Tree as tree
use Rattle.entry_list.specs.contracts.Entry as entry
use Rattle.index_state.specs.contracts.State as state
use Rattle.entry_list.specs.Record.{Record, IsPlaced, record_in}
use Rattle.entry_lookup.specs.Lookup.{IsKeyAt}
use Rattle.index_model.specs.Kept.{where_fit}
use Rattle.index_model.specs.Lending.{parts_with_entries, parts_with_entry_at, parts_with_tree}
use Rattle.index_model.specs.Outcome.{no_extension}
use Rattle.index_model.specs.Contents.{Contents}
use Rattle.index_edit.specs.Updates.{AreUnchanged}
use Rattle.index_state.specs.State.{contents, entries_of, records, storage_of}

-- an index of version 2 with no entry and no extension
abbrev pub empty_contents : Kind → FileTime → Contents
empty_contents kind time = record {
  kind = kind;
  time = time;
  version = V2;
  records = [];
  extensions = no_extension;
  fit = true;
}

-- with this time, with this version, or with these records; everything else is unchanged
abbrev pub with_time : Contents → FileTime → Contents
with_time c time = record c { time = time }

abbrev pub with_version : Contents → Version → Contents
with_version c version = record c { version = version }

abbrev pub with_records : Contents → List Record → Contents
with_records c records = record c { records = records }

-- with these records, and extensions that match them or aren't known to; everything else is unchanged
abbrev pub refit : Contents → List Record → Bool → Contents
refit c records fit = record c { records = records; fit = fit }

-- with these records, which the extensions aren't known to match; everything else is unchanged
abbrev pub edited : Contents → List Record → Contents
edited c records = refit c records false

-- With this cache tree. The other extensions about the entries are unchanged if they match them, or else removed if
-- they aren't known to.
abbrev pub with_cached_tree : Contents → Node → Contents
with_cached_tree c t = record c {
  extensions = record c.extensions {
    tree = Some t;
    untracked = where_fit c.fit c.extensions.untracked;
    fs_monitor = where_fit c.fit c.extensions.fs_monitor;
  };
  fit = true;
}

-- without its cache tree, without its link, or without its stages of resolved conflicts; everything else is unchanged
abbrev pub without_tree : Contents → Contents
without_tree c = record c { extensions = record c.extensions { tree = None } }

abbrev pub without_link : Contents → Contents
without_link c = record c { extensions = record c.extensions { link = None } }

-- the value of resolve-undo in memory
abbrev pub undo_of : Vec ResolvePath → List PathStages
undo_of paths = map path_stages paths.items

abbrev pub without_resolve_undo : Contents → Contents
without_resolve_undo c = record c { extensions = record c.extensions { resolve_undo = None } }

-- the record with these parts
abbrev pub record_from_parts : List ℕ → Stat → ObjectId → Flags → Mode → Record
record_from_parts path stat id flags mode =
    record { path = path; stat = stat; id = id; flags = flags.0; mode = mode.0 }

-- one more record at the end, which the extensions don't describe; everything else is unchanged
abbrev pub with_record : Contents → Record → Contents
with_record c r = edited c (c.records ++ r ∷ [])

-- One more entry is at the end, with this record, and its path at the end of the storage. The extensions aren't known
-- to match the entries then. Everything else is unchanged.
pub record AddsEntry (old new : State) (r : Record) : Type 0 where
  pub entry : Entry
  pub entries : entries_of new ≡ entries_of old ++ entry ∷ []
  pub storage : storage_of new ≡ storage_of old ++ r.path
  pub placed : IsPlaced (length (storage_of new)) entry
  pub is : record_in (storage_of new) entry ≡ r
  pub others : contents new ≡ edited (contents old) (records new)

-- as values the same entries, the same storage, and everything else the same
abbrev pub IsUnchanged : State → State → Type 0
IsUnchanged old new = AreUnchanged old.parts new.parts

-- the state with these entries, as many as it has, which the extensions aren't known to match; everything else is
-- unchanged
abbrev pub with_entries : State → List Entry → State
with_entries s entries = record s { parts = parts_with_entries s.parts entries }

-- the state ends with the last entries of the borrow
abbrev pub LendsEntries : MutBor State → MutBor (List Entry) → Fml
LendsEntries s r = Lends state.the_row (Array entry.the_row 0) s r (with_entries s.now)

-- the state with another entry at an index, and extensions that aren't known to match; everything else is unchanged
abbrev pub with_entry_at : State → ℕ → Entry → State
with_entry_at s i e = record s { parts = parts_with_entry_at s.parts i e }

-- The borrowed entry is at an index, with the path and the stage. The state ends with the last entry of the borrow at
-- that index. Without a borrow it ends unchanged.
abbrev pub LendsEntryAt : List ℕ → ℕ → MutBor State → Option (MutBor Entry) → Fml
LendsEntryAt path stage s r =
    LendsSo state.the_row entry.the_row s r
    (λ last e. IfSome r (λ lent. (i : ℕ) × IsKeyAt path stage (records s.now) i
    × (lent.now ≡ slice_index_or (entries_of s.now) i lent.now) × (last ≡ with_entry_at s.now i e)))
    (λ last. IsUnchanged s.now last)

-- the state with this cache tree; everything else is unchanged
abbrev pub with_tree : State → Tree → State
with_tree s t = record s { parts = parts_with_tree s.parts t }

-- the state ends with the last cache tree of the borrow, if there is one; everything else is unchanged
abbrev pub LendsTree : MutBor State → Option (MutBor Tree) → Fml
LendsTree s r = LendsIf state.the_row tree.the_row s r (with_tree s.now) s.now
