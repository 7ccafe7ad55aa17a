-- The value of a state: an index (the library's own).
use Rattle.std.specs.Prelude.{ℕ, List}
use Rattle.index_parts.specs.declared.hash.Kind.{Kind}
use Rattle.entry_list.specs.Record.{IdsAreOf, Record}
use Rattle.entry_list.specs.declared.Entry.{Entry}
use Rattle.index_model.specs.Contents.{Contents, PartsInStorage, parts_contents, parts_entries, parts_records}
use Rattle.index_model.specs.Contents.{parts_storage}
use Rattle.index_model.specs.Storable.{IsStorable}
use Rattle.index_state.specs.declared.State.{State}

abbrev pub entries_of : State → List Entry
entries_of s = parts_entries s.parts

abbrev pub storage_of : State → List ℕ
storage_of s = parts_storage s.parts

abbrev pub records : State → List Record
records s = parts_records s.parts

abbrev pub contents : State → Contents
contents s = parts_contents s.parts

-- each entry's path is inside the storage
abbrev pub PathsInStorage : State → Type 0
PathsInStorage s = PartsInStorage s.parts

-- The state has the properties of every state that is read for ids of this hash algorithm. Each entry's path is inside
-- the storage, each id is of the algorithm, and a file can store the state.
pub record IsWellFormed (kind : Kind) (s : State) : Type 0 where
  pub placed : PathsInStorage s
  pub ids : IdsAreOf kind (entries_of s)
  pub storable : IsStorable (contents s)

-- if a file can store the one state, it can store the other
abbrev pub KeepsStorable : State → State → Type 0
KeepsStorable old new = IsStorable (contents old) → IsStorable (contents new)
