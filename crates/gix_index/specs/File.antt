-- A file as a value (the library's own): the index, the bytes of the path, and the id at the end of the file.
use Rattle.std.specs.Prelude.{◌≡◌, ℕ, List, Option, None}
use Rattle.std.specs.Borrow.{Lends, MutBor, Fml}
use Rattle.std.specs.Path.{path_buf_bytes}
use Rattle.index_parts.specs.declared.hash.ObjectId.{ObjectId}
use Rattle.index_state.specs.declared.State.{State}
use Rattle.index_state.specs.contracts.State as state
use Rattle.entry_fields.specs.declared.entry.stat.FileTime.{FileTime}
use Rattle.index_parts.specs.declared.hash.Kind.{Kind}
use Rattle.index_state.specs.Edits.{IsUnchanged, empty_contents}
use Rattle.entry_list.specs.Record.{IdsAreOf}
use Rattle.index_model.specs.Storable.{IsStorable}
use Rattle.index_state.specs.State.{PathsInStorage, contents, entries_of}
use Rattle.gix_index.specs.declared.file.File.{File}
use Rattle.gix_index.specs.contracts.file.File as file

abbrev pub state_of : File → State
state_of f = f.state

abbrev pub path_of : File → List ℕ
path_of f = path_buf_bytes f.path

abbrev pub checksum_of : File → Option ObjectId
checksum_of f = f.checksum

-- the state has the same entries, storage and contents, and the path and the checksum are the same
pub record IsSameFile (old new : File) : Type 0 where
  pub same_state : IsUnchanged (state_of old) (state_of new)
  pub same_path : path_of new ≡ path_of old
  pub same_checksum : checksum_of new ≡ checksum_of old

-- The file has this path. Its state has the properties of every state that is read for ids of this hash algorithm.
pub record IsFileOf (at : List ℕ) (kind : Kind) (f : File) : Type 0 where
  pub path : path_of f ≡ at
  pub placed : PathsInStorage (state_of f)
  pub ids : IdsAreOf kind (entries_of (state_of f))
  pub storable : IsStorable (contents (state_of f))

-- The file has this path and links to no shared index. Its state has the properties of every state that is read for ids
-- of this hash algorithm.
pub record IsWholeFile (at : List ℕ) (kind : Kind) (f : File) : Type 0 where
  pub path : path_of f ≡ at
  pub placed : PathsInStorage (state_of f)
  pub ids : IdsAreOf kind (entries_of (state_of f))
  pub storable : IsStorable (contents (state_of f))
  pub unlinked : (contents (state_of f)).extensions.link ≡ None

-- an empty index for this hash algorithm with this time, which is in no file
abbrev pub IsEmptyFile : Kind → FileTime → File → Type 0
IsEmptyFile kind time f = (contents (state_of f) ≡ empty_contents kind time) × (checksum_of f ≡ None)

-- the file ends with the last state of the borrow, and everything else is unchanged
abbrev pub LendsState : MutBor File → MutBor State → Fml
LendsState f r = Lends file.the_row state.the_row f r (λ s. record f.now { state = s })
