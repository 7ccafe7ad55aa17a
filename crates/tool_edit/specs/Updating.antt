-- Why the program makes nothing of an index by the changes in a text, and what each of its calls returns (the program's
-- own).
use Rattle.std.specs.Prelude.{◌≡◌, ℕ, Bool, List, Some, map, length, Result, IfErr, OnOk}
use Rattle.gix_index.specs.Changing.Changes.{first_rejection}
use Rattle.gix_index.specs.Changing.Wholes.{refusal_among}
use Rattle.gix_index.specs.Changing.Change.{Change}
use Rattle.gix_index.specs.Changing.ApplyError.TheVariants.{Refused}
use Rattle.gix_index.specs.Changing.Error.{Error as Refusal}
use Rattle.gix_index.specs.Contents.{Contents}
use Rattle.gix_index.specs.Disk.{MayHave}
use Rattle.gix_index.specs.Disk.World.{World}
use Rattle.gix_index.specs.File.{state_of}
use Rattle.gix_index.specs.Kind.{Kind}
use Rattle.gix_index.specs.State.{PathsInStorage, contents, storage_of}
use Rattle.gix_index.specs.StateType.{State}
use Rattle.gix_index.specs.declared.file.File.{File}
use Rattle.entry_info.specs.Names as names
use Rattle.entry_info.specs.Text.{AreSaid, InfoTextCause, change_value}
use Rattle.tool_errors.specs.Calls.{FailsToRead, GivesIndex}
use Rattle.gix_index.specs.OnDisk.FolderTrait.{Ghosts as Folder}
use Rattle.tool_errors.specs.declared.failure.Failure.{Failure}
use Rattle.tool_errors.specs.declared.failure.Failure.TheVariants as failures
use Rattle.tool_errors.specs.Reading.{FailsReading, BytesCause, IndexReadCause}
use Rattle.tool_errors.specs.Storing.{EndsStoring, FailsStoring, IsReplaced}
use Rattle.tool_edit.specs.Checking.{IsOfEntries}
use Rattle.tool_edit.specs.Rewriting.{chosen_options}
use Rattle.tool_edit.specs.Updated.{IsBegun, IsUpdatedBy, IsUpdatedIn}
use Rattle.tool_edit.specs.declared.rewrite.Form.TheVariants.{AsRead}

-- The change of the line at an index, counted from 0, is the first that is rejected in this value, for this reason. The
-- storage of paths has `room` bytes.
pub record IsRefusedAt (nul : Bool) (kind : Kind) (text : List ℕ) (room : ℕ) (among : Contents) (at : ℕ)
    (cause : Refusal) : Type 0 where
  pub changes : List Change
  pub said : AreSaid nul kind text (map change_value changes)
  pub is : refusal_among (first_rejection names.name_rejection among.kind room changes) changes among.records
      ≡ Some (Refused at cause)

-- a failure of a text has what is wrong with it, or which of its changes is rejected
abbrev pub IsOfText : Bool → Kind → List ℕ → ℕ → Contents → List ℕ → Failure → Type 0
IsOfText nul kind text room among from (failures.Lines file fault) = (file.now ≡ from)
    × InfoTextCause nul kind text fault
IsOfText nul kind text room among from (failures.Change file at cause) =
    (file.now ≡ from) × IsRefusedAt nul kind text room among at cause
IsOfText nul kind text room among from failure = ⊥

-- a failure of the text in a file, for the index at a path or an empty one
pub record IsOfTextIn (nul : Bool) (world : World) (kind : Kind) (from path : List ℕ) (failure : Failure) : Type 0 where
  pub before : Contents
  pub begun : IsBegun world path kind before
  pub text : List ℕ
  pub held : MayHave (world from) text
  pub room : ℕ
  pub is : IsOfText nul kind text room before from failure

-- a failure of the order of the entries of the index in a file; an empty one has none
pub record IsOfEntriesIn (world : World) (kind : Kind) (path : List ℕ) (failure : Failure) : Type 0 where
  pub value : Contents
  pub begun : IsBegun world path kind value
  pub is : IsOfEntries value.records path failure

-- Nothing is changed: the index can't be read, or its entries aren't in order; or the text can't be read, or is invalid
-- or rejected.
pub data FailsToUpdate (nul works : Bool) (world : World) (kind : Kind) (from path : List ℕ) (failure : Failure) : Type 0 where
  unread : FailsReading (IndexReadCause works world kind path) path failure
      → FailsToUpdate nul works world kind from path failure
  unordered : IsOfEntriesIn world kind path failure → FailsToUpdate nul works world kind from path failure
  unsaid : FailsReading (BytesCause works world from) from failure
      → FailsToUpdate nul works world kind from path failure
  refused : IsOfTextIn nul world kind from path failure → FailsToUpdate nul works world kind from path failure

-- the index was read under its lock, and was replaced by what the text makes of it
abbrev pub Updates : Bool → Bool → Bool → Kind → World → World → List ℕ → List ℕ → List ℕ → Type 0
Updates alone guards nul kind old new from path to = IsReplaced alone guards old new to
    (λ world index. IsUpdatedIn nul world from path kind (contents (state_of index))) (chosen_options AsRead)

-- the index isn't written, or not made
abbrev pub FailsToStoreUpdate : Bool → Bool → Bool → Kind → World → List ℕ → List ℕ → List ℕ → Failure → Type 0
FailsToStoreUpdate nul works guards kind old from path to failure =
    FailsStoring works guards old to (λ world. FailsToUpdate nul works world kind from path) failure

-- ---- what each call returns

-- the index in the file at a path of a folder, or an empty one; or why it can't be read
abbrev pub BeginsIndex : {S F M : Type 0} → Folder S F M → S → Kind → List ℕ → Result File Failure → Type 0
BeginsIndex folder now kind path answer = GivesIndex
    (λ index. IsBegun (folder.known now) path kind (contents (state_of index))) (FailsToRead folder now kind path) answer

-- The state has the changes of a text in a file, if its paths are in its storage. They are in its storage afterwards
-- too. Or the failure has what is wrong with the text.
pub record ChangesState (nul : Bool) (kind : Kind) (text from : List ℕ) (old new : State)
    (answer : Result (Unit {0}) Failure) : Type 0 where
  pub updated : OnOk answer (PathsInStorage old
      → IsUpdatedBy nul kind text (length (storage_of old)) (contents old) (contents new))
  pub placed : PathsInStorage old → PathsInStorage new
  pub fault : IfErr answer (IsOfText nul kind text (length (storage_of old)) (contents old) from)

-- the index at a path, or an empty one, with the changes of the text in a file; or why there is none
abbrev pub GivesUpdated : {S F M : Type 0} → Bool → Folder S F M → S → Kind → List ℕ → List ℕ → Result File Failure
    → Type 0
GivesUpdated nul folder now kind from path answer = GivesIndex
    (λ index. IsUpdatedIn nul (folder.known now) from path kind (contents (state_of index)))
    (FailsToUpdate nul (folder.works now) (folder.known now) kind from path) answer

-- the index with the changes replaces the file, or why it doesn't
abbrev pub UpdatesIndex : {S F M : Type 0} → Bool → Folder S F M → S → S → Kind → List ℕ → List ℕ → List ℕ
    → Result (Unit {0}) Failure → Type 0
UpdatesIndex nul folder old new kind from path to answer = EndsStoring folder old new to
    (λ done. Updates (folder.alone old) (folder.guards old) nul kind (folder.known old) (folder.known new) from path to)
    (FailsToStoreUpdate nul (folder.works old) (folder.guards old) kind (folder.known old) from path to) answer
