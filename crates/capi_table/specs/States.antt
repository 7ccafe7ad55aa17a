-- What a call that reads a state returns, and what one that changes it leaves (the library's own).
use Rattle.std.specs.Prelude.{◌≡◌, ℕ, ◌++◌, Bool, false, List, length, Option, Ok, Result, IfErr, IfOk, OnOk, MatchOption}
use Rattle.gix_index.specs.Contents.{Contents}
use Rattle.gix_index.specs.Edits.{refit, with_cached_tree}
use Rattle.gix_index.specs.EntryImage.{written}
use Rattle.gix_index.specs.FileFaults.ReadError.{Error as ReadError}
use Rattle.gix_index.specs.Kind.{Kind}
use Rattle.gix_index.specs.Link.{LinkValue}
use Rattle.gix_index.specs.ObjectId.{ObjectId}
use Rattle.gix_index.specs.State.{PathsInStorage, contents, records, storage_of}
use Rattle.gix_index.specs.StateType.{State}
use Rattle.gix_index.specs.Storable.{IsStorable}
use Rattle.capi_table.specs.Joining.{AreReadSo, FailBoth, FailsJoined, IsJoinedBy}
use Rattle.capi_table.specs.Reading.{BytesEndAs, FailsSo}
use Rattle.capi_table.specs.Refusing.{MakesNothing}
use Rattle.capi_table.specs.Table.{records_of}
use Rattle.capi_table.specs.Updating.{IsChangedBy}
use Rattle.capi_table.specs.Writing.{IsSpelledBy}
use Rattle.capi_table.specs.declared.fault.Failure.{Failure}
use Rattle.capi_table.specs.declared.row.Row.{Row}
use Rattle.capi_table.specs.declared.write.Unwritten.{Unwritten}

-- ---- what is read

-- The result is a state that can be in a file, whose paths are in its storage, and a predicate holds of its value. Or
-- it is why there is none.
pub record GivesState {E : Type 0} (P : Contents → Type 0) (Fails : E → Type 0) (r : Result State E) : Type 0 where
  pub read : IfOk r (λ state. P (contents state))
  pub placed : IfOk r PathsInStorage
  pub storable : IfOk r (λ state. IsStorable (contents state))
  pub failed : IfErr r Fails

-- the index of these bytes, whose trailer must be the id `expected`, if there is one, unless it is null
abbrev pub ReadsState : Option ObjectId → Bool → Kind → List ℕ → Result State ReadError → Type 0
ReadsState expected skip kind bytes r =
    GivesState (λ v. (checksum : Option ObjectId) × BytesEndAs expected skip kind bytes (Ok (v, checksum)))
    (FailsSo expected skip kind bytes) r

-- the state that a table spells, whose paths are in its storage
pub record SpellsState {E : Type 0} (kind : Kind) (paths : List ℕ) (rows : List Row) (r : Result State E) : Type 0 where
  pub spelled : IfOk r (λ state. IsSpelledBy kind paths rows (contents state))
  pub placed : IfOk r PathsInStorage

-- the result of joining a value to the shared index of these bytes by the link that it had
abbrev pub JoinsBy : Bool → Kind → LinkValue → List ℕ → Contents → Result State Failure → Type 0
JoinsBy skip kind link shared split r =
    GivesState (λ v. IsJoinedBy skip kind link shared (λ w. w ≡ v) split) (FailsJoined skip kind link shared split) r

-- the index of these bytes, joined to the shared index that they link to
abbrev pub ReadsBoth : Bool → Kind → List ℕ → List ℕ → Result State Failure → Type 0
ReadsBoth skip kind bytes shared r =
    GivesState (λ v. AreReadSo skip kind bytes shared (λ w. w ≡ v)) (FailBoth skip kind bytes shared) r

-- ---- what is changed

-- After an Ok, the records of the rows that aren't left out follow those that were there, whose paths are in storage.
-- If there are any, the extensions aren't known to fit them.
pub record PushesRows {E : Type 0} (paths : List ℕ) (rows : List Row) (old new : State) (r : Result (Unit {0}) E)
    : Type 0 where
  pub value : OnOk r (PathsInStorage old → contents new
      ≡ refit (contents old) (records old ++ written (records_of paths rows)) (contents new).fit)
  pub unfit : (contents old).fit ≡ false → (contents new).fit ≡ false
  pub placed : OnOk r (PathsInStorage old → PathsInStorage new)

-- the value's cache tree, if it has one, is set again to itself
abbrev pub PutsTreeAnew : Contents → Contents → Type 0
PutsTreeAnew v w = MatchOption v.extensions.tree (w ≡ v) (λ t. w ≡ with_cached_tree v t)

-- all changes of the rows are made in a state whose paths are in storage, or none, and then why
pub record MakesChanges (kind : Kind) (paths : List ℕ) (rows : List Row) (old new : State)
    (r : Result (Unit {0}) Unwritten) : Type 0 where
  pub changed : OnOk r (PathsInStorage old
      → IsChangedBy kind paths rows (length (storage_of old)) (contents old) (contents new))
  pub why : IfErr r (MakesNothing kind paths rows (length (storage_of old)) (contents old))
