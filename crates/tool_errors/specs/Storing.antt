-- How a command locks and replaces the file that it writes, and how such a command fails (the program's own).
use Rattle.std.specs.Prelude.{◌≡◌, ℕ, List, Bool, true, Result, IfErr, IfOk, OnErr}
use Rattle.gix_index.specs.Contents.{Contents}
use Rattle.gix_index.specs.File.{state_of}
use Rattle.gix_index.specs.InPlace.{IsPutSince}
use Rattle.gix_index.specs.State.{contents}
use Rattle.gix_index.specs.WriteFaults.{CommitIndexCause}
use Rattle.gix_index.specs.WriteOptions.{Options}
use Rattle.gix_index.specs.WrittenFile.{IsWrittenTo}
use Rattle.gix_index.specs.declared.file.File.{File}
use Rattle.gix_index.specs.InPlace.Locks.{LeadsTo, Restores, LockCause, asked_of, lock_of, target_of}
use Rattle.gix_index.specs.InPlace.Place.{Place}
use Rattle.gix_index.specs.Disk.World.{Makes, World}
use Rattle.gix_index.specs.OnDisk.FolderTrait.{Ghosts}
use Rattle.tool_errors.specs.declared.failure.Failure.{Failure}
use Rattle.tool_errors.specs.declared.failure.Failure.TheVariants as failures

-- The file that a path leads to is locked, and `place` has the paths that this used.
pub record IsUnderLock (guards : Bool) (old mid : World) (to : List ℕ) (place : Place) : Type 0 where
  pub asked : asked_of place ≡ to
  pub target : LeadsTo old 5 to (target_of place)
  pub made : Makes guards old mid (lock_of place)

-- An index that was read or made under the lock of a file has replaced it, written by these options. What is known to
-- be done to the files is stated if nobody else changes them.
pub record IsReplaced (alone guards : Bool) (old new : World) (to : List ℕ) (Read : World → File → Type 0)
    (chosen : File → Options) : Type 0 where
  pub place : Place
  pub mid : World
  pub locked : IsUnderLock guards old mid to place
  pub index : File
  pub read : Read mid index
  pub written : File
  pub is_written : IsWrittenTo to index written (chosen index)
  pub put : alone ≡ true → IsPutSince mid new place (contents (state_of index)) (chosen index)

-- the file to be written can't be locked, because of the failure's error
abbrev pub FailsLocking : Bool → World → List ℕ → Failure → Type 0
FailsLocking works world to (failures.Lock file fault) = (file.now ≡ to) × LockCause works world to fault
FailsLocking works world to failure = ⊥

-- the file that was locked can't be written, because of the failure's error
abbrev pub FailsCommitting : Bool → Place → Contents → Options → List ℕ → Failure → Type 0
FailsCommitting works place value options to (failures.Rewrite file fault) =
    (file.now ≡ to) × CommitIndexCause works place value options fault
FailsCommitting works place value options to failure = ⊥

-- The file to be written can't be locked; or it can't be written under its lock; or the failure is one of `Fault`.
pub data FailsStoring (works guards : Bool) (old : World) (to : List ℕ) (Fault : World → Failure → Type 0)
    (failure : Failure) : Type 0 where
  unlocked : FailsLocking works old to failure → FailsStoring works guards old to Fault failure
  unwritten : (place : Place) (mid : World) → IsUnderLock guards old mid to place → (value : Contents)
      (options : Options) → FailsCommitting works place value options to failure
      → FailsStoring works guards old to Fault failure
  unread : (place : Place) (mid : World) → IsUnderLock guards old mid to place → Fault mid failure
      → FailsStoring works guards old to Fault failure

-- How a command ends that writes to a path. Either it wrote; or the failure is one of these, and if nobody else changes
-- files, what was there is there as before.
pub record EndsStoring {S F M A : Type 0} (folder : Ghosts S F M) (old new : S) (to : List ℕ) (Written : A → Type 0)
    (Fault : Failure → Type 0) (answer : Result A Failure) : Type 0 where
  pub written : IfOk answer Written
  pub restored : OnErr answer (folder.alone old ≡ true
      → Restores (folder.works old) (folder.known old) (folder.known new) to)
  pub fault : IfErr answer Fault
