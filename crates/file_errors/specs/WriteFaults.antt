-- Why a file isn't replaced by an index (the library's own).
use Rattle.std.specs.Prelude.{◌≡◌, ◌≢◌, ◌⊎◌, ◌++◌, codes, ℕ, Bool, true, List, Option, Some, None}
use Rattle.std.specs.IoError.{error_kind}
use Rattle.std.specs.Path.{path_buf_bytes}
use Rattle.std.specs.declared.io.Error.{Error as IoError}
use Rattle.std.specs.declared.io.ErrorKind.TheVariants.{OutOfMemory}
use Rattle.file_place.specs.Locks.{IsOfDisk, lock_of, target_of}
use Rattle.file_place.specs.World.{Known, MayBeTaken, World}
use Rattle.file_place.specs.declared.fault.PathError.{PathError}
use Rattle.file_place.specs.declared.lock.Place.{Place}
use Rattle.index_model.specs.Contents.{Contents}
use Rattle.index_model.specs.Writing.{RefusedWith}
use Rattle.index_model.specs.declared.write.Error.{Error as PutError}
use Rattle.index_model.specs.declared.write.Error.TheVariants as puts
use Rattle.index_model.specs.declared.write.Options.{Options}
use Rattle.file_errors.specs.declared.write.Error.{Error}
use Rattle.file_errors.specs.declared.write.Error.TheVariants as writes
use Rattle.file_errors.specs.declared.write.Step.{Step}
use Rattle.file_errors.specs.declared.write.Step.TheVariants as steps

-- An index is rejected with an error only if that error applies to it. Nothing is stated of an error of the writer.
abbrev pub WriteErrorCause : Contents → Options → PutError → Type 0
WriteErrorCause v options (puts.Io e) = Unit {0}
WriteErrorCause v options puts.TooManyEntries = RefusedWith v options puts.TooManyEntries
WriteErrorCause v options puts.NulInPath = RefusedWith v options puts.NulInPath
WriteErrorCause v options puts.TooLarge = RefusedWith v options puts.TooLarge

-- An error of the disk that names this path.
abbrev pub IsOfPath : List ℕ → PathError → Type 0
IsOfPath path fault = IsOfDisk fault × (path_buf_bytes fault.path ≡ path)

-- Why an index isn't written to this lock file, and so not to this path. If calls don't fail, a lock file that is to be
-- created may exist already, and an existing one can replace the file. Nothing more is stated of an error while bytes
-- are written: writers don't report when they fail. Nothing is stated of an allocation failure.
abbrev pub ReplaceCause : Option Known → Bool → List ℕ → List ℕ → Contents → Options → Error → Type 0
ReplaceCause before works lock path v options (writes.Io fault) = IsOfPath lock fault
ReplaceCause None works lock path v options (writes.AcquireLock fault) = ⊥
ReplaceCause (Some there) works lock path v options (writes.AcquireLock fault) =
    IsOfPath lock fault × (works ≡ true → MayBeTaken there)
ReplaceCause before works lock path v options (writes.CommitLock fault) =
    IsOfPath path fault × (works ≢ true)
ReplaceCause before works lock path v options writes.TooManyEntries = RefusedWith v options puts.TooManyEntries
ReplaceCause before works lock path v options writes.NulInPath = RefusedWith v options puts.NulInPath
ReplaceCause before works lock path v options writes.TooLarge = RefusedWith v options puts.TooLarge
ReplaceCause before works lock path v options writes.Memory = Unit {0}

-- Why an index isn't written to a path, if the lock file is created for it.
abbrev pub WriteCause : Bool → World → List ℕ → Contents → Options → Error → Type 0
WriteCause works world path v options e =
    ReplaceCause (Some (world (path ++ codes ".lock"))) works (path ++ codes ".lock") path v options e

-- Why an index isn't written to a path, if the lock file was created before.
abbrev pub CommitIndexCause : Bool → Place → Contents → Options → Error → Type 0
CommitIndexCause works place v options e =
    ReplaceCause None works (lock_of place) (target_of place) v options e

-- The errors with which a step may fail for a path.
abbrev pub MayFail : Step → Option Known → Bool → List ℕ → List ℕ → List ℕ → IoError → Type 0
MayFail steps.Lock None works lock path at e = ⊥
MayFail steps.Lock (Some there) works lock path at e =
    (at ≡ lock) × (works ≡ true → (error_kind e ≡ OutOfMemory) ⊎ MayBeTaken there)
MayFail steps.Put before works lock path at e = at ≡ lock
MayFail steps.Commit before works lock path at e = (at ≡ path) × (works ≡ true → error_kind e ≡ OutOfMemory)

-- ---- errors for any lock, path and index

-- The error describes the failed step, for each lock, path and index for which the step may fail so.
abbrev pub WriteStepCause : Step → List ℕ → IoError → Error → Type 0
WriteStepCause step at error e =
    (before : Option Known) (works : Bool) (lock target : List ℕ) (v : Contents) (options : Options)
    → MayFail step before works lock target at error → ReplaceCause before works lock target v options e

-- The error describes the failed write to this lock file, for each path and index for which the write may fail so.
abbrev pub LockWriteCause : List ℕ → PutError → Error → Type 0
LockWriteCause lock error e =
    (before : Option Known) (works : Bool) (target : List ℕ) (v : Contents) (options : Options)
    → WriteErrorCause v options error → ReplaceCause before works lock target v options e
