-- A lock as a value, the file that it locks, and why there is no lock (the library's own).
use Rattle.std.specs.Prelude.{◌≡◌, ◌≢◌, ◌⊎◌, ◌<◌, ◌≤◌, ℕ, zero, suc, List, [], ◌++◌, codes, Bool, true, Option, IfSome}
use Rattle.std.specs.IoError.{error_kind}
use Rattle.std.specs.Path.{path_buf_bytes, path_with_file_name}
use Rattle.std.specs.declared.io.Error.{Error as IoError}
use Rattle.std.specs.declared.io.ErrorKind.TheVariants.{OutOfMemory}
use Rattle.file_place.specs.Times.{is_known_time}
use Rattle.file_place.specs.World.{Known, World, Unknown, Absent, Holds, Leads, Directory, Special, IsSeen, MayBeTaken}
use Rattle.file_place.specs.World.{MayLead, Removes, StaysBut, Stored}
use Rattle.file_place.specs.declared.fault.PathError.{PathError}
use Rattle.file_place.specs.declared.folder.Standing.{Standing}
use Rattle.file_place.specs.declared.folder.Standing.TheVariants as standings
use Rattle.file_place.specs.declared.lock.Error.{Error}
use Rattle.file_place.specs.declared.lock.CommitError.{CommitError}
use Rattle.file_place.specs.declared.lock.CommitError.TheVariants as commits
use Rattle.file_place.specs.declared.lock.Error.TheVariants as errors
use Rattle.file_place.specs.declared.locked.Place.{Place}
use Rattle.entry_fields.specs.declared.entry.stat.FileTime.{FileTime}

-- The path that was asked for, the path of the file that it leads to, and the path of the lock file next to that.
abbrev pub asked_of : Place → List ℕ
asked_of place = path_buf_bytes place.asked

abbrev pub target_of : Place → List ℕ
target_of place = path_buf_bytes place.target

abbrev pub lock_of : Place → List ℕ
lock_of place = path_buf_bytes place.path

-- ---- links

-- A regular file may be there, or nothing.
abbrev pub MayEnd : Known → Type 0
MayEnd Unknown = Unit {0}
MayEnd Absent = Unit {0}
MayEnd (Holds file) = Unit {0}
MayEnd (Leads to) = ⊥
MayEnd Directory = ⊥
MayEnd Special = ⊥

-- This number of symbolic links, one after another, leads from a path to another. A relative link is resolved in its
-- directory.
pub data IsLinkChain (world : World) (path : List ℕ) : ℕ → List ℕ → Type 0 where
  here : (at : List ℕ) → at ≡ path → IsLinkChain world path zero at
  on : (links : ℕ) (at text next : List ℕ) → IsLinkChain world path links at → MayLead (world at) text
      → next ≡ path_with_file_name at text → IsLinkChain world path (suc links) next

-- A path leads to another by at most this number of links. If nothing is at the path, no link leads from it.
pub record LeadsTo (world : World) (most : ℕ) (path target : List ℕ) : Type 0 where
  pub links : ℕ
  pub few : links ≤ most
  pub follows : IsLinkChain world path links target
  pub ends : MayEnd (world target)
  pub nowhere : world target ≡ Absent → links ≡ 0

-- At most five links, this number, lead from a path to a path at which this type is seen.
pub record Meets (world : World) (path : List ℕ) (standing : Standing) (links : ℕ) (at : List ℕ) : Type 0 where
  pub few : links ≤ 5
  pub follows : IsLinkChain world path links at
  pub seen : IsSeen (world at) standing

-- ---- errors

-- An error of the disk: not an allocation failure.
abbrev pub IsOfDisk : PathError → Type 0
IsOfDisk fault = error_kind fault.error ≢ OutOfMemory

-- The path is that of the lock file of the file that a path leads to.
abbrev pub IsLockOf : World → List ℕ → List ℕ → Type 0
IsLockOf world path lock = (target : List ℕ) × LeadsTo world 5 path target × (lock ≡ target ++ codes ".lock")

-- An error of the disk for a file that a path leads to, or for its lock file. If calls don't fail, then the path is
-- empty, or what is there isn't known, because others may have changed it.
pub record IsFaultOfLock (works : Bool) (world : World) (path : List ℕ) (fault : PathError) : Type 0 where
  pub disk : IsOfDisk fault
  pub named : ((links : ℕ) × IsLinkChain world path links (path_buf_bytes fault.path))
      ⊎ IsLockOf world path (path_buf_bytes fault.path)
  pub fails : works ≡ true → (path ≡ []) ⊎ (world (path_buf_bytes fault.path) ≡ Unknown)

-- Why the file that a path leads to has no lock: what is at the path that the error names. Allocation failure has a
-- variant of its own.
abbrev pub LockCause : Bool → World → List ℕ → Error → Type 0
LockCause works world path (errors.Io fault) = IsFaultOfLock works world path fault
LockCause works world path (errors.Held lock) =
    IsLockOf world path (path_buf_bytes lock) × MayBeTaken (world (path_buf_bytes lock))
LockCause works world path (errors.IsFolder at) =
    (links : ℕ) × Meets world path standings.Folder links (path_buf_bytes at)
LockCause works world path (errors.IsSpecial at) =
    (links : ℕ) × Meets world path standings.Special links (path_buf_bytes at)
LockCause works world path (errors.LeadsNowhere at) = (path_buf_bytes at ≡ path)
    × ((links : ℕ) × (end : List ℕ) × (0 < links) × Meets world path standings.Nothing links end)
LockCause works world path (errors.TooManyLinks at) = (path_buf_bytes at ≡ path)
    × ((end : List ℕ) × IsLinkChain world path 6 end)
LockCause works world path errors.Memory = Unit {0}

-- The error describes a failed call for each file system and path. The call was for a file that the path leads to, or
-- for its lock file. If calls don't fail, memory ran out, or what is there isn't known.
abbrev pub LockStepCause : List ℕ → IoError → Error → Type 0
LockStepCause at error e =
    (works : Bool) (world : World) (path : List ℕ)
    → ((links : ℕ) × IsLinkChain world path links at) ⊎ IsLockOf world path at
    → (works ≡ true → (error_kind error ≡ OutOfMemory) ⊎ ((path ≡ []) ⊎ (world at ≡ Unknown)))
    → LockCause works world path e

-- Why the locked file wasn't replaced: an error of the disk for the lock file or for the path of the locked file. If
-- calls don't fail, only an allocation failure.
abbrev pub CommitCause : Bool → Place → CommitError → Type 0
CommitCause works place (commits.Lock fault) = (path_buf_bytes fault.path ≡ lock_of place) × (works ≢ true)
CommitCause works place (commits.Rename fault) = (path_buf_bytes fault.path ≡ target_of place)
    × (works ≡ true → error_kind fault.error ≡ OutOfMemory)

-- ---- the end of a lock

-- The lock file is gone and everything else is as it was. If calls may fail, everything may be as it was.
abbrev pub IsReleased : Bool → World → World → List ℕ → Type 0
IsReleased works old new lock = Removes old new lock ⊎ ((works ≢ true) × (new ≡ old))

-- The lock file replaced the locked file. The file has these bytes, if they are known. It has this time, if git takes
-- the time for known.
pub record IsCommitted (old new : World) (place : Place) (bytes : Option (List ℕ)) (time : FileTime) : Type 0 where
  pub file : Stored
  pub here : new (target_of place) ≡ Holds file
  pub are_bytes : IfSome bytes (λ bs. file.bytes ≡ bs)
  pub is_time : is_known_time time ≡ true → file.time ≡ time
  pub unlocked : new (lock_of place) ≡ Absent
  pub others : StaysBut (λ p. (p ≡ lock_of place) ⊎ (p ≡ target_of place)) old new

-- What is known of all paths stays. There is one exception, if calls may fail: the lock file of the file that this path
-- leads to may be there.
abbrev pub Restores : Bool → World → World → List ℕ → Type 0
Restores works old new path =
    StaysBut (λ p. (works ≢ true) × ((target : List ℕ) × LeadsTo old 5 path target × (p ≡ target ++ codes ".lock"))) old new
