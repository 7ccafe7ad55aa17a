-- The result and the effect of a call on a file system, over all that is known of it (the library's own).
use Rattle.std.specs.Prelude.{◌≡◌, ◌⊎◌, ◌≤◌, ◌++◌, ℕ, List, [], codes, length, Bool, true, Option, Some, Result, IfErr}
use Rattle.std.specs.Prelude.{IfOk, OnErr, OnOk}
use Rattle.std.specs.IoError.{error_kind}
use Rattle.std.specs.Path.{path_buf_bytes, path_bytes, path_with_file_name}
use Rattle.std.specs.Global.{Global, Vec}
use Rattle.std.specs.declared.io.Error.{Error as IoError}
use Rattle.std.specs.declared.io.ErrorKind.TheVariants.{OutOfMemory}
use Rattle.std.specs.declared.path.Path.{Path}
use Rattle.std.specs.declared.path.buf.PathBuf.{PathBuf}
use Rattle.entry_fields.specs.declared.entry.stat.FileTime.{FileTime}
use Rattle.file_place.specs.Calls.{FailsAs}
use Rattle.file_place.specs.Locks.{IsCommitted, IsReleased, LeadsTo, CommitCause, LockCause, asked_of, lock_of}
use Rattle.file_place.specs.Locks.{target_of}
use Rattle.file_place.specs.Sizes.{max_len}
use Rattle.file_place.specs.World.{Makes, MayBe, MayBeNoLink, MayLead, Stored}
use Rattle.file_place.specs.declared.folder.Folder.{Ghosts}
use Rattle.file_place.specs.declared.lock.CommitError.{CommitError}
use Rattle.file_place.specs.declared.lock.Error.{Error}
use Rattle.file_place.specs.declared.lock.Lock.{Lock}
use Rattle.file_place.specs.declared.locked.Place.{Place}

-- Whether calls may fail, and whether others may change the files, stays.
pub record KeepsManner {D F M : Type 0} (folder : Ghosts D F M) (old new : D) : Type 0 where
  pub alone : folder.alone new ≡ folder.alone old
  pub works : folder.works new ≡ folder.works old

-- Everything that is known of the file system stays.
pub record LeavesFolder {D F M : Type 0} (folder : Ghosts D F M) (old new : D) : Type 0 where
  pub known : folder.known new ≡ folder.known old
  pub alone : folder.alone new ≡ folder.alone old
  pub guards : folder.guards new ≡ folder.guards old
  pub works : folder.works new ≡ folder.works old

-- ---- reading

-- The result for the file at a path is true of the file that is known to be there.
abbrev pub GivesOfFile : {D F M T : Type 0} → Ghosts D F M → D → Path → Result T IoError → (T → Stored → Type 0)
    → Type 0
GivesOfFile folder now path result P = IfOk result (λ read. MayBe (folder.known now (path_bytes path)) (P read))

-- If calls don't fail, an error is caused by what is known of the path.
abbrev pub FailsAt : {D F M T : Type 0} → Ghosts D F M → D → Path → Result T IoError → Type 0
FailsAt folder now path result = FailsAs (folder.works now) (folder.known now (path_bytes path)) result

-- All bytes of the file at a path, at most those of the longest index, and the time of its last change.
pub record ReadsBytesAt {D F M : Type 0} (folder : Ghosts D F M) (now : D) (path : Path)
    (result : Result (Vec ℕ × FileTime) IoError) : Type 0 where
  pub held : GivesOfFile folder now path result (λ read file. read.0.items ≡ file.bytes)
  pub since : GivesOfFile folder now path result (λ read file. read.1 ≡ file.time)
  pub bound : IfOk result (λ read. length read.0.items ≤ max_len)
  pub fault : FailsAt folder now path result

-- ---- links

-- The target of the link at a path. A relative target is resolved in the directory of the link.
pub record FollowsLink {D F M : Type 0} (folder : Ghosts D F M) (now : D) (link : List ℕ)
    (result : Result (PathBuf Global) IoError) : Type 0 where
  pub next : IfOk result (λ path. (text : List ℕ) × MayLead (folder.known now link) text
      × (path_buf_bytes path ≡ path_with_file_name link text))
  pub fault : folder.works now ≡ true
      → IfErr result (λ e. (error_kind e ≡ OutOfMemory) ⊎ MayBeNoLink (folder.known now link))

-- The file that a path leads to by at most five links.
pub record FindsTarget {D F M : Type 0} (folder : Ghosts D F M) (now : D) (path : List ℕ)
    (result : Result (PathBuf Global) Error) : Type 0 where
  pub leads : IfOk result (λ target. LeadsTo (folder.known now) 5 path (path_buf_bytes target))
  pub fault : IfErr result (LockCause (folder.works now) (folder.known now) path)

-- ---- locks

-- The lock file next to the file that a path leads to was created, or everything known stays.
pub record Acquires {D F M : Type 0} (folder : Ghosts D F M) (bytes_of : M → Option (List ℕ)) (old new : D)
    (path : List ℕ) (result : Result (Lock M) Error) : Type 0 where
  pub asked : IfOk result (λ l. asked_of l.place ≡ path)
  pub target : IfOk result (λ l. LeadsTo (folder.known old) 5 path (target_of l.place))
  pub lock : IfOk result (λ l. lock_of l.place ≡ target_of l.place ++ codes ".lock")
  pub made : IfOk result (λ l. Makes (folder.guards old) (folder.known old) (folder.known new) (lock_of l.place))
  pub empty : IfOk result (λ l. folder.alone old ≡ true → bytes_of l.file ≡ Some [])
  pub unmade : OnErr result (folder.known new ≡ folder.known old)
  pub fault : IfErr result (LockCause (folder.works old) (folder.known old) path)
  pub alone : folder.alone new ≡ folder.alone old
  pub works : folder.works new ≡ folder.works old

-- A lock was released. The path of its file is returned.
pub record Releases {D F M : Type 0} (folder : Ghosts D F M) (old new : D) (lock : List ℕ) (told : PathBuf Global)
    : Type 0 where
  pub path : path_buf_bytes told ≡ lock
  pub released : folder.alone old ≡ true → IsReleased (folder.works old) (folder.known old) (folder.known new) lock
  pub alone : folder.alone new ≡ folder.alone old
  pub works : folder.works new ≡ folder.works old

-- A lock file with these bytes replaced its file, or it was released. If requested, the bytes were on the disk before.
pub record Commits {D F M : Type 0} (folder : Ghosts D F M) (old new : D) (place : Place) (bytes : Option (List ℕ))
    (time : FileTime) (is_synced : Bool) (result : Result (PathBuf Global) CommitError) : Type 0 where
  pub asked : IfOk result (λ path. path_buf_bytes path ≡ asked_of place)
  pub committed : OnOk result (folder.alone old ≡ true
      → IsCommitted (folder.known old) (folder.known new) place bytes time)
  pub synced : OnOk result (is_synced ≡ true → folder.durable new (target_of place))
  pub released : OnErr result (folder.alone old ≡ true
      → IsReleased (folder.works old) (folder.known old) (folder.known new) (lock_of place))
  pub fault : IfErr result (CommitCause (folder.works old) place)
  pub alone : folder.alone new ≡ folder.alone old
  pub works : folder.works new ≡ folder.works old
