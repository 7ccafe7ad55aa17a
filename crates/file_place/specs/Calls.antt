-- The result and the effect of a call on an open file or on a file system. They are functions of what is known of the
-- states before and after (the library's own).
use Rattle.std.specs.Prelude.{◌≡◌, ◌⊎◌, ℕ, List, [], Bool, true, Option, Some, Result, IfErr, IfOk, IfSome, IsOk}
use Rattle.std.specs.Prelude.{OnErr, OnOk}
use Rattle.std.specs.Io.{ReadsAtMost}
use Rattle.std.specs.Io.KnownBytes.{ReadConsumes}
use Rattle.std.specs.IoError.{error_kind}
use Rattle.std.specs.Path.{path_buf_bytes, path_bytes}
use Rattle.std.specs.Global.{Global}
use Rattle.std.specs.declared.io.Error.{Error}
use Rattle.std.specs.declared.io.ErrorKind.TheVariants.{AlreadyExists, NotFound, OutOfMemory}
use Rattle.std.specs.declared.path.Path.{Path}
use Rattle.std.specs.declared.path.buf.PathBuf.{PathBuf}
use Rattle.entry_fields.specs.declared.entry.stat.FileTime.{FileTime}
use Rattle.file_place.specs.World.{IsFaultOf, IsSeen, IsStatusOf, Known, Makes, MayBe, MayBeMissing, MayBeNoLink}
use Rattle.file_place.specs.World.{MayBeTaken, MayLead, Removes, Stored, World, from_place}
use Rattle.file_place.specs.declared.folder.Standing.{Standing}
use Rattle.file_place.specs.declared.folder.Status.{Status}

-- ---- open files

-- A read returned some of the next bytes. It fails only if calls may fail.
pub record ReadsSome {S : Type 0} (rest_of : S → Option (List ℕ)) (file_of : S → Option Stored) (works_at : S → Bool)
    (old new : S) (result : Result ℕ Error) (room : List ℕ) : Type 0 where
  pub bound : ReadsAtMost result room
  pub bytes : ReadConsumes (rest_of old) (rest_of new) result room
  pub stored : file_of new ≡ file_of old
  pub works : works_at new ≡ works_at old
  pub succeeds : works_at old ≡ true → IsOk result

-- The file is at an offset now.
pub record GoesTo {S : Type 0} (place : ℕ) (rest_of : S → Option (List ℕ)) (file_of : S → Option Stored)
    (works_at : S → Bool) (old new : S) (result : Result (Unit {0}) Error) : Type 0 where
  pub remaining : OnOk result (rest_of new ≡ from_place place (file_of new))
  pub stored : file_of new ≡ file_of old
  pub works : works_at new ≡ works_at old
  pub succeeds : works_at old ≡ true → IsOk result

-- The status of the file is true of the file.
pub record ReadsStatus (stored : Option Stored) (works : Bool) (result : Result Status Error) : Type 0 where
  pub told : IfOk result (λ status. IfSome stored (IsStatusOf status))
  pub succeeds : works ≡ true → IsOk result

-- ---- what is at a path

-- The type of what is at the path is reported.
pub record Sees (works : Bool) (known : Known) (result : Result Standing Error) : Type 0 where
  pub seen : IfOk result (IsSeen known)
  pub succeeds : works ≡ true → IsOk result

-- The text of the link is returned. If calls don't fail, the call fails only if memory runs out, or if no link may be
-- there.
pub record ReadsLink (works : Bool) (known : Known) (result : Result (PathBuf Global) Error) : Type 0 where
  pub leads : IfOk result (λ to. MayLead known (path_buf_bytes to))
  pub fault : works ≡ true → IfErr result (λ e. (error_kind e ≡ OutOfMemory) ⊎ MayBeNoLink known)

-- The opened file is the one that is known to be there.
abbrev pub OpensAs : {F : Type 0} → Known → (F → Option Stored) → Result F Error → Type 0
OpensAs known file_of result = IfOk result (λ file. MayBe known (λ there. file_of file ≡ Some there))

-- If the error is that no file is there, then none may be there.
abbrev pub MayLack : Known → Error → Type 0
MayLack known e = error_kind e ≡ NotFound → MayBeMissing known

-- If calls don't fail, an error is caused by what is there.
abbrev pub FailsAs : {T : Type 0} → Bool → Known → Result T Error → Type 0
FailsAs works known result = works ≡ true → IfErr result (IsFaultOf known)

-- ---- changes

-- A new file was created at a path that was free, or everything known stays.
pub record MakesFile {D M : Type 0} (world_of : D → World) (alone_at guards_at works_at : D → Bool)
    (bytes_of : M → Option (List ℕ)) (old new : D) (path : Path) (result : Result M Error) : Type 0 where
  pub made : OnOk result (Makes (guards_at old) (world_of old) (world_of new) (path_bytes path))
  pub empty : IfOk result (λ file. alone_at old ≡ true → bytes_of file ≡ Some [])
  pub unmade : OnErr result (world_of new ≡ world_of old)
  pub taken : IfErr result (λ e. error_kind e ≡ AlreadyExists → MayBeTaken (world_of old (path_bytes path)))
  pub fault : works_at old ≡ true → IfErr result (λ e. (error_kind e ≡ OutOfMemory) ⊎ (error_kind e ≡ AlreadyExists))
  pub alone : alone_at new ≡ alone_at old
  pub works : works_at new ≡ works_at old

-- The file at a path was removed, or everything known stays.
pub record RemovesFile {D : Type 0} (world_of : D → World) (alone_at works_at : D → Bool) (old new : D) (path : Path)
    (result : Result (Unit {0}) Error) : Type 0 where
  pub removed : OnOk result (alone_at old ≡ true → Removes (world_of old) (world_of new) (path_bytes path))
  pub unmoved : OnErr result (world_of new ≡ world_of old)
  pub succeeds : works_at old ≡ true → IsOk result
  pub alone : alone_at new ≡ alone_at old
  pub works : works_at new ≡ works_at old

-- The bytes of a new file and the time of its last change stay.
pub record KeepsMade {M : Type 0} (bytes_of : M → Option (List ℕ)) (Changed : M → FileTime → Type 0) (old new : M)
    (works : Bool) (result : Result (Unit {0}) Error) : Type 0 where
  pub contents : bytes_of new ≡ bytes_of old
  pub kept : (time : FileTime) → Changed old time → Changed new time
  pub ungiven : (time : FileTime) → Changed new time → Changed old time
  pub succeeds : works ≡ true → IsOk result

-- The bytes of a new file stay. It was given the time, and no other.
pub record GivesTime {M : Type 0} (bytes_of : M → Option (List ℕ)) (Changed : M → FileTime → Type 0) (old new : M)
    (works : Bool) (time : FileTime) (result : Result (Unit {0}) Error) : Type 0 where
  pub contents : bytes_of new ≡ bytes_of old
  pub given : OnOk result (Changed new time)
  pub alone : (other : FileTime) → Changed new other → (other ≡ time) ⊎ Changed old other
  pub succeeds : works ≡ true → IsOk result
