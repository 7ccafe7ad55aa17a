-- Why an index isn't read from a file (gitformat-index, "Split index"; the library's own).
pub use Rattle.file_errors.specs.ReadErrors
pub use Rattle.file_errors.specs.declared.init.Error as ReadError
use Rattle.std.specs.Prelude.{◌≡◌, ◌⊎◌, ◌++◌, codes, ℕ, Bool, true, List, Option, Some, Err}
use Rattle.index_parts.specs.declared.hash.Kind.{Kind}
use Rattle.index_parts.specs.declared.hash.ObjectId.{ObjectId}
use Rattle.entry_fields.specs.declared.entry.stat.FileTime.{FileTime}
use Rattle.ext_split.specs.Link.{LinkFault, LinkValue, link_fault}
use Rattle.ext_split.specs.declared.link.decode.Error.{Error as LinkError}
use Rattle.index_model.specs.Contents.{Contents}
use Rattle.index_model.specs.declared.decode.Options.{Options as ReadOptions}
use Rattle.index_model.specs.declared.error.Error.{Error as DecodeError}
use Rattle.index_state.specs.Dissolve.{IsDissolveFault}
use Rattle.index_state.specs.Edits.{without_link}
use Rattle.gix_index.specs.Checked.{IsFileAnswer, FileCause}
use Rattle.gix_index.specs.Disk.{Disk, MayHave, disk_beside, shared_path}
use Rattle.gix_index.specs.Linked.{IsReadByItself, IsSplit, expecting}
use Rattle.file_place.specs.Locks.{IsOfDisk, LeadsTo, LockCause}
use Rattle.file_place.specs.World.{IsFaultOf, Known, Makes, World}
use Rattle.file_place.specs.declared.fault.PathError.{PathError}
use Rattle.std.specs.Path.{path_buf_bytes}
use Rattle.file_errors.specs.declared.lock.Error.{Error as LockingError}
use Rattle.file_errors.specs.declared.lock.Error.TheVariants as locks
use Rattle.file_errors.specs.declared.init.Error.{Error as ReadFault}
use Rattle.file_errors.specs.declared.init.Error.TheVariants as reads

-- ---- reading

-- decoding the bytes of the file fails with this error
abbrev pub RefusesBytes : Known → Bool → Kind → FileTime → ReadOptions → DecodeError → Type 0
RefusesBytes known skip kind time options e =
    (bytes : List ℕ) × MayHave known bytes × FileCause (Err (reads.Decode e)) (IsFileAnswer skip kind time options
    bytes)

-- there is a split index, and decoding the bytes of its shared index fails with this error
pub record RefusesShared (disk : Disk) (skip : Bool) (kind : Kind) (time : FileTime) (options : ReadOptions)
    (e : DecodeError) : Type 0 where
  pub split : Contents
  pub checksum : Option ObjectId
  pub link : LinkValue
  pub is_split : IsSplit disk.own skip kind time options split checksum link
  pub refuses : RefusesBytes (disk.shared link.shared) skip kind time (expecting options link.shared) e

-- a split index and its shared index are read, and this is the first error of the link between them
pub record RefusesLink (disk : Disk) (skip : Bool) (kind : Kind) (time : FileTime) (options : ReadOptions)
    (e : LinkError) : Type 0 where
  pub split : Contents
  pub checksum : Option ObjectId
  pub link : LinkValue
  pub is_split : IsSplit disk.own skip kind time options split checksum link
  pub shared : Contents
  pub shared_checksum : Option ObjectId
  pub read_shared : IsReadByItself (disk.shared link.shared) skip kind time (expecting options link.shared) shared
      shared_checksum
  pub fault : LinkFault
  pub stands_for : link_fault e ≡ Some fault
  pub is_fault : IsDissolveFault link shared (without_link split) fault

-- The error is a disk error that names this path. If the folder works, the error is that no file may be there, or that
-- the file is too long.
abbrev pub IsOfFile : List ℕ → Bool → Known → PathError → Type 0
IsOfFile path works known fault =
    IsOfDisk fault × (path_buf_bytes fault.path ≡ path) × (works ≡ true → IsFaultOf known fault.error)

-- Why the file at a path isn't read, in a folder that works or may fail. An allocation failure implies nothing.
abbrev pub FileReadCause : List ℕ → Bool → Known → Bool → Kind → FileTime → ReadOptions → ReadFault → Type 0
FileReadCause path works known skip kind time options (reads.Io fault) = IsOfFile path works known fault
FileReadCause path works known skip kind time options (reads.Decode e) = RefusesBytes known skip kind time options e
FileReadCause path works known skip kind time options (reads.LinkExtension e) = ⊥
FileReadCause path works known skip kind time options reads.Memory = Unit {0}

-- there is a split index, and the error names its shared index, in the directory of a path
pub record NamesShared (path : List ℕ) (works : Bool) (disk : Disk) (skip : Bool) (kind : Kind) (time : FileTime)
    (options : ReadOptions) (fault : PathError) : Type 0 where
  pub split : Contents
  pub checksum : Option ObjectId
  pub link : LinkValue
  pub is_split : IsSplit disk.own skip kind time options split checksum link
  pub names : IsOfFile (shared_path path link.shared) works (disk.shared link.shared) fault

-- Why the bytes of an index and of the shared index that it links to aren't read. An allocation failure implies
-- nothing.
abbrev pub BothFilesCause : Disk → Bool → Kind → FileTime → ReadOptions → ReadFault → Type 0
BothFilesCause disk skip kind time options (reads.Io fault) = ⊥
BothFilesCause disk skip kind time options (reads.Decode e) =
    RefusesBytes disk.own skip kind time options e ⊎ RefusesShared disk skip kind time options e
BothFilesCause disk skip kind time options (reads.LinkExtension e) = RefusesLink disk skip kind time options e
BothFilesCause disk skip kind time options reads.Memory = Unit {0}

-- why the file at a path and the shared index that it links to aren't read
abbrev pub FilesReadCause : List ℕ → Bool → Disk → Bool → Kind → FileTime → ReadOptions → ReadFault → Type 0
FilesReadCause path works disk skip kind time options (reads.Io fault) =
    IsOfFile path works disk.own fault ⊎ NamesShared path works disk skip kind time options fault
FilesReadCause path works disk skip kind time options (reads.Decode e) =
    BothFilesCause disk skip kind time options (reads.Decode e)
FilesReadCause path works disk skip kind time options (reads.LinkExtension e) =
    BothFilesCause disk skip kind time options (reads.LinkExtension e)
FilesReadCause path works disk skip kind time options reads.Memory = BothFilesCause disk skip kind time options
    reads.Memory

-- the file that a path leads to was locked, and reading it after that fails with this error
pub record FailsUnderLock (path : List ℕ) (works guards : Bool) (world : World) (skip : Bool) (kind : Kind)
    (options : ReadOptions) (e : ReadFault) : Type 0 where
  pub target : List ℕ
  pub behind : World
  pub leads : LeadsTo world 5 path target
  pub made : Makes guards world behind (target ++ codes ".lock")
  pub time : FileTime
  pub says : FilesReadCause path works (disk_beside (behind target) behind path) skip kind time options e

-- why an index isn't locked and read
abbrev pub LockReadCause : List ℕ → Bool → Bool → World → Bool → Kind → ReadOptions → LockingError → Type 0
LockReadCause path works guards world skip kind options (locks.Lock fault) = LockCause works world path fault
LockReadCause path works guards world skip kind options (locks.Read e) =
    FailsUnderLock path works guards world skip kind options e
