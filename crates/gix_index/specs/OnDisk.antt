-- The results of the calls that read an index from the disk, by everything that is known of the file or of the folder
-- (the library's own).
pub use Rattle.file_place.specs.Folders
pub use Rattle.file_place.specs.Sources
pub use Rattle.file_place.specs.declared.folder.Folder as FolderTrait
pub use Rattle.file_place.specs.declared.folder.Source as SourceTrait
use Rattle.std.specs.Prelude.{◌≡◌, ℕ, Bool, Err, List, IfSome, false, true}
use Rattle.std.specs.Path.{path_buf_bytes}
use Rattle.std.specs.Global.{Global}
use Rattle.std.specs.declared.path.buf.PathBuf.{PathBuf}
use Rattle.index_parts.specs.declared.hash.Kind.{Kind}
use Rattle.index_parts.specs.declared.hash.ObjectId.{ObjectId}
use Rattle.entry_fields.specs.declared.entry.stat.FileTime.{FileTime}
use Rattle.file_errors.specs.declared.init.Error.{Error}
use Rattle.file_errors.specs.declared.init.Error.TheVariants.{Memory}
use Rattle.file_place.specs.World.{World}
use Rattle.file_place.specs.declared.folder.Folder.{Ghosts}
use Rattle.index_model.specs.Contents.{ExtensionIdsAreOf}
use Rattle.index_model.specs.declared.decode.Options.{Options}
use Rattle.index_state.specs.State.{contents}
use Rattle.file_windows.specs.Intact.{IsIntact}
use Rattle.file_windows.specs.declared.ReadOptions.{ReadOptions}
use Rattle.gix_index.specs.Checked.{IsFileAnswer, FileCause}
use Rattle.gix_index.specs.Disk.{disk_in_hand, shared_path}
use Rattle.gix_index.specs.File.{IsFileOf, IsWholeFile, checksum_of, path_of, state_of}
use Rattle.gix_index.specs.ReadFile.{IsFileOnDisk, IsReadUnder, BothOptionsCause}
use Rattle.gix_index.specs.VerifiedFile.{FitsFile}
use Rattle.gix_index.specs.declared.file.File.{File}
use Rattle.gix_index.specs.declared.file.lock.Durable.{Durable}
use Rattle.gix_index.specs.declared.file.lock.Durable.TheVariants as durability
use Rattle.gix_index.specs.declared.file.lock.IfMissing.{IfMissing}
use Rattle.gix_index.specs.declared.file.lock.IfMissing.TheVariants as missing
use Rattle.gix_index.specs.declared.file.lock.Locked.{Locked}
use Rattle.gix_index.specs.declared.file.unfollowed.Unfollowed.{Unfollowed}

-- ---- bytes

-- the ids in the extensions of the file that was read are of this hash algorithm
abbrev pub FileIdsAreOf : Kind → File → Type 0
FileIdsAreOf kind f = ExtensionIdsAreOf kind (contents (state_of f)).extensions

-- an allocation failure occurs only if the bytes are intact
abbrev pub NeedsIntact : Bool → Kind → List ℕ → Error → Type 0
NeedsIntact skip kind bytes e = e ≡ Memory → IsIntact skip kind bytes

-- the error represents the answer of the bytes, which is an error
abbrev pub IsFileFault : Bool → Kind → FileTime → Options → List ℕ → Error → Type 0
IsFileFault skip kind time options bytes e = FileCause (Err e) (IsFileAnswer skip kind time options bytes)

-- the given bytes of an index and of its shared index are read as this file
abbrev pub IsFileInHand : List ℕ → List ℕ → ReadOptions → File → Type 0
IsFileInHand bytes shared r f = IsFileOnDisk (disk_in_hand bytes shared r.timestamp) r f

abbrev pub BothBytesCause : List ℕ → List ℕ → ReadOptions → Error → Type 0
BothBytesCause bytes shared r e = BothOptionsCause (disk_in_hand bytes shared r.timestamp) r e

-- the index that was read by itself has this path, and its ids are of this hash algorithm
abbrev pub IsAloneOf : List ℕ → Kind → Unfollowed → Type 0
IsAloneOf path kind u = IsFileOf path kind u.index

-- ---- by a path

-- this is the path of the shared index with an id, in the directory of a path
abbrev pub IsSharedPath : List ℕ → ObjectId → PathBuf Global → Type 0
IsSharedPath path id shared = path_buf_bytes shared ≡ shared_path path id

-- the checksum matches the file at the index's path
abbrev pub FitsAtPath : {D F M : Type 0} → Ghosts D F M → D → File → Type 0
FitsAtPath folder now f = IfSome (checksum_of f) (FitsFile (folder.known now (path_of f)))

-- ---- locking

-- whether a missing file is read as an index without entries
abbrev pub allows_empty : IfMissing → Bool
allows_empty missing.Fail = false
allows_empty missing.Empty = true

-- whether bytes have to be on the disk before they replace a file
abbrev pub is_durable : Durable → Bool
is_durable durability.Yes = true
is_durable durability.No = false

-- the index that was read under the lock
abbrev pub IsReadLocked : {M : Type 0} → World → PathBuf Global → ReadOptions → IfMissing → (M → FileTime → Type 0)
    → Locked M → Type 0
IsReadLocked world path r if_missing changed x =
    IsReadUnder world path r.skip_hash r.object_hash r.options (allows_empty if_missing) x.lock.place
    (changed x.lock.file) x.file

-- the locked index has this path, and links to no shared index
abbrev pub IsLockedWhole : {M : Type 0} → List ℕ → Kind → Locked M → Type 0
IsLockedWhole path kind x = IsWholeFile path kind x.file
