-- The result of each call that reads an index, by the arguments of the call (gitformat-index, "Split index"; the
-- library's own).
use Rattle.std.specs.Prelude.{◌≡◌, ◌⊎◌, ℕ, Bool, true, false, List, Option, Ok, IsTrue}
use Rattle.std.specs.Path.{path_buf_bytes, path_bytes}
use Rattle.std.specs.Global.{Global}
use Rattle.std.specs.declared.path.Path.{Path}
use Rattle.std.specs.declared.path.buf.PathBuf.{PathBuf}
use Rattle.index_parts.specs.declared.hash.Kind.{Kind}
use Rattle.index_parts.specs.declared.hash.ObjectId.{ObjectId}
use Rattle.entry_fields.specs.declared.entry.stat.FileTime.{FileTime}
use Rattle.file_place.specs.Locks.{target_of}
use Rattle.file_place.specs.World.{Known, MayBeMissing, World}
use Rattle.file_place.specs.declared.lock.Place.{Place}
use Rattle.index_model.specs.Answer.{Answer}
use Rattle.index_model.specs.declared.decode.Options.{Options}
use Rattle.index_state.specs.State.{contents}
use Rattle.index_state.specs.declared.State.{State}
use Rattle.index_decode.specs.Behind.{FollowEntries}
use Rattle.file_windows.specs.declared.ReadOptions.{ReadOptions}
use Rattle.gix_index.specs.Checked.{IsFileAnswer}
use Rattle.gix_index.specs.Disk.{Disk, IsTimeFor, MayHave, disk_at, disk_beside, shared_path}
use Rattle.gix_index.specs.File.{IsEmptyFile, checksum_of, path_of, state_of}
use Rattle.gix_index.specs.FileFaults.{BothFilesCause, FileReadCause, FilesReadCause}
use Rattle.gix_index.specs.Linked.{IsOnDisk, IsOnDiskSince, IsReadByItself, expecting}
use Rattle.gix_index.specs.declared.file.File.{File}
use Rattle.gix_index.specs.declared.file.unfollowed.Unfollowed.{Unfollowed}
use Rattle.file_errors.specs.declared.init.Error.{Error}

-- ---- the value of bytes, and of a file of which this is known

abbrev pub IsAnswerBy : ReadOptions → List ℕ → Answer → Type 0
IsAnswerBy r bytes a = IsFileAnswer r.skip_hash r.object_hash r.timestamp r.options bytes a

-- these bytes are read as the file
abbrev pub IsReadFrom : ReadOptions → List ℕ → File → Type 0
IsReadFrom r bytes f = IsAnswerBy r bytes (Ok (contents (state_of f), checksum_of f))

-- some bytes are read as the file
abbrev pub IsReadOf : ReadOptions → File → Type 0
IsReadOf r f = (bytes : List ℕ) × IsReadFrom r bytes f

-- the bytes of the file of which this is known are read as this file
abbrev pub IsFileRead : Known → ReadOptions → File → Type 0
IsFileRead own r f = IsReadByItself own r.skip_hash r.object_hash r.timestamp r.options (contents (state_of f)) (checksum_of f)

-- these bytes are read so by themselves, with the bytes after their entries if these are requested
pub record IsReadKeeping (keeps : Bool) (r : ReadOptions) (bytes : List ℕ) (u : Unfollowed) : Type 0 where
  pub read : IsReadFrom r bytes u.index
  pub ending : keeps ≡ true → FollowEntries r.object_hash bytes u.ending.items

-- the file's bytes are read so by themselves, with the bytes after their entries if these are requested
abbrev pub IsFileReadKeeping : Bool → ReadOptions → Known → Unfollowed → Type 0
IsFileReadKeeping keeps r known u = (bytes : List ℕ) × MayHave known bytes × IsReadKeeping keeps r bytes u

-- why a file of which this is known isn't read
abbrev pub FileOptionsCause : List ℕ → Bool → Known → ReadOptions → Error → Type 0
FileOptionsCause path works known r e = FileReadCause path works known r.skip_hash r.object_hash r.timestamp r.options e

-- why a file that has these bytes isn't read, whatever else is known of it
abbrev pub PossibleBytesCause : List ℕ → List ℕ → ReadOptions → Error → Type 0
PossibleBytesCause path bytes r e =
    (works : Bool) (known : Known) → MayHave known bytes → FileOptionsCause path works known r e

-- ---- with the shared index

abbrev pub IsFileOnDisk : Disk → ReadOptions → File → Type 0
IsFileOnDisk disk r f =
    IsOnDisk disk r.skip_hash r.object_hash r.timestamp r.options (contents (state_of f)) (checksum_of f)

abbrev pub FilesOptionsCause : List ℕ → Bool → Disk → ReadOptions → Error → Type 0
FilesOptionsCause path works disk r e = FilesReadCause path works disk r.skip_hash r.object_hash r.timestamp r.options e

abbrev pub BothOptionsCause : Disk → ReadOptions → Error → Type 0
BothOptionsCause disk r e = BothFilesCause disk r.skip_hash r.object_hash r.timestamp r.options e

-- the shared index with this id, in the directory of a path
abbrev pub IsSharedRead : World → Path → ObjectId → ReadOptions → State → Type 0
IsSharedRead world path id r s =
    (checksum : Option ObjectId)
    × IsReadByItself (world (shared_path (path_bytes path) id)) r.skip_hash r.object_hash r.timestamp (expecting
    r.options id)
    (contents s) checksum

abbrev pub SharedReadCause : Bool → World → Path → ObjectId → ReadOptions → Error → Type 0
SharedReadCause works world path id r e =
    FileReadCause (shared_path (path_bytes path) id) works (world (shared_path (path_bytes path) id)) r.skip_hash
    r.object_hash r.timestamp (expecting r.options id) e

-- the index that results from one that was read by itself, if the shared index that it links to is merged
abbrev pub FollowsTo : World → ReadOptions → File → File → Type 0
FollowsTo world r own joined =
    (known : Known) → IsFileRead known r own → IsFileOnDisk (disk_beside known world (path_of own)) r joined

abbrev pub FollowCause : Bool → World → ReadOptions → File → Error → Type 0
FollowCause works world r own e =
    (known : Known) → IsFileRead known r own
    → FilesOptionsCause (path_of own) works (disk_beside known world (path_of own)) r e

-- ---- by a path

-- The index in the file at one path, with the other path as its own. It is empty if there may be no file and an empty
-- index is requested.
abbrev pub IsFound : World → Path → PathBuf Global → ReadOptions → Bool → Bool → File → Type 0
IsFound world at path r or_default has_time f =
    ((time : FileTime) × IsTimeFor has_time r.timestamp (world (path_bytes at)) time
    × IsOnDisk (disk_beside (world (path_bytes at)) world (path_buf_bytes path)) r.skip_hash r.object_hash time r.options
    (contents (state_of f)) (checksum_of f))
    ⊎ (IsTrue or_default × MayBeMissing (world (path_bytes at)) × IsEmptyFile r.object_hash r.timestamp f)

abbrev pub FindCause : Bool → World → Path → PathBuf Global → ReadOptions → Bool → Error → Type 0
FindCause works world at path r has_time e =
    (time : FileTime) × (has_time ≡ false → time ≡ r.timestamp)
    × FilesReadCause (path_buf_bytes path) works (disk_beside (world (path_bytes at)) world (path_buf_bytes path))
    r.skip_hash r.object_hash time r.options e

-- the index at a path, with the shared index that it links to
abbrev pub IsReadAt : World → PathBuf Global → Bool → Kind → FileTime → Options → File → Type 0
IsReadAt world path skip kind time options f =
    IsOnDisk (disk_at world (path_buf_bytes path)) skip kind time options (contents (state_of f)) (checksum_of f)

-- the index at a path, with the shared index that it links to; or an index without entries, if there may be no file
abbrev pub IsReadOrEmpty : World → PathBuf Global → Bool → Kind → FileTime → Options → File → Type 0
IsReadOrEmpty world path skip kind time options f =
    IsReadAt world path skip kind time options f
    ⊎ (MayBeMissing (world (path_buf_bytes path)) × IsEmptyFile kind time f)

-- why the index at a path isn't read
abbrev pub ReadCause : Bool → World → PathBuf Global → Bool → Kind → FileTime → Options → Error → Type 0
ReadCause works world path skip kind time options e =
    FilesReadCause (path_buf_bytes path) works (disk_at world (path_buf_bytes path)) skip kind time options e

-- the index at a path by the options of reading, with the shared index that it links to
abbrev pub IsReadBy : World → PathBuf Global → ReadOptions → File → Type 0
IsReadBy world path r f = IsReadAt world path r.skip_hash r.object_hash r.timestamp r.options f

abbrev pub IsReadOrEmptyBy : World → PathBuf Global → ReadOptions → File → Type 0
IsReadOrEmptyBy world path r f = IsReadOrEmpty world path r.skip_hash r.object_hash r.timestamp r.options f

abbrev pub ReadCauseBy : Bool → World → PathBuf Global → ReadOptions → Error → Type 0
ReadCauseBy works world path r e = ReadCause works world path r.skip_hash r.object_hash r.timestamp r.options e

-- the index at a path with the time of its file, instead of the given time
abbrev pub IsOpened : World → PathBuf Global → ReadOptions → File → Type 0
IsOpened world path r f = IsOnDiskSince (disk_at world (path_buf_bytes path)) r.skip_hash r.object_hash r.options
    (contents (state_of f)) (checksum_of f)

-- The index at a path with the time of its file. If there may be no file, it may be an index without entries, with the
-- given time.
abbrev pub IsOpenedOrEmpty : World → PathBuf Global → ReadOptions → File → Type 0
IsOpenedOrEmpty world path r f =
    IsOpened world path r f
    ⊎ (MayBeMissing (world (path_buf_bytes path)) × IsEmptyFile r.object_hash r.timestamp f)

-- why the index at a path isn't read, whenever its file was last changed
abbrev pub OpenCause : Bool → World → PathBuf Global → ReadOptions → Error → Type 0
OpenCause works world path r e =
    (time : FileTime) × ReadCause works world path r.skip_hash r.object_hash time r.options e

-- The index that is read after a lock was made. If there may be no file, it may be an empty index, with the time of the
-- lock's last change.
abbrev pub IsReadUnder : World → PathBuf Global → Bool → Kind → Options → Bool → Place → (FileTime → Type 0) → File
    → Type 0
IsReadUnder world path skip kind options or_default place Changed f =
    IsOnDiskSince (disk_beside (world (target_of place)) world (path_buf_bytes path)) skip kind options
    (contents (state_of f)) (checksum_of f)
    ⊎ (IsTrue or_default × MayBeMissing (world (target_of place))
    × ((time : FileTime) × Changed time × IsEmptyFile kind time f))
