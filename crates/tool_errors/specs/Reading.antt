-- What the program reads in a file, and how that fails (the program's own).
use Rattle.std.specs.Prelude.{◌≡◌, ℕ, Bool, false, List, Option, Err}
use Rattle.std.specs.Borrow.{Bor}
use Rattle.gix_index.specs.DecodeError.TheVariants as decoding
use Rattle.gix_index.specs.Disk.{Disk, MayHave, disk_at}
use Rattle.gix_index.specs.Disk.World.{World}
use Rattle.gix_index.specs.FileFaults.{IsOfFile, FilesReadCause}
use Rattle.gix_index.specs.FileFaults.ReadError.{Error as ReadFault}
use Rattle.gix_index.specs.FileFaults.ReadError.TheVariants as reads
use Rattle.gix_index.specs.FileTime.{FileTime}
use Rattle.gix_index.specs.Header.{header_of}
use Rattle.gix_index.specs.HeaderErrors.{header_fault}
use Rattle.gix_index.specs.Kind.{Kind}
use Rattle.gix_index.specs.ObjectId.{ObjectId}
use Rattle.gix_index.specs.Contents.{Contents}
use Rattle.gix_index.specs.Linked.{IsOnDisk, IsOnDiskSince}
use Rattle.tool_errors.specs.declared.failure.Failure.{Failure}
use Rattle.tool_errors.specs.declared.failure.Failure.TheVariants as failures
use Rattle.tool_errors.specs.Options.{unlimited_options, IsBeginOf1970}

-- The value is what the file's bytes are read as, with the shared index that they link to. The checksum is that of the
-- file. It is compared with the bytes, and the time is the beginning of 1970.
pub record IsInFile (disk : Disk) (kind : Kind) (value : Contents) (checksum : Option ObjectId) : Type 0 where
  pub time : FileTime
  pub begin : IsBeginOf1970 time
  pub is : IsOnDisk disk false kind time unlimited_options value checksum

-- The value is what the file's bytes are read as, with the shared index that they link to. The checksum is that of the
-- file. It is compared with the bytes, and the time is the one at which the file was last changed.
abbrev pub IsInFileSince : Disk → Kind → Contents → Option ObjectId → Type 0
IsInFileSince disk kind value checksum = IsOnDiskSince disk false kind unlimited_options value checksum

-- The error is why an index isn't read from the file at a path of a folder that works or may fail. It is an error of
-- that file, or of the shared index that it links to; an I/O error names the file. Running out of memory states
-- nothing.
abbrev pub IndexReadCause : Bool → World → Kind → List ℕ → ReadFault → Type 0
IndexReadCause works world kind path reads.Memory = Unit {0}
IndexReadCause works world kind path e =
    (time : FileTime) × FilesReadCause path works (disk_at world path) false kind time unlimited_options e

-- The error is why the bytes of the file at a path can't be read: an I/O error that names it, or that memory ran out.
abbrev pub BytesCause : Bool → World → List ℕ → ReadFault → Type 0
BytesCause works world path (reads.Io fault) = IsOfFile path works (world path) fault
BytesCause works world path reads.Memory = Unit {0}
BytesCause works world path e = ⊥

-- The error is why the bytes of an index can't be read from the file at a path: an I/O error that names it, that memory
-- ran out, or an error of the header of its bytes.
abbrev pub HeadedBytesCause : Bool → World → Kind → List ℕ → ReadFault → Type 0
HeadedBytesCause works world kind path (reads.Io fault) = IsOfFile path works (world path) fault
HeadedBytesCause works world kind path (reads.Decode (decoding.Header e)) =
    (bytes : List ℕ) × MayHave (world path) bytes × (header_of kind bytes ≡ Err (header_fault e))
HeadedBytesCause works world kind path reads.Memory = Unit {0}
HeadedBytesCause works world kind path e = ⊥

-- the failure for an error of reading a file; an I/O error names its file
abbrev pub failure_of : Bor (List ℕ) → ReadFault → Failure
failure_of path (reads.Io fault) = failures.Read fault
failure_of path e = failures.Index path e

-- a failure of reading the file at a path, with the path and an error of which a predicate holds
pub record FailsReading (Says : ReadFault → Type 0) (path : List ℕ) (failure : Failure) : Type 0 where
  pub file : Bor (List ℕ)
  pub names : file.now ≡ path
  pub fault : ReadFault
  pub is : failure ≡ failure_of file fault
  pub says : Says fault
