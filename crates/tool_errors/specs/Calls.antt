-- What each call returns that reads, locks or writes a file of a folder (the program's own).
use Rattle.std.specs.Prelude.{◌≡◌, ◌++◌, ℕ, [], List, Option, Some, true, codes, Result, Err, IfErr, IfOk, OnErr, OnOk}
use Rattle.std.specs.Global.{Vec}
use Rattle.std.specs.Path.{path_bytes}
use Rattle.std.specs.declared.io.Error.{Error as IoError}
use Rattle.std.specs.declared.path.Path.{Path}
use Rattle.gix_index.specs.DecodeError.{Error as DecodeError}
use Rattle.gix_index.specs.DecodeError.TheVariants as decoding
use Rattle.gix_index.specs.Disk.{MayHave, disk_at}
use Rattle.gix_index.specs.Disk.World.{Known, MayBe}
use Rattle.gix_index.specs.File.{checksum_of, path_of, state_of}
use Rattle.gix_index.specs.FileTime.{FileTime}
use Rattle.gix_index.specs.Header.{header_of}
use Rattle.gix_index.specs.HeaderError.{Header}
use Rattle.gix_index.specs.HeaderErrors.{header_fault}
use Rattle.gix_index.specs.InPlace.{IsPutSince}
use Rattle.gix_index.specs.InPlace.Locks.{IsReleased, asked_of, lock_of, target_of}
use Rattle.gix_index.specs.Kind.{Kind}
use Rattle.gix_index.specs.State.{PathsInStorage, contents}
use Rattle.gix_index.specs.WriteOptions.{Options}
use Rattle.gix_index.specs.WrittenFile.{IsWrittenTo, SyncsLock}
use Rattle.gix_index.specs.declared.file.File.{File}
use Rattle.gix_index.specs.OnDisk.FolderTrait.{Ghosts}
use Rattle.gix_index.specs.InPlace.Lock.{Lock}
use Rattle.tool_errors.specs.declared.failure.Failure.{Failure}
use Rattle.gix_index.specs.OnDisk.Folders.{FailsAt, KeepsManner}
use Rattle.tool_errors.specs.Reading.{FailsReading, IsInFile, IsInFileSince, BytesCause, HeadedBytesCause}
use Rattle.tool_errors.specs.Reading.{IndexReadCause}
use Rattle.tool_errors.specs.Storing.{FailsCommitting, FailsLocking, IsUnderLock}
use Rattle.file_windows.specs.Counted.{IsCountedFile}
use Rattle.file_windows.specs.declared.disk.CountedFile.{CountedFile}
use Rattle.file_windows.specs.declared.disk.WholeFile.{WholeFile}
use Rattle.file_windows.specs.declared.disk.WholeFile.TheVariants as whole

-- ---- what is read

-- the bytes of the file at a path, and its modification time; or why they can't be read
pub record ReadsBytes {S F M : Type 0} (folder : Ghosts S F M) (now : S) (path : List ℕ)
    (answer : Result (Vec ℕ × FileTime) Failure) : Type 0 where
  pub held : IfOk answer (λ read. MayHave (folder.known now path) read.0.items)
  pub since : IfOk answer (λ read. MayBe (folder.known now path) (λ file. read.1 ≡ file.time))
  pub fault : IfErr answer (FailsReading (BytesCause (folder.works now) (folder.known now) path) path)

-- the header of a file's bytes has an error, and this is it
pub record IsHeadless (known : Known) (kind : Kind) (e : DecodeError) : Type 0 where
  pub bytes : List ℕ
  pub held : MayHave known bytes
  pub fault : Header
  pub header : header_of kind bytes ≡ Err (header_fault fault)
  pub is : e ≡ decoding.Header fault

-- all bytes of a file of which this is known, or the error of their header
abbrev pub IsWholeOf : Known → Kind → WholeFile → Type 0
IsWholeOf known kind (whole.Held bytes digest) = MayHave known bytes.items
IsWholeOf known kind (whole.Refused e) = IsHeadless known kind e

-- all bytes of the file at a path or the error of their header, and its modification time
pub record ReadsWholeAt {S F M : Type 0} (folder : Ghosts S F M) (now : S) (kind : Kind) (path : Path)
    (result : Result (WholeFile × FileTime) IoError) : Type 0 where
  pub read : IfOk result (λ read. IsWholeOf (folder.known now (path_bytes path)) kind read.0)
  pub since : IfOk result (λ read. MayBe (folder.known now (path_bytes path)) (λ file. read.1 ≡ file.time))
  pub fault : FailsAt folder now path result

-- The bytes of the file at a path, and its modification time; or why they can't be read, or the error of their header.
pub record ReadsHeaded {S F M : Type 0} (folder : Ghosts S F M) (now : S) (kind : Kind) (path : List ℕ)
    (answer : Result (Vec ℕ × FileTime) Failure) : Type 0 where
  pub held : IfOk answer (λ read. MayHave (folder.known now path) read.0.items)
  pub since : IfOk answer (λ read. MayBe (folder.known now path) (λ file. read.1 ≡ file.time))
  pub fault : IfErr answer (FailsReading (HeadedBytesCause (folder.works now) (folder.known now) kind path) path)

-- the bytes of the opened file at a path; if their header has an error, their number
pub record CountsPath {S F M : Type 0} (folder : Ghosts S F M) (now : S) (kind : Kind) (path : Path)
    (result : Result CountedFile IoError) : Type 0 where
  pub counted : IfOk result (IsCountedFile kind (MayHave (folder.known now (path_bytes path))))
  pub fault : FailsAt folder now path result

-- the bytes of the file at a path; if their header has an error, their number; or why they can't be read
pub record CountsFileAt {S F M : Type 0} (folder : Ghosts S F M) (now : S) (kind : Kind) (path : List ℕ)
    (answer : Result CountedFile Failure) : Type 0 where
  pub counted : IfOk answer (IsCountedFile kind (MayHave (folder.known now path)))
  pub fault : IfErr answer (FailsReading (BytesCause (folder.works now) (folder.known now) path) path)

-- the index in the file at a path can't be read, because of the failure's error
abbrev pub FailsToRead : {S F M : Type 0} → Ghosts S F M → S → Kind → List ℕ → Failure → Type 0
FailsToRead folder now kind path failure =
    FailsReading (IndexReadCause (folder.works now) (folder.known now) kind path) path failure

-- the index in the file at a path, with that path; or why it can't be read
pub record ReadsIndex {S F M : Type 0} (folder : Ghosts S F M) (now : S) (kind : Kind) (at : List ℕ)
    (answer : Result File Failure) : Type 0 where
  pub read : IfOk answer
      (λ index. IsInFile (disk_at (folder.known now) at) kind (contents (state_of index)) (checksum_of index))
  pub path : IfOk answer (λ index. path_of index ≡ at)
  pub placed : IfOk answer (λ index. PathsInStorage (state_of index))
  pub fault : IfErr answer (FailsToRead folder now kind at)

-- an index of which a predicate holds, and whose paths are in its storage; or why there is none
pub record GivesIndex (Read : File → Type 0) (Fault : Failure → Type 0) (answer : Result File Failure) : Type 0 where
  pub read : IfOk answer Read
  pub placed : IfOk answer (λ index. PathsInStorage (state_of index))
  pub fault : IfErr answer Fault

-- the index in the file at a path, with the file's time; or why it can't be read
abbrev pub OpensIndex : {S F M : Type 0} → Ghosts S F M → S → Kind → List ℕ → Result File Failure → Type 0
OpensIndex folder now kind path answer = GivesIndex
    (λ index. IsInFileSince (disk_at (folder.known now) path) kind (contents (state_of index)) (checksum_of index))
    (FailsToRead folder now kind path) answer

-- ---- what is written

-- The lock of the file that a path leads to, or why it can't be locked. The lock is next to that file. It is empty if
-- nobody else changes files, by what is known of a file that was made.
pub record LocksTarget {S F M : Type 0} (folder : Ghosts S F M) (made : M → Option (List ℕ)) (old new : S) (to : List ℕ)
    (answer : Result (Lock M) Failure) : Type 0 where
  pub locked : IfOk answer
      (λ lock. IsUnderLock (folder.guards old) (folder.known old) (folder.known new) to lock.place)
  pub beside : IfOk answer (λ lock. lock_of lock.place ≡ target_of lock.place ++ codes ".lock")
  pub empty : IfOk answer (λ lock. folder.alone old ≡ true → made lock.file ≡ Some [])
  pub unmade : OnErr answer (folder.known new ≡ folder.known old)
  pub fault : IfErr answer (FailsLocking (folder.works old) (folder.known old) to)
  pub manner : KeepsManner folder old new

-- The index replaced the file that was locked, written by these options, after all its bytes were on the disk. Or the
-- lock was released, and why.
pub record CommitsIndex {S F M : Type 0} (folder : Ghosts S F M) (made : M → Option (List ℕ)) (old new : S) (lock : Lock M)
    (index : File) (options : Options) (to : List ℕ) (answer : Result (Unit {0}) Failure) : Type 0 where
  pub written : OnOk answer ((written : File) × IsWrittenTo (asked_of lock.place) index written options)
  pub put : OnOk answer (folder.alone old ≡ true → made lock.file ≡ Some []
      → IsPutSince (folder.known old) (folder.known new) lock.place (contents (state_of index)) options)
  pub synced : OnOk answer (SyncsLock folder new lock)
  pub released : OnErr answer (folder.alone old ≡ true
      → IsReleased (folder.works old) (folder.known old) (folder.known new) (lock_of lock.place))
  pub fault : IfErr answer
      (FailsCommitting (folder.works old) lock.place (contents (state_of index)) options to)
  pub manner : KeepsManner folder old new
