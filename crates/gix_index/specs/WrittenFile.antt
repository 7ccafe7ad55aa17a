-- The result and the writer (`std::io::Write`) after an index was written with its digest (gitformat-index, "Hash
-- checksum").
use Rattle.std.specs.Prelude.{◌≡◌, ◌↔◌, ℕ, Bool, true, List, [], Option, Some, None, Result, Err, IfErr, IfOk}
use Rattle.std.specs.Prelude.{OnErr, OnOk}
use Rattle.std.specs.Io.KnownBytes.{Appends}
use Rattle.std.specs.Global.{Global}
use Rattle.std.specs.Path.{path_buf_bytes}
use Rattle.std.specs.declared.path.buf.PathBuf.{PathBuf}
use Rattle.std.specs.Prelude.{if◌then◌else◌}
use Rattle.index_parts.specs.Taking.{Hashes}
use Rattle.index_parts.specs.declared.hash.Kind.{Kind}
use Rattle.file_place.specs.Locks.{IsReleased, asked_of, lock_of, target_of}
use Rattle.file_place.specs.declared.folder.Folder.{Ghosts}
use Rattle.file_place.specs.declared.lock.Lock.{Lock}
use Rattle.file_place.specs.declared.lock.Place.{Place}
use Rattle.file_errors.specs.WriteFaults.{CommitIndexCause}
use Rattle.file_errors.specs.declared.write.Error.{Error as WriteFault}
use Rattle.index_model.specs.Storable.{IsWritable}
use Rattle.gix_index.specs.InPlace.{IsPutSince}
use Rattle.index_parts.specs.Id.{make_id}
use Rattle.index_parts.specs.declared.hash.ObjectId.{ObjectId}
use Rattle.entry_list.specs.declared.Version.{Version}
use Rattle.index_model.specs.declared.write.Error.{Error}
use Rattle.index_model.specs.declared.write.Error.TheVariants.{TooManyEntries, NulInPath, TooLarge}
use Rattle.index_model.specs.declared.write.Options.{Options}
use Rattle.index_model.specs.Image.{body, image, image_version, trailer}
use Rattle.index_state.specs.Edits.{with_version}
use Rattle.index_model.specs.Contents.{Contents}
use Rattle.index_state.specs.State.{contents, entries_of, storage_of}
use Rattle.index_model.specs.Writing.{RefusedWith, Writes}
use Rattle.gix_index.specs.declared.file.File.{File}
use Rattle.gix_index.specs.declared.file.write.Filled.{Filled}
use Rattle.gix_index.specs.File.{state_of, path_of, checksum_of}

-- The result of writing these bytes of a value: the version and the id in the trailer, or an error. The errors are
-- tested in this order: too many entries, a NUL in a path, too many bytes. Each occurs exactly if its condition holds.
-- Any other error is the writer's.
pub record WritesIndex {S : Type 0} (taken : S → Option (List ℕ)) (failed : S → Bool) (old new : S)
    (r : Result (Version × ObjectId) Error) (v : Contents) (options : Options) (whole : List ℕ) : Type 0 where
  pub version : IfOk r (λ x. x.0 ≡ image_version v options)
  pub id : IfOk r (λ x. x.1 ≡ make_id v.kind (trailer v options))
  pub bytes : Writes taken failed old new r whole
  pub too_many : (r ≡ Err TooManyEntries) ↔ RefusedWith v options TooManyEntries
  pub nul_in_path : (r ≡ Err NulInPath) ↔ RefusedWith v options NulInPath
  pub too_large : (r ≡ Err TooLarge) ↔ RefusedWith v options TooLarge

-- The result of writing everything except the trailer of a value. The writer's borrows are unchanged, and its hashers
-- take in the bytes.
pub record PutsBody {S : Type 0} (taken : S → Option (List ℕ)) (failed : S → Bool)
    (takes_in : S → ℕ → Kind → List ℕ → Type 0) (loan_of : S → List ℕ) (old new : S) (r : Result (Version × ObjectId) Error)
    (v : Contents) (options : Options) : Type 0 where
  pub answer : WritesIndex taken failed old new r v options (body v options)
  pub hashed : OnOk r (Hashes takes_in old new (body v options))
  pub loan : loan_of new ≡ loan_of old
  pub writable : OnOk r (IsWritable v options)

-- the version, the id and all bytes that are written for a file
abbrev pub written_version : File → Options → Version
written_version f options = image_version (contents (state_of f)) options

abbrev pub written_id : File → Options → ObjectId
written_id f options = make_id (contents (state_of f)).kind (trailer (contents (state_of f)) options)

abbrev pub image_of : File → Options → List ℕ
image_of f options = image (contents (state_of f)) options

-- why a file isn't written by a lock that was made before
abbrev pub CommitFileCause : Bool → Place → File → Options → WriteFault → Type 0
CommitFileCause works place f options e = CommitIndexCause works place (contents (state_of f)) options e

-- A file that was written to a path, which becomes its path. Version and checksum are those that were written; the
-- checksum is None if zeros were written. Everything else is unchanged.
pub record IsWrittenTo (to : List ℕ) (old new : File) (options : Options) : Type 0 where
  pub value : contents (state_of new) ≡ with_version (contents (state_of old))
      (image_version (contents (state_of old)) options)
  pub entries : entries_of (state_of new) ≡ entries_of (state_of old)
  pub storage : storage_of (state_of new) ≡ storage_of (state_of old)
  pub path : path_of new ≡ to
  pub checksum : checksum_of new ≡
      (if options.skip_hash then None
      else Some (make_id (contents (state_of old)).kind (trailer (contents (state_of old)) options)))

-- A file that was written to its own path. Version and checksum are those that were written; the checksum is None if
-- zeros were written. Everything else is unchanged.
abbrev pub IsWritten : File → File → Options → Type 0
IsWritten old new options = IsWrittenTo (path_of old) old new options

-- ---- the results of the calls that write an index to the disk, by everything that is known of the writer or of the
-- folder

-- all bytes of a file went to this writer
abbrev pub HoldsImage : {W : Type 0} → (W → Option (List ℕ)) → W → File → Options → Filled W → Type 0
HoldsImage bytes_of writer f options x = Appends (bytes_of writer) (bytes_of x.file) (image_of f options)

-- ---- by a lock that was made before

-- if nothing else writes there and the lock was empty, the index replaces the file that was locked
abbrev pub StoresByLock : {D F M : Type 0} → Ghosts D F M → (M → Option (List ℕ)) → D → D → Lock M → File → Options
    → Type 0
StoresByLock folder bytes_of old new lock f options =
    folder.alone old ≡ true → bytes_of lock.file ≡ Some []
    → IsPutSince (folder.known old) (folder.known new) lock.place (contents (state_of f)) options

-- all bytes were on the disk before they replaced the file that was locked
abbrev pub SyncsLock : {D F M : Type 0} → Ghosts D F M → D → Lock M → Type 0
SyncsLock folder new lock = folder.durable new (target_of lock.place)

-- if nothing else writes there, the lock was released
abbrev pub ReleasesLock : {D F M : Type 0} → Ghosts D F M → D → D → Lock M → Type 0
ReleasesLock folder old new lock =
    folder.alone old ≡ true → IsReleased (folder.works old) (folder.known old) (folder.known new) (lock_of lock.place)

-- An index was written to a lock file that replaced the locked file, after a sync if that was requested; or the lock
-- was released. The result is the path that was given to the lock, and the version and the id that were written.
pub record Saves {D F M : Type 0} (folder : Ghosts D F M) (bytes_of : M → Option (List ℕ)) (old new : D) (f : File)
    (lock : Lock M) (options : Options) (is_synced : Bool)
    (r : Result (PathBuf Global × Version × ObjectId) WriteFault) : Type 0 where
  pub path : IfOk r (λ x. path_buf_bytes x.0 ≡ asked_of lock.place)
  pub version : IfOk r (λ x. x.1 ≡ written_version f options)
  pub id : IfOk r (λ x. x.2 ≡ written_id f options)
  pub writable : OnOk r (IsWritable (contents (state_of f)) options)
  pub put : OnOk r (StoresByLock folder bytes_of old new lock f options)
  pub synced : OnOk r (is_synced ≡ true → SyncsLock folder new lock)
  pub released : OnErr r (ReleasesLock folder old new lock)
  pub fault : IfErr r (CommitFileCause (folder.works old) lock.place f options)
  pub alone : folder.alone new ≡ folder.alone old
  pub works : folder.works new ≡ folder.works old
