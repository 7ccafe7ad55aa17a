-- From the cause of an error in one file to its cause in an index and its shared index.
use Rattle.std.proofs.Common.{◌≡◌, ℕ, Bool, true, List, Option, Some, None, inl, inr, refl, subst, sym}
use Rattle.std.specs.Prelude.{Result, Ok, Err, IfErr, IfOk, IfSome}
use Rattle.std.specs.declared.io.Error.{Error as IoError}
use Rattle.index_parts.specs.declared.hash.Kind.{Kind}
use Rattle.index_parts.specs.declared.hash.ObjectId.{ObjectId}
use Rattle.entry_fields.specs.declared.entry.stat.FileTime.{FileTime}
use Rattle.file_place.proofs.Sizes.{own_fault_at}
use Rattle.file_place.specs.Sizes.{IsOwnFault}
use Rattle.file_place.specs.World.{Absent, Directory, Holds, IsFaultOf, Known, Leads, MayBe, Special, Stored, Unknown, World}
use Rattle.file_place.specs.World.{whole_of}
use Rattle.file_place.specs.declared.fault.PathError.{PathError}
use Rattle.index_model.specs.Contents.{Contents}
use Rattle.index_model.specs.declared.decode.Options.{Options}
use Rattle.ext_split.specs.Link.{LinkValue, Corrupt, BitmapDecode}
use Rattle.ext_split.specs.declared.link.decode.Error.{Error as LinkError}
use Rattle.ext_split.specs.declared.link.decode.Error.TheVariants as links
use Rattle.index_state.specs.Dissolve.{DissolveCause}
use Rattle.index_state.specs.Edits.{without_link}
use Rattle.index_state.specs.State.{contents}
use Rattle.gix_index.specs.declared.file.File.{File}
use Rattle.gix_index.specs.File.{state_of, checksum_of}
use Rattle.gix_index.specs.Checked.{IsFileAnswer, FileCause}
use Rattle.file_errors.specs.ReadErrors.{IsOfCall, link_error_of}
use Rattle.gix_index.specs.Disk.{Disk, MayHave, known_of, shared_path}
use Rattle.gix_index.specs.FileFaults.{IsOfFile, BothFilesCause, FileReadCause, FilesReadCause}
use Rattle.gix_index.specs.Linked.{IsOnDisk, IsReadAlone, IsReadByItself, IsSplit, expecting, own, joined}
use Rattle.gix_index.specs.ReadFile.{IsFileRead, IsFileReadKeeping}
use Rattle.gix_index.specs.declared.file.unfollowed.Unfollowed.{Unfollowed}
use Rattle.file_windows.specs.declared.ReadOptions.{ReadOptions}
use Rattle.file_errors.specs.declared.init.Error.{Error}
use Rattle.file_errors.specs.declared.init.Error.TheVariants as errors

-- what holds of an opened file that is known, holds of what is at the path
pub opened_so : (k : Known) (stored : Option Stored) (P : Stored → Type 0) → MayBe k (λ there. stored ≡ Some there)
    → MayBe (known_of stored) P → MayBe k P
opened_so Unknown stored P e h = tt
opened_so Absent stored P e h = absurd e
opened_so (Holds file) stored P e h = subst (λ (o : Option Stored). MayBe (known_of o) P) e h
opened_so (Leads to) stored P e h = tt
opened_so Directory stored P e h = tt
opened_so Special stored P e h = tt

-- a fault of an open file, by what is known of it
pub fault_of_open : (stored : Option Stored) (e : IoError) → IsOwnFault (whole_of stored) e
    → IsFaultOf (known_of stored) e
fault_of_open None e (inl memory) = inl (inl memory)
fault_of_open None e (inr h) = inl (inr (tt, h.1))
fault_of_open (Some file) e h = inl h

-- an opened file isn't missing
fault_of_opened : (k : Known) (stored : Option Stored) (e : IoError) → MayBe k (λ there. stored ≡ Some there)
    → IsFaultOf (known_of stored) e → IsFaultOf k e
fault_of_opened k None e there (inl (inl memory)) = inl (inl memory)
fault_of_opened k None e there (inl (inr h)) = own_fault_at k None e there (inr (tt, h.1))
fault_of_opened k (Some file) e there (inl h) = own_fault_at k (Some file) e there h
fault_of_opened k None e there (inr h) = absurd h.1
fault_of_opened k (Some file) e there (inr h) = absurd h.1

-- The error of a call that failed for a file implies a cause in that file, whatever the file is read for and whatever
-- is known of it. The premise is that the call may fail so for this file.
pub call_says : (path : List ℕ) (error : IoError) (e : Error) → IsOfCall path error e → (works : Bool) (known : Known)
    → (works ≡ true → IsFaultOf known error) → (skip : Bool) (kind : Kind) (time : FileTime) (options : Options)
    → FileReadCause path works known skip kind time options e
call_says path error (errors.Io fault) h works known is skip kind time options =
    (h.0, h.1, λ w. subst (IsFaultOf known) (sym h.2) (is w))
call_says path error (errors.Decode e) h works known is skip kind time options = absurd h
call_says path error (errors.LinkExtension e) h works known is skip kind time options = absurd h
call_says path error errors.Memory h works known is skip kind time options = tt

-- these bytes are those of an open file, if they are known
pub held_by : (stored : Option Stored) (bytes : List ℕ) → IfSome stored (λ whole. bytes ≡ whole.bytes)
    → MayHave (known_of stored) bytes
held_by None bytes h = tt
held_by (Some file) bytes h = h

module _ (r : ReadOptions) (known : Known) where
  -- what is read with the bytes after its entries, or without, is read
  pub file_read : (keeps : Bool) (u : Unfollowed) → IsFileReadKeeping keeps r known u → IsFileRead known r u.index
  file_read keeps u h = record { bytes = h.0; held = h.1; read = h.2.read }

  -- and with them it is read by itself
  pub alone_kept : (e : Result Unfollowed Error) → IfOk e (IsFileReadKeeping true r known)
      → IfOk e (IsReadAlone known r.skip_hash r.object_hash r.timestamp r.options)
  alone_kept (Ok u) h = (h.0, h.1, record { read = h.2.read; ending = h.2.ending refl })
  alone_kept (Err e) h = tt

module _ (skip : Bool) (kind : Kind) (time : FileTime) (options : Options) where
  -- the file that was opened is the one at the path
  pub read_there : (k : Known) (stored : Option Stored) (v : Contents) (c : Option ObjectId)
      → MayBe k (λ there. stored ≡ Some there) → IsReadByItself (known_of stored) skip kind time options v c
      → IsReadByItself k skip kind time options v c
  read_there k stored v c e h = record {
    bytes = h.bytes;
    held = opened_so k stored (λ file. h.bytes ≡ file.bytes) e h.held;
    read = h.read;
  }

  own_there : (path : List ℕ) (w fw : Bool) (k : Known) (stored : Option Stored) (fault : PathError)
      → (w ≡ true → fw ≡ true) → MayBe k (λ there. stored ≡ Some there) → IsOfFile path fw (known_of stored) fault
      → IsOfFile path w k fault
  own_there path w fw k stored fault works o h =
      (h.0, h.1, λ is. fault_of_opened k stored fault.error o (h.2 (works is)))

  pub fault_there : (path : List ℕ) (w fw : Bool) (k : Known) (stored : Option Stored) (e : Error)
      → (w ≡ true → fw ≡ true) → MayBe k (λ there. stored ≡ Some there)
      → FileReadCause path fw (known_of stored) skip kind time options e
      → FileReadCause path w k skip kind time options e
  fault_there path w fw k stored (errors.Io fault) works o h = own_there path w fw k stored fault works o h
  fault_there path w fw k stored (errors.Decode e) works o h =
      (h.0, opened_so k stored (λ file. h.0 ≡ file.bytes) o h.1, h.2)
  fault_there path w fw k stored (errors.LinkExtension e) works o h = h
  fault_there path w fw k stored errors.Memory works o h = h

  pub fault_read : {T : Type 0} (at path : List ℕ) (w fw : Bool) (world : World) (stored : Option Stored)
      (r : Result T Error) → at ≡ path → (w ≡ true → fw ≡ true) → MayBe (world at) (λ there. stored ≡ Some there)
      → IfErr r (FileReadCause path fw (known_of stored) skip kind time options)
      → IfErr r (FileReadCause path w (world path) skip kind time options)
  fault_read at path w fw world stored (Ok x) same works o h = tt
  fault_read at path w fw world stored (Err e) same works o h =
      subst (λ (x : List ℕ). FileReadCause path w (world x) skip kind time options e) same
      (fault_there path w fw (world at) stored e works o h)

  pub alone_there : (at path : List ℕ) (world : World) (stored : Option Stored) (r : Result Unfollowed Error)
      → at ≡ path → MayBe (world at) (λ there. stored ≡ Some there)
      → IfOk r (IsReadAlone (known_of stored) skip kind time options)
      → IfOk r (IsReadAlone (world path) skip kind time options)
  alone_there at path world stored (Ok u) same o h = (
    h.0,
    subst (λ (x : List ℕ). MayHave (world x) h.0) same (opened_so (world at) stored (λ file. h.0 ≡ file.bytes) o h.1),
    h.2,
  )
  alone_there at path world stored (Err e) same o h = tt

  split_there : (k : Known) (stored : Option Stored) (split : Contents) (c : Option ObjectId) (link : LinkValue)
      → MayBe k (λ there. stored ≡ Some there) → IsSplit (known_of stored) skip kind time options split c link
      → IsSplit k skip kind time options split c link
  split_there k stored split c link e h = record {
    read = read_there k stored split c e h.read;
    has_link = h.has_link;
    followed = h.followed;
  }

  pub disk_there : (k : Known) (stored : Option Stored) (shared : ObjectId → Known) (v : Contents)
      (c : Option ObjectId) → MayBe k (λ there. stored ≡ Some there)
      → IsOnDisk (record { own = known_of stored; shared = shared }) skip kind time options v c
      → IsOnDisk (record { own = k; shared = shared }) skip kind time options v c
  disk_there k stored shared v c e (own h) = own (record {
    split = h.split;
    read = read_there k stored h.split c e h.read;
    unfollowed = h.unfollowed;
    is = h.is;
  })
  disk_there k stored shared v c e (joined h) = joined (record {
    split = h.split;
    link = h.link;
    is_split = split_there k stored h.split c h.link e h.is_split;
    shared = h.shared;
    shared_checksum = h.shared_checksum;
    read_shared = h.read_shared;
    dissolved = h.dissolved;
  })

  pub faults_there : (path : List ℕ) (w : Bool) (k : Known) (stored : Option Stored) (shared : ObjectId → Known)
      (e : Error) → MayBe k (λ there. stored ≡ Some there)
      → FilesReadCause path w (record { own = known_of stored; shared = shared }) skip kind time options e
      → FilesReadCause path w (record { own = k; shared = shared }) skip kind time options e
  faults_there path w k stored shared (errors.Io fault) o (inl h) =
      inl (own_there path w w k stored fault (λ is. is) o h)
  faults_there path w k stored shared (errors.Io fault) o (inr h) = inr (record {
    split = h.split;
    checksum = h.checksum;
    link = h.link;
    is_split = split_there k stored h.split h.checksum h.link o h.is_split;
    names = h.names;
  })
  faults_there path w k stored shared (errors.Decode e) o (inl h) =
      inl (h.0, opened_so k stored (λ file. h.0 ≡ file.bytes) o h.1, h.2)
  faults_there path w k stored shared (errors.Decode e) o (inr h) = inr (record {
    split = h.split;
    checksum = h.checksum;
    link = h.link;
    is_split = split_there k stored h.split h.checksum h.link o h.is_split;
    refuses = h.refuses;
  })
  faults_there path w k stored shared (errors.LinkExtension e) o h = record {
    split = h.split;
    checksum = h.checksum;
    link = h.link;
    is_split = split_there k stored h.split h.checksum h.link o h.is_split;
    shared = h.shared;
    shared_checksum = h.shared_checksum;
    read_shared = h.read_shared;
    fault = h.fault;
    stands_for = h.stands_for;
    is_fault = h.is_fault;
  }
  faults_there path w k stored shared errors.Memory o h = h

  -- what is read of these bytes
  pub read_some : (known : Known) (bytes : List ℕ) (r : Result File Error) → MayHave known bytes
      → FileCause r (IsFileAnswer skip kind time options bytes)
      → IfOk r (λ f. IsReadByItself known skip kind time options (contents (state_of f)) (checksum_of f))
  read_some known bytes (Ok f) m h = record { bytes = bytes; held = m; read = h }
  read_some known bytes (Err e) m h = tt

  -- what an error implies of these bytes
  pub of_bytes : (path : List ℕ) (works : Bool) (known : Known) (bytes : List ℕ) (e : Error) → MayHave known bytes
      → FileCause (Err e) (IsFileAnswer skip kind time options bytes) → FileReadCause path works known skip kind time options e
  of_bytes path works known bytes (errors.Io fault) m h = absurd h
  of_bytes path works known bytes (errors.Decode e) m h = (bytes, m, h)
  of_bytes path works known bytes (errors.LinkExtension e) m h = absurd h
  of_bytes path works known bytes errors.Memory m h = tt

  pub of_own : (path : List ℕ) (works : Bool) (disk : Disk) (e : Error)
      → FileReadCause path works disk.own skip kind time options e
      → FilesReadCause path works disk skip kind time options e
  of_own path works disk (errors.Io fault) h = inl h
  of_own path works disk (errors.Decode e) h = inl h
  of_own path works disk (errors.LinkExtension e) h = absurd h
  of_own path works disk errors.Memory h = tt

  pub of_shared : (path : List ℕ) (works : Bool) (disk : Disk) (split : Contents) (checksum : Option ObjectId) (link : LinkValue)
      (e : Error) → IsSplit disk.own skip kind time options split checksum link
      → FileReadCause (shared_path path link.shared) works (disk.shared link.shared) skip kind time
      (expecting options link.shared) e → FilesReadCause path works disk skip kind time options e
  of_shared path works disk split checksum link (errors.Io fault) is h =
      inr (record { split = split; checksum = checksum; link = link; is_split = is; names = h })
  of_shared path works disk split checksum link (errors.Decode e) is h =
      inr (record { split = split; checksum = checksum; link = link; is_split = is; refuses = h })
  of_shared path works disk split checksum link (errors.LinkExtension e) is h = absurd h
  of_shared path works disk split checksum link errors.Memory is h = tt

  -- ---- of the bytes of both

  pub own_of_both : (disk : Disk) (bytes : List ℕ) (e : Error) → MayHave disk.own bytes
      → FileCause (Err e) (IsFileAnswer skip kind time options bytes) → BothFilesCause disk skip kind time options e
  own_of_both disk bytes (errors.Io fault) m h = absurd h
  own_of_both disk bytes (errors.Decode e) m h = inl (bytes, m, h)
  own_of_both disk bytes (errors.LinkExtension e) m h = absurd h
  own_of_both disk bytes errors.Memory m h = tt

  pub shared_of_both : (disk : Disk) (bytes : List ℕ) (split : Contents) (checksum : Option ObjectId) (link : LinkValue)
      (e : Error) → IsSplit disk.own skip kind time options split checksum link
      → MayHave (disk.shared link.shared) bytes
      → FileCause (Err e) (IsFileAnswer skip kind time (expecting options link.shared) bytes)
      → BothFilesCause disk skip kind time options e
  shared_of_both disk bytes split checksum link (errors.Io fault) is m h = absurd h
  shared_of_both disk bytes split checksum link (errors.Decode e) is m h =
      inr (record { split = split; checksum = checksum; link = link; is_split = is; refuses = (bytes, m, h) })
  shared_of_both disk bytes split checksum link (errors.LinkExtension e) is m h = absurd h
  shared_of_both disk bytes split checksum link errors.Memory is m h = tt

  pub link_of_both : (disk : Disk) (split : Contents) (checksum : Option ObjectId) (link : LinkValue)
      (shared : Contents) (shared_checksum : Option ObjectId) (e : LinkError)
      → IsSplit disk.own skip kind time options split checksum link
      → IsReadByItself (disk.shared link.shared) skip kind time (expecting options link.shared) shared shared_checksum
      → DissolveCause e link shared (without_link split) → BothFilesCause disk skip kind time options (link_error_of e)
  link_of_both disk split checksum link shared shared_checksum (links.Corrupt text) is read h = record {
    split = split;
    checksum = checksum;
    link = link;
    is_split = is;
    shared = shared;
    shared_checksum = shared_checksum;
    read_shared = read;
    fault = Corrupt text.now;
    stands_for = refl;
    is_fault = h;
  }
  link_of_both disk split checksum link shared shared_checksum (links.BitmapDecode error name) is read h = record {
    split = split;
    checksum = checksum;
    link = link;
    is_split = is;
    shared = shared;
    shared_checksum = shared_checksum;
    read_shared = read;
    fault = BitmapDecode error name.now;
    stands_for = refl;
    is_fault = h;
  }
  link_of_both disk split checksum link shared shared_checksum links.Memory is read h = tt

  files_of_both : (path : List ℕ) (works : Bool) (disk : Disk) (e : Error)
      → BothFilesCause disk skip kind time options e
      → FilesReadCause path works disk skip kind time options e
  files_of_both path works disk (errors.Io fault) h = absurd h
  files_of_both path works disk (errors.Decode e) h = h
  files_of_both path works disk (errors.LinkExtension e) h = h
  files_of_both path works disk errors.Memory h = h

  pub of_link : (path : List ℕ) (works : Bool) (disk : Disk) (split : Contents) (checksum : Option ObjectId) (link : LinkValue)
      (shared : Contents) (shared_checksum : Option ObjectId) (e : LinkError)
      → IsSplit disk.own skip kind time options split checksum link
      → IsReadByItself (disk.shared link.shared) skip kind time (expecting options link.shared) shared shared_checksum
      → DissolveCause e link shared (without_link split)
      → FilesReadCause path works disk skip kind time options (link_error_of e)
  of_link path works disk split checksum link shared shared_checksum e is read h =
      files_of_both path works disk (link_error_of e)
      (link_of_both disk split checksum link shared shared_checksum e is read h)

  -- ---- what is read by itself, and then followed

  pub read_followed : (disk : Known → Disk) (known : Known) (v : Contents) (c : Option ObjectId) (r : Result File Error)
      → IsReadByItself known skip kind time options v c
      → IfOk r (λ f. (own : Known) → IsReadByItself own skip kind time options v c
      → IsOnDisk (disk own) skip kind time options (contents (state_of f)) (checksum_of f))
      → IfOk r (λ f. IsOnDisk (disk known) skip kind time options (contents (state_of f)) (checksum_of f))
  read_followed disk known v c (Ok f) read h = h known read
  read_followed disk known v c (Err e) read h = tt

  pub fault_followed : (path : List ℕ) (works : Bool) (disk : Known → Disk) (known : Known) (v : Contents)
      (c : Option ObjectId) (r : Result File Error) → IsReadByItself known skip kind time options v c
      → IfErr r (λ e. (own : Known) → IsReadByItself own skip kind time options v c
      → FilesReadCause path works (disk own) skip kind time options e)
      → IfErr r (FilesReadCause path works (disk known) skip kind time options)
  fault_followed path works disk known v c (Ok f) read h = tt
  fault_followed path works disk known v c (Err e) read h = h known read
