-- What is read of a file, by what was wanted of it.
use Rattle.std.proofs.Common.{◌≡◌, ◌++◌, ℕ, Bool, true, false, List, Option, Some, inl, inr, subst, arith}
use Rattle.std.specs.Prelude.{◌⊎◌, codes, pos, Result, Ok, Err, IfErr, IfOk, IsTrue}
use Rattle.index_parts.specs.declared.hash.Kind.{Kind}
use Rattle.index_parts.specs.declared.hash.ObjectId.{ObjectId}
use Rattle.entry_fields.specs.declared.entry.stat.FileTime.{FileTime}
use Rattle.file_place.specs.Locks.{LeadsTo}
use Rattle.file_place.specs.World.{Known, Makes, MayBe, MayBeMissing, Stored, World}
use Rattle.index_model.specs.declared.decode.Options.{Options}
use Rattle.index_state.specs.State.{contents}
use Rattle.gix_index.specs.Disk.{IsTimeFor, disk_at, disk_beside, known_of}
use Rattle.gix_index.specs.File.{IsEmptyFile, checksum_of, state_of}
use Rattle.gix_index.specs.FileFaults.{FailsUnderLock, FileReadCause, FilesReadCause}
use Rattle.gix_index.specs.Linked.{IsOnDisk, IsOnDiskSince}
use Rattle.gix_index.specs.declared.file.File.{File}
use Rattle.file_errors.specs.declared.init.Error.{Error}
use Rattle.file_errors.specs.declared.init.Error.TheVariants as errors
use Rattle.gix_index.proofs.FileFaults.{disk_there, fault_there, faults_there, of_own, opened_so}
use Rattle.gix_index.proofs.Times.{since}

-- the time of an opened file is that of the file at the path
pub time_there : (wanted : Bool) (given : FileTime) (k : Known) (stored : Option Stored) (time : FileTime)
    → MayBe k (λ there. stored ≡ Some there) → IsTimeFor wanted given (known_of stored) time
    → IsTimeFor wanted given k time
time_there false given k stored time o h = h
time_there true given k stored time o h = opened_so k stored (λ file. time ≡ file.time) o h

given_by : (wanted : Bool) (given time : FileTime) (k : Known) → IsTimeFor wanted given k time → wanted ≡ false
    → time ≡ given
given_by false given time k h e = h
given_by true given time k h e = absurd cc

module _ (skip : Bool) (kind : Kind) (options : Options) where
  -- of the opened file, and so of the file at the path
  pub read_at : (wanted : Bool) (given time : FileTime) (k : Known) (stored : Option Stored)
      (shared : ObjectId → Known) (E : File → Type 0) (r : Result File Error)
      → MayBe k (λ there. stored ≡ Some there) → IsTimeFor wanted given (known_of stored) time
      → IfOk r (λ f. IsOnDisk (record { own = known_of stored; shared = shared }) skip kind time options
      (contents (state_of f)) (checksum_of f))
      → IfOk r (λ f. ((t : FileTime) × IsTimeFor wanted given k t
      × IsOnDisk (record { own = k; shared = shared }) skip kind t options (contents (state_of f)) (checksum_of f))
      ⊎ E f)
  read_at wanted given time k stored shared E (Ok f) o t h = inl (
    time,
    time_there wanted given k stored time o t,
    disk_there skip kind time options k stored shared (contents (state_of f)) (checksum_of f) o h,
  )
  read_at wanted given time k stored shared E (Err e) o t h = tt

  pub fault_at : (works wanted : Bool) (given time : FileTime) (path : List ℕ) (k : Known) (stored : Option Stored)
      (shared : ObjectId → Known) (r : Result File Error) → MayBe k (λ there. stored ≡ Some there)
      → IsTimeFor wanted given (known_of stored) time
      → IfErr r (FilesReadCause path works (record { own = known_of stored; shared = shared }) skip kind time options)
      → IfErr r (λ e. (t : FileTime) × (wanted ≡ false → t ≡ given)
      × FilesReadCause path works (record { own = k; shared = shared }) skip kind t options e)
  fault_at works wanted given time path k stored shared (Ok f) o t h = tt
  fault_at works wanted given time path k stored shared (Err e) o t h = (
    time,
    given_by wanted given time (known_of stored) t,
    faults_there skip kind time options path works k stored shared e o h,
  )

  pub own_fault_at : (works opened wanted : Bool) (given time : FileTime) (path : List ℕ) (k : Known)
      (stored : Option Stored) (shared : ObjectId → Known) (e : Error) → (works ≡ true → opened ≡ true)
      → MayBe k (λ there. stored ≡ Some there) → IsTimeFor wanted given (known_of stored) time
      → FileReadCause path opened (known_of stored) skip kind time options e
      → (t : FileTime) × (wanted ≡ false → t ≡ given)
      × FilesReadCause path works (record { own = k; shared = shared }) skip kind t options e
  own_fault_at works opened wanted given time path k stored shared e so o t h = (
    time,
    given_by wanted given time (known_of stored) t,
    of_own skip kind time options path works (record { own = k; shared = shared }) e
        (fault_there skip kind time options path works opened k stored e so o h),
  )

  -- with the time of the file
  pub only_since : (given : FileTime) (world : World) (at path : List ℕ) (r : Result File Error)
      → at ≡ path
      → IfOk r (λ f. ((t : FileTime) × IsTimeFor true given (world at) t
      × IsOnDisk (disk_beside (world at) world path) skip kind t options (contents (state_of f)) (checksum_of f))
      ⊎ (IsTrue false × MayBeMissing (world at) × IsEmptyFile kind given f))
      → IfOk r (λ f. IsOnDiskSince (disk_at world path) skip kind options (contents (state_of f)) (checksum_of f))
  only_since given world at path (Ok f) same (inl h) =
      subst (λ (x : List ℕ). IsOnDiskSince (disk_beside (world x) world path) skip kind options (contents (state_of f))
      (checksum_of f)) same (since skip kind options (disk_beside (world at) world path) h.0 (contents (state_of f))
      (checksum_of f) h.1 h.2)
  only_since given world at path (Ok f) same (inr h) = let no = h.0 in absurd cc
  only_since given world at path (Err e) same h = h

  pub since_or_empty : (given : FileTime) (world : World) (at path : List ℕ) (r : Result File Error)
      → at ≡ path
      → IfOk r (λ f. ((t : FileTime) × IsTimeFor true given (world at) t
      × IsOnDisk (disk_beside (world at) world path) skip kind t options (contents (state_of f)) (checksum_of f))
      ⊎ (IsTrue true × MayBeMissing (world at) × IsEmptyFile kind given f))
      → IfOk r (λ f. IsOnDiskSince (disk_at world path) skip kind options (contents (state_of f)) (checksum_of f)
      ⊎ (MayBeMissing (world path) × IsEmptyFile kind given f))
  since_or_empty given world at path (Ok f) same (inl h) = inl (
      subst (λ (x : List ℕ). IsOnDiskSince (disk_beside (world x) world path) skip kind options (contents (state_of f))
      (checksum_of f)) same (since skip kind options (disk_beside (world at) world path) h.0 (contents (state_of f))
      (checksum_of f) h.1 h.2))
  since_or_empty given world at path (Ok f) same (inr h) =
      inr (subst (λ (x : List ℕ). MayBeMissing (world x)) same h.1, h.2)
  since_or_empty given world at path (Err e) same h = h

  pub some_fault : (works : Bool) (W : FileTime → Type 0) (world : World) (at path : List ℕ) (r : Result File Error) → at ≡ path
      → IfErr r (λ e. (t : FileTime) × W t
      × FilesReadCause path works (disk_beside (world at) world path) skip kind t options e)
      → IfErr r (λ e. (t : FileTime) × FilesReadCause path works (disk_at world path) skip kind t options e)
  some_fault works W world at path (Ok f) same h = tt
  some_fault works W world at path (Err e) same h = (
    h.0,
    subst (λ (x : List ℕ). FilesReadCause path works (disk_beside (world x) world path) skip kind h.0 options e) same
        h.2,
  )

  -- under a lock
  pub locked_read : (Changed : FileTime → Type 0) (given : FileTime) (world : World) (at target path : List ℕ) (f : File)
      (default wanted : Bool) → default ≡ wanted → Changed given → at ≡ target
      → ((t : FileTime) × IsTimeFor true given (world at) t
      × IsOnDisk (disk_beside (world at) world path) skip kind t options (contents (state_of f)) (checksum_of f))
      ⊎ (IsTrue default × MayBeMissing (world at) × IsEmptyFile kind given f)
      → IsOnDiskSince (disk_beside (world target) world path) skip kind options (contents (state_of f)) (checksum_of f)
      ⊎ (IsTrue wanted × MayBeMissing (world target) × ((t : FileTime) × Changed t × IsEmptyFile kind t f))
  locked_read Changed given world at target path f default wanted is told same (inl h) = inl (
      subst (λ (x : List ℕ). IsOnDiskSince (disk_beside (world x) world path) skip kind options (contents (state_of f))
      (checksum_of f)) same (since skip kind options (disk_beside (world at) world path) h.0 (contents (state_of f))
      (checksum_of f) h.1 h.2))
  locked_read Changed given world at target path f default wanted is told same (inr h) =
      inr (subst IsTrue is h.0, subst (λ (x : List ℕ). MayBeMissing (world x)) same h.1, (given, told, h.2))

  pub locked_fault : (works then : Bool) (guards : Bool) (W : FileTime → Type 0) (old behind : World)
      (path target at lock : List ℕ) (e : Error) → then ≡ works → at ≡ target → LeadsTo old 5 path target
      → lock ≡ target ++ codes ".lock" → Makes guards old behind lock
      → (t : FileTime) × W t × FilesReadCause path then (disk_beside (behind at) behind path) skip kind t options e
      → FailsUnderLock path works guards old skip kind options e
  locked_fault works then guards W old behind path target at lock e still same leads beside made h = record {
    target = target;
    behind = behind;
    leads = leads;
    made = subst (Makes guards old behind) beside made;
    time = h.0;
    says = subst (λ (x : List ℕ). FilesReadCause path works (disk_beside (behind x) behind path) skip kind h.0 options e) same
        (subst (λ (b : Bool). FilesReadCause path b (disk_beside (behind at) behind path) skip kind h.0 options e) still h.2);
  }

-- the begin of 1970
begin : FileTime
begin = record { seconds = pos 0; nanoseconds = 0; below_a_second = omega arith }

pub no_memory : (Says : FileTime → Error → Type 0) (r : Result File Error)
    → ((t : FileTime) → Says t errors.Memory) → IfErr r (λ e. e ≡ errors.Memory) → IfErr r (λ e. (t : FileTime) × Says t e)
no_memory Says (Ok f) h is = tt
no_memory Says (Err e) h is = rw is (begin, h begin)
