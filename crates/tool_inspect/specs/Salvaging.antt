-- What the program saves of a damaged file, and of the shared index next to it (the program's own).
use Rattle.std.specs.Prelude.{◌≡◌, ℕ, Bool, true, false, List, length, Option, Some, None, IsSomeAnd, Ok}
use Rattle.std.specs.Option.{option_map}
use Rattle.gix_index.specs.Checked.{IsFileAnswer}
use Rattle.gix_index.specs.Contents.{Contents}
use Rattle.gix_index.specs.Disk.{Disk, MayHave, disk_at}
use Rattle.gix_index.specs.Edits.{with_time, with_version}
use Rattle.gix_index.specs.File.{state_of}
use Rattle.gix_index.specs.FileTime.{FileTime}
use Rattle.gix_index.specs.Kind.{Kind}
use Rattle.gix_index.specs.Link.{link_of}
use Rattle.gix_index.specs.Linked.{expecting}
use Rattle.gix_index.specs.ObjectId.{ObjectId}
use Rattle.gix_index.specs.State.{contents, records}
use Rattle.gix_index.specs.Disk.World.{Known, MayBe, World}
use Rattle.gix_index.specs.declared.file.File.{File}
use Rattle.view_salvage.specs.Accepted.{AreAcceptable}
use Rattle.view_salvage.specs.Remains.{IsPlainIndex, Remain, wanted_id}
use Rattle.view_salvage.specs.Salvage.{SalvagesRemains}
use Rattle.view_salvage.specs.declared.chosen.Keep.{Keep}
use Rattle.view_salvage.specs.declared.chosen.Keep.TheVariants.{All, Front}
use Rattle.view_salvage.specs.declared.remains.Remains.{Remains}
use Rattle.view_salvage.specs.declared.salvage.Salvaged.{Salvaged}
use Rattle.tool_inspect.specs.declared.salvage.Report.{Report}
use Rattle.tool_errors.specs.declared.failure.Failure.{Failure}
use Rattle.tool_errors.specs.Reading.{FailsReading, HeadedBytesCause}
use Rattle.tool_errors.specs.Options.{IsBeginOf1970, options_as_read, unlimited_options}
use Rattle.tool_errors.specs.Storing.{FailsStoring, IsReplaced}

-- A file's bytes are read as the value, with a trailer that must be this id unless it is null. Their checksum is
-- compared, and the time is the beginning of 1970.
pub record IsSharedIn (known : Known) (kind : Kind) (id : ObjectId) (value : Contents) : Type 0 where
  pub bytes : List ℕ
  pub held : MayHave known bytes
  pub checksum : Option ObjectId
  pub time : FileTime
  pub begin : IsBeginOf1970 time
  pub is : IsFileAnswer false kind time (expecting unlimited_options id) bytes (Ok (value, checksum))

-- the shared index that is wanted, or none
abbrev pub IsBeside : (ObjectId → Known) → Kind → Option ObjectId → Option Contents → Type 0
IsBeside shared kind wanted None = Unit {0}
IsBeside shared kind wanted (Some value) = IsSomeAnd wanted (λ id. IsSharedIn (shared id) kind id value)

-- everything that is well formed is preserved, or what comes before the first invalid entry
abbrev pub keep_of : Bool → Keep
keep_of true = All
keep_of false = Front

-- What is saved of these bytes, completed with the shared index that their link wants, if there is one. It has only
-- entries, so that a file can hold it, and git accepts them.
pub record IsOfBytes (keep : Keep) (beside : ObjectId → Known) (kind : Kind) (bytes : List ℕ) (saved : Salvaged)
    : Type 0 where
  pub remains : Remains
  pub remain : Remain kind bytes remains
  pub shared : Option Contents
  pub is_shared : IsBeside beside kind (wanted_id (option_map link_of remains.link)) shared
  pub is : SalvagesRemains keep remains shared saved
  pub acceptable : AreAcceptable kind (records saved.state)
  pub plain : IsPlainIndex saved.state

-- the numbers of what is saved, with the file from which it was saved
pub record Reports (path : List ℕ) (report : Report) (saved : Salvaged) : Type 0 where
  pub names : report.path.now ≡ path
  pub declared : report.counts.declared ≡ saved.declared
  pub read : report.counts.read ≡ saved.read
  pub kept : report.counts.kept ≡ length (records saved.state)
  pub first : report.first ≡ saved.first
  pub fault : report.fault ≡ saved.fault
  pub shared : report.shared ≡ saved.shared

-- What is saved of a file's bytes, as an index that is to be written. It has the file's version and modification time.
pub record IsSavedOf (all : Bool) (disk : Disk) (kind : Kind) (index : File) (saved : Salvaged) : Type 0 where
  pub bytes : List ℕ
  pub time : FileTime
  pub held : MayHave disk.own bytes
  pub since : MayBe disk.own (λ file. time ≡ file.time)
  pub of_bytes : IsOfBytes (keep_of all) disk.shared kind bytes saved
  pub holds : contents (state_of index) ≡ with_version (with_time (contents saved.state) time) saved.version

-- what is saved of the file at a path, and its report
pub record IsSalvaged (all : Bool) (world : World) (kind : Kind) (path : List ℕ) (report : Report) (index : File)
    : Type 0 where
  pub saved : Salvaged
  pub is_saved : IsSavedOf all (disk_at world path) kind index saved
  pub reports : Reports path report saved

-- A file was read under the lock of the file that is written, and what was saved of it was written there. It was
-- written in version 4 if the file is in version 4.
abbrev pub Salvages : Bool → Bool → Bool → Kind → World → World → List ℕ → List ℕ → Report → Type 0
Salvages all alone guards kind old new path to report = IsReplaced alone guards old new to
    (λ world index. IsSalvaged all world kind path report index)
    (λ index. options_as_read (contents (state_of index)).version)

-- nothing is written, or nothing is saved
abbrev pub FailsToSalvage : Bool → Bool → Kind → World → List ℕ → List ℕ → Failure → Type 0
FailsToSalvage works guards kind old path to failure =
    FailsStoring works guards old to (λ world. FailsReading (HeadedBytesCause works world kind path) path) failure
