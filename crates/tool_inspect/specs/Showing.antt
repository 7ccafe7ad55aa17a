-- What a file holds, as the program prints it, for people or as JSON (the program's own).
use Rattle.std.specs.Prelude.{◌≡◌, ℕ, Bool, false, List, Option, Ok, Result, IfErr, IfOk}
use Rattle.gix_index.specs.Behind.{FollowEntries}
use Rattle.gix_index.specs.Checked.{IsFileAnswer}
use Rattle.gix_index.specs.Contents.{Contents}
use Rattle.gix_index.specs.Disk.{MayHave}
use Rattle.gix_index.specs.File.{checksum_of, state_of}
use Rattle.gix_index.specs.FileTime.{FileTime}
use Rattle.gix_index.specs.Hashing.Out.{Ghosts as Output}
use Rattle.gix_index.specs.Kind.{Kind}
use Rattle.gix_index.specs.ObjectId.{ObjectId}
use Rattle.gix_index.specs.State.{PathsInStorage, contents}
use Rattle.gix_index.specs.Disk.World.{Known, World}
use Rattle.gix_index.specs.FileFaults.{FileReadCause}
use Rattle.gix_index.specs.FileFaults.ReadError.{Error as ReadFault}
use Rattle.gix_index.specs.FileFaults.ReadError.TheVariants as reads
use Rattle.std.specs.declared.io.Error.{Error as IoError}
use Rattle.base_text.specs.Blocks.{PutsText}
use Rattle.view_json.specs.Json.{json_text}
use Rattle.ext_small.specs.Marks.{AreMarks}
use Rattle.view_show.specs.Show.{show_lines}
use Rattle.ext_small.specs.declared.marks.Marks.{Marks}
use Rattle.gix_index.specs.OnDisk.FolderTrait.{Ghosts as Folder}
use Rattle.tool_errors.specs.declared.failure.Failure.{Failure}
use Rattle.tool_errors.specs.Options.{unlimited_options, IsBeginOf1970}
use Rattle.tool_errors.specs.Reading.{FailsReading}
use Rattle.tool_errors.specs.Outputs.{EndsOutput, NoText}
use Rattle.tool_inspect.specs.declared.show.ShowFormat.{ShowFormat}
use Rattle.tool_inspect.specs.declared.show.ShowFormat.TheVariants as formats
use Rattle.tool_inspect.specs.declared.show.Inspected.{Inspected}

-- The file's bytes are read as the value, without a shared index. `marks` has the contents of the offset table and the
-- end marker after their entries. Their checksum is compared, and the time is the beginning of 1970.
pub record IsInBytes (known : Known) (kind : Kind) (value : Contents) (checksum : Option ObjectId) (marks : Marks)
    : Type 0 where
  pub time : FileTime
  pub begin : IsBeginOf1970 time
  pub bytes : List ℕ
  pub held : MayHave known bytes
  pub ending : List ℕ
  pub is : IsFileAnswer false kind time unlimited_options bytes (Ok (value, checksum))
  pub behind : FollowEntries kind bytes ending
  pub marked : AreMarks kind ending marks

-- the text that is printed of what a file's bytes hold
pub record IsOfContents (text : Contents → Option ObjectId → Marks → List ℕ) (known : Known) (kind : Kind)
    (told : List ℕ) : Type 0 where
  pub value : Contents
  pub checksum : Option ObjectId
  pub marks : Marks
  pub held : IsInBytes known kind value checksum marks
  pub is : told ≡ text value checksum marks

-- the text of a value in each format
abbrev pub shown_text : ShowFormat → Contents → Option ObjectId → Marks → List ℕ
shown_text formats.Lines value checksum marks = show_lines value checksum marks
shown_text formats.Json value checksum marks = json_text value checksum marks

abbrev pub IsShown : ShowFormat → Known → Kind → List ℕ → Type 0
IsShown format known kind text = IsOfContents (shown_text format) known kind text

-- The error is why the file at a path of a folder that works or may fail isn't read without its shared index. Running
-- out of memory states nothing.
abbrev pub FileAloneCause : Bool → World → Kind → List ℕ → ReadFault → Type 0
FileAloneCause works world kind path reads.Memory = Unit {0}
FileAloneCause works world kind path e =
    (time : FileTime) × FileReadCause path works (world path) false kind time unlimited_options e

-- ---- what each call returns

-- the file at a path of a folder can't be read without its shared index, because of the failure's error
abbrev pub FailsToReadAlone : {S F M : Type 0} → Folder S F M → S → Kind → List ℕ → Failure → Type 0
FailsToReadAlone folder now kind path failure =
    FailsReading (FileAloneCause (folder.works now) (folder.known now) kind path) path failure

-- what the file holds, with its paths in its storage; or why it can't be read
pub record ReadsAlone {S F M : Type 0} (folder : Folder S F M) (now : S) (kind : Kind) (path : List ℕ)
    (answer : Result Inspected Failure) : Type 0 where
  pub told : IfOk answer (λ told. IsInBytes (folder.known now path) kind (contents (state_of told.index))
      (checksum_of told.index) told.marks)
  pub placed : IfOk answer (λ told. PathsInStorage (state_of told.index))
  pub fault : IfErr answer (FailsToReadAlone folder now kind path)

-- the text in this format of what was read, or why it isn't written
abbrev pub PutsShown : {T : Type 0} → ShowFormat → Inspected → Output T → T → T → Result (Unit {0}) IoError → Type 0
PutsShown format told writer old new answer = PutsText writer old new answer
    (shown_text format (contents (state_of told.index)) (checksum_of told.index) told.marks)

-- the text in this format of the file at a path, or why it isn't written
abbrev pub ShowsFile : {S F M T : Type 0} → ShowFormat → Folder S F M → S → Kind → List ℕ → Output T → T → T
    → Result (Unit {0}) Failure → Type 0
ShowsFile format folder now kind path writer old new answer = EndsOutput writer old new
    (IsShown format (folder.known now path) kind) NoText (FailsToReadAlone folder now kind path) path answer
