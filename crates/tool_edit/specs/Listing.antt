-- Which lines the program prints of an index in a file (the program's own).
use Rattle.std.specs.Prelude.{◌≡◌, ◌⊎◌, ℕ, Bool, List, Option, Result}
use Rattle.gix_index.specs.Disk.{Disk, disk_at}
use Rattle.gix_index.specs.Disk.World.{World}
use Rattle.gix_index.specs.Hashing.Out.{Ghosts as Output}
use Rattle.gix_index.specs.Kind.{Kind}
use Rattle.gix_index.specs.ObjectId.{ObjectId}
use Rattle.gix_index.specs.Contents.{Contents}
use Rattle.view_list.specs.Line.{listing}
use Rattle.base_text.specs.declared.lines.Lines.{Lines}
use Rattle.gix_index.specs.OnDisk.FolderTrait.{Ghosts as Folder}
use Rattle.tool_errors.specs.declared.failure.Failure.{Failure}
use Rattle.tool_errors.specs.Nuls.{AreShown, IsOfNul}
use Rattle.tool_errors.specs.Reading.{FailsReading, IsInFile, IndexReadCause}
use Rattle.tool_errors.specs.Outputs.{EndsOutput, NoText}

-- the lines of the index in a file, in a style that shows its paths
pub record IsListing (style : Lines) (disk : Disk) (kind : Kind) (text : List ℕ) : Type 0 where
  pub value : Contents
  pub checksum : Option ObjectId
  pub read : IsInFile disk kind value checksum
  pub shown : AreShown style value.records
  pub is : text ≡ listing style value.records

-- a failure of an index in a file with a path that the style can't show
pub record IsOfNulIn (style : Lines) (disk : Disk) (kind : Kind) (path : List ℕ) (failure : Failure) : Type 0 where
  pub value : Contents
  pub checksum : Option ObjectId
  pub read : IsInFile disk kind value checksum
  pub is : IsOfNul style value.records path failure

-- the index can't be read, or can't be shown in the style
abbrev pub FailsToList : Lines → Bool → World → Kind → List ℕ → Failure → Type 0
FailsToList style works world kind path failure =
    FailsReading (IndexReadCause works world kind path) path failure
    ⊎ IsOfNulIn style (disk_at world path) kind path failure

-- the lines are printed for the index in the file at a path of a folder, or why they aren't
abbrev pub ListsIndex : {S F M T : Type 0} → Lines → Folder S F M → S → Kind → List ℕ → Output T → T → T
    → Result (Unit {0}) Failure → Type 0
ListsIndex style folder now kind path writer old new answer = EndsOutput writer old new
    (IsListing style (disk_at (folder.known now) path) kind) NoText
    (FailsToList style (folder.works now) (folder.known now) kind path) path answer
