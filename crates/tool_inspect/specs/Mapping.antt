-- The map of a file that the program prints, and the picture that it draws (the program's own).
use Rattle.std.specs.Prelude.{◌≡◌, ◌⊎◌, ℕ, Bool, List, Option, Some, None, Result}
use Rattle.gix_index.specs.DecodeError.{Error}
use Rattle.gix_index.specs.Disk.{MayHave}
use Rattle.gix_index.specs.Hashing.Out.{Ghosts as Output}
use Rattle.gix_index.specs.Kind.{Kind}
use Rattle.gix_index.specs.Record.{Record}
use Rattle.gix_index.specs.Disk.World.{Known, World}
use Rattle.view_salvage.specs.Division.{Divides}
use Rattle.view_layout.specs.Lines.{map_lines}
use Rattle.view_salvage.specs.Remains.{last_begin}
use Rattle.base_text.specs.declared.lines.Lines.{Lines}
use Rattle.view_layout.specs.declared.part.Part.{Part}
use Rattle.view_layout.specs.Picture.{picture_text}
use Rattle.gix_index.specs.OnDisk.FolderTrait.{Ghosts as Folder}
use Rattle.tool_errors.specs.declared.failure.Failure.{Failure}
use Rattle.tool_errors.specs.Nuls.{AreShown, IsOfNul}
use Rattle.tool_errors.specs.Reading.{FailsReading, BytesCause}
use Rattle.tool_errors.specs.Outputs.{EndsOutput}

-- what is printed of the parts of a file's bytes, which have this first error or none
pub record IsOfParts (text : List Record → List Part → List ℕ) (fault : Option Error) (known : Known) (kind : Kind)
    (told : List ℕ) : Type 0 where
  pub bytes : List ℕ
  pub held : MayHave known bytes
  pub records : List Record
  pub parts : List Part
  pub divided : Divides kind bytes records parts fault
  pub is : told ≡ text records parts

-- what is printed of the parts of bytes with an error, at which their last part begins
abbrev pub IsOfDamaged : (List Record → List Part → List ℕ) → Known → Kind → ℕ → Error → List ℕ → Type 0
IsOfDamaged text known kind offset e told =
    (is : IsOfParts text (Some e) known kind told) × (offset ≡ last_begin is.parts)

-- the map, in a style that shows the paths, and the picture of a file with this first error, or none
abbrev pub IsMap : Lines → Option Error → Known → Kind → List ℕ → Type 0
IsMap style fault known kind text =
    (is : IsOfParts (map_lines style) fault known kind text) × AreShown style is.records

abbrev pub IsPicture : Option Error → Known → Kind → List ℕ → Type 0
IsPicture fault known kind text = IsOfParts picture_text fault known kind text

-- the map, in a style that shows the paths, and the picture of a damaged file, with its first error at this offset
abbrev pub IsDamagedMap : Lines → Known → Kind → ℕ → Error → List ℕ → Type 0
IsDamagedMap style known kind offset e text =
    (is : IsOfDamaged (map_lines style) known kind offset e text) × AreShown style is.0.records

abbrev pub IsDamagedPicture : Known → Kind → ℕ → Error → List ℕ → Type 0
IsDamagedPicture known kind offset e text = IsOfDamaged picture_text known kind offset e text

-- a failure of a file with a path that the style can't show
pub record IsNulPathFailure (style : Lines) (known : Known) (kind : Kind) (path : List ℕ) (failure : Failure) : Type 0
  where
    pub bytes : List ℕ
    pub held : MayHave known bytes
    pub records : List Record
    pub parts : List Part
    pub fault : Option Error
    pub divided : Divides kind bytes records parts fault
    pub is : IsOfNul style records path failure

-- the bytes of the file can't be read, or can't be shown in the style
abbrev pub FailsToMap : Lines → Bool → World → Kind → List ℕ → Failure → Type 0
FailsToMap style works world kind path failure =
    FailsReading (BytesCause works world path) path failure ⊎ IsNulPathFailure style (world path) kind path failure

-- the map is printed of the file at a path of a folder, or why it isn't
abbrev pub MapsFile : {S F M T : Type 0} → Lines → Folder S F M → S → Kind → List ℕ → Output T → T → T
    → Result (Unit {0}) Failure → Type 0
MapsFile style folder now kind path writer old new answer = EndsOutput writer old new
    (IsMap style None (folder.known now path) kind) (IsDamagedMap style (folder.known now path) kind)
    (FailsToMap style (folder.works now) (folder.known now) kind path) path answer

-- the picture is printed of the file at a path of a folder, or why it isn't
abbrev pub DrawsFile : {S F M T : Type 0} → Folder S F M → S → Kind → List ℕ → Output T → T → T
    → Result (Unit {0}) Failure → Type 0
DrawsFile folder now kind path writer old new answer = EndsOutput writer old new
    (IsPicture None (folder.known now path) kind) (IsDamagedPicture (folder.known now path) kind)
    (FailsReading (BytesCause (folder.works now) (folder.known now) path) path) path answer
