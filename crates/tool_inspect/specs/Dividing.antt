-- The parts of a file that a command prints, and how a command ends that has printed them (the program's own).
use Rattle.std.specs.Prelude.{◌≡◌, ℕ, List, Some, None, Result, IfErr, IfOk, OnOk}
use Rattle.std.specs.Borrow.{Bor}
use Rattle.gix_index.specs.DecodeError.{Error}
use Rattle.gix_index.specs.Disk.{MayHave}
use Rattle.gix_index.specs.Disk.World.{Known}
use Rattle.gix_index.specs.Kind.{Kind}
use Rattle.gix_index.specs.OnDisk.FolderTrait.{Ghosts}
use Rattle.tool_errors.specs.Reading.{FailsReading, BytesCause}
use Rattle.tool_errors.specs.declared.failure.Failure.{Failure}
use Rattle.tool_errors.specs.declared.failure.Failure.TheVariants as failures
use Rattle.view_salvage.specs.Division.{IsDivisionOf}
use Rattle.view_salvage.specs.Remains.{last_begin}
use Rattle.view_salvage.specs.declared.division.Division.{Division}

-- these are the parts of bytes that a file may have
pub record IsDivisionOfFile (known : Known) (kind : Kind) (d : Division) : Type 0 where
  pub bytes : List ℕ
  pub held : MayHave known bytes
  pub divides : IsDivisionOf kind bytes d

-- the parts are those of the file at a path; or why its bytes can't be read
pub record DividesFile {S F M : Type 0} (folder : Ghosts S F M) (now : S) (kind : Kind) (path : List ℕ)
    (answer : Result Division Failure) : Type 0 where
  pub divided : IfOk answer (IsDivisionOfFile (folder.known now path) kind)
  pub fault : IfErr answer (FailsReading (BytesCause (folder.works now) (folder.known now) path) path)

-- the failure has the first error, the offset at which the last part begins, and the file
pub record IsFaultOfDivision (path : List ℕ) (d : Division) (failure : Failure) : Type 0 where
  pub file : Bor (List ℕ)
  pub names : file.now ≡ path
  pub fault : Error
  pub first : d.fault ≡ Some fault
  pub is : failure ≡ failures.Damaged file (last_begin d.parts.items) fault

-- there is no error, or it is returned
pub record EndsAsDivided (path : List ℕ) (d : Division) (answer : Result (Unit {0}) Failure) : Type 0 where
  pub whole : OnOk answer (d.fault ≡ None)
  pub damaged : IfErr answer (IsFaultOfDivision path d)
