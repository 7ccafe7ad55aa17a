-- What each call returns that saves what can be read of a file, or searches for the shared index next to it (the
-- program's own).
use Rattle.std.specs.Prelude.{◌≡◌, ℕ, Bool, List, Option, Result, IfErr, IfOk, IfSome}
use Rattle.std.specs.Global.{Vec}
use Rattle.std.specs.Option.{option_map}
use Rattle.gix_index.specs.Disk.{MayHave, disk_at}
use Rattle.gix_index.specs.Disk.World.{Known, MayBe, World}
use Rattle.gix_index.specs.FileTime.{FileTime}
use Rattle.gix_index.specs.Kind.{Kind}
use Rattle.gix_index.specs.ObjectId.{ObjectId}
use Rattle.gix_index.specs.State.{PathsInStorage, contents}
use Rattle.gix_index.specs.StateType.{State}
use Rattle.gix_index.specs.Storable.{IsStorable}
use Rattle.view_salvage.specs.Remains.{IsPlainIndex, Remain}
use Rattle.view_salvage.specs.declared.chosen.Keep.{Keep}
use Rattle.view_salvage.specs.declared.remains.Remains.{Remains}
use Rattle.view_salvage.specs.declared.salvage.Salvaged.{Salvaged}
use Rattle.gix_index.specs.OnDisk.FolderTrait.{Ghosts}
use Rattle.tool_errors.specs.declared.failure.Failure.{Failure}
use Rattle.tool_errors.specs.Reading.{FailsReading, HeadedBytesCause}
use Rattle.tool_errors.specs.Storing.{EndsStoring}
use Rattle.tool_inspect.specs.Salvaging.{FailsToSalvage, IsBeside, IsOfBytes, IsSharedIn, Salvages}
use Rattle.tool_inspect.specs.declared.salvage.Report.{Report}

-- ---- the shared index

-- if a file can be read, what was found are its bytes
abbrev pub AreBytesOf : Known → Option (Vec ℕ) → Type 0
AreBytesOf known found = IfSome found (λ bytes. MayHave known bytes.items)

-- what was found is the shared index with this id, in any file that has these bytes
abbrev pub IsSharedOf : Kind → ObjectId → List ℕ → Option State → Type 0
IsSharedOf kind id bytes found =
    IfSome found (λ state. (known : Known) → MayHave known bytes → IsSharedIn known kind id (contents state))

-- what was found is the shared index that is wanted, next to the file at a path
abbrev pub IsSharedBeside : World → Kind → List ℕ → Option ObjectId → Option State → Type 0
IsSharedBeside world kind path wanted found =
    IsBeside (disk_at world path).shared kind wanted (option_map contents found)

-- A predicate holds of what was found. If a state was found, its paths are in its storage, and a file can hold it.
pub record FindsShared {E : Type 0} (Found : Option State → Type 0) (answer : Result (Option State) E) : Type 0 where
  pub read : IfOk answer Found
  pub placed : IfOk answer (λ found. IfSome found PathsInStorage)
  pub storable : IfOk answer (λ found. IfSome found (λ state. IsStorable (contents state)))

-- ---- what is saved

-- What remains of a file with these bytes, as an index with this hash algorithm and without extensions; or why nothing
-- remains. Nothing else needs to be known of the file than that it may have these bytes.
pub record GivesRemains (wanted : Kind) (bytes path : List ℕ) (answer : Result Remains Failure) : Type 0 where
  pub remains : IfOk answer (Remain wanted bytes)
  pub kind : IfOk answer (λ remains. (contents remains.front).kind ≡ wanted)
  pub plain : IfOk answer (λ remains. IsPlainIndex remains.front)
  pub fault : (works : Bool) (world : World) → MayHave (world path) bytes
      → IfErr answer (FailsReading (HeadedBytesCause works world wanted path) path)

-- What is saved of these bytes and of the shared index next to the file at a path; or why nothing is. Nothing else
-- needs to be known of the file than that it may have these bytes.
pub record SavesBytes {S F M : Type 0} (folder : Ghosts S F M) (now : S) (keep : Keep) (kind : Kind)
    (bytes path : List ℕ) (answer : Result Salvaged Failure) : Type 0 where
  pub saved : IfOk answer (IsOfBytes keep (disk_at (folder.known now) path).shared kind bytes)
  pub fault : (works : Bool) (world : World) → MayHave (world path) bytes
      → IfErr answer (FailsReading (HeadedBytesCause works world kind path) path)

-- what is saved of the file at a path, and its modification time; or why nothing is
pub record SalvagesFileAt {S F M : Type 0} (folder : Ghosts S F M) (now : S) (keep : Keep) (kind : Kind) (path : List ℕ)
    (answer : Result (Salvaged × FileTime) Failure) : Type 0 where
  pub saved : IfOk answer (λ x. (bytes : List ℕ) × MayHave (folder.known now path) bytes
      × IsOfBytes keep (disk_at (folder.known now) path).shared kind bytes x.0)
  pub since : IfOk answer (λ x. MayBe (folder.known now path) (λ file. x.1 ≡ file.time))
  pub fault : IfErr answer (FailsReading (HeadedBytesCause (folder.works now) (folder.known now) kind path) path)

-- what is saved is written to another path, and reported; or why it isn't
abbrev pub SalvagesFile : {S F M : Type 0} → Bool → Ghosts S F M → S → S → Kind → List ℕ → List ℕ → Result Report Failure
    → Type 0
SalvagesFile all folder old new kind path to answer = EndsStoring folder old new to
    (Salvages all (folder.alone old) (folder.guards old) kind (folder.known old) (folder.known new) path to)
    (FailsToSalvage (folder.works old) (folder.guards old) kind (folder.known old) path to) answer
