-- What the program checks of an index, and what it prints then (the program's own).
use Rattle.std.specs.Prelude.{◌≡◌, ◌⊎◌, ℕ, Bool, true, List, length, MatchOption, None, Option, IfSome, codes, Result}
use Rattle.std.specs.Prelude.{IfErr, OnOk}
use Rattle.gix_index.specs.Disk.{Disk, disk_at}
use Rattle.gix_index.specs.Disk.World.{World}
use Rattle.gix_index.specs.Hashing.Out.{Ghosts as Output}
use Rattle.gix_index.specs.Kind.{Kind}
use Rattle.gix_index.specs.ObjectId.{ObjectId}
use Rattle.gix_index.specs.Order.{IsStrictlyOrdered}
use Rattle.gix_index.specs.Contents.{Contents}
use Rattle.gix_index.specs.Record.{Record}
use Rattle.gix_index.specs.SoundState.{AreSoundExtensions, OrderCause, extensions_fault}
use Rattle.gix_index.specs.TreeFaults.{NodeCause}
use Rattle.gix_index.specs.TreeIds.{AreRight, TreeIdsCause}
use Rattle.gix_index.specs.VerifiedFile.{FitsFile}
use Rattle.gix_index.specs.OnDisk.FolderTrait.{Ghosts as Folder}
use Rattle.tool_edit.specs.declared.check.Checks.{Checks}
use Rattle.tool_errors.specs.declared.failure.Failure.{Failure}
use Rattle.tool_errors.specs.declared.failure.Failure.TheVariants as failures
use Rattle.tool_errors.specs.Reading.{FailsReading, IsInFile, IndexReadCause}
use Rattle.tool_errors.specs.Outputs.{EndsOutput, NoText}
use Rattle.view_strict.specs.Strict.{IsStrict, UnsoundCause}

abbrev pub ok_line : List ℕ
ok_line = codes "ok\n"

-- the cache tree, if there is one, has for each directory what the entries give
abbrev pub HasRightTrees : Contents → Type 0
HasRightTrees value = IfSome value.extensions.tree (AreRight value.kind value.records)

-- An index in a file that passes the checks. Its entries strictly increase by path, then by stage. Its cache tree, if
-- it has one, is consistent and counts no more than these entries. With `trees`, the cache tree has what the entries
-- give. With `strict`, git accepts each entry. The checksum, unless it is null, matches the file's bytes, if they are
-- known.
pub record IsSoundInFile (checks : Checks) (disk : Disk) (kind : Kind) (value : Contents) (checksum : Option ObjectId) : Type 0 where
  pub read : IsInFile disk kind value checksum
  pub ordered : IsStrictlyOrdered value.records
  pub tree : AreSoundExtensions (length value.records) value.extensions.tree
  pub trees : checks.trees ≡ true → HasRightTrees value
  pub strict : checks.strict ≡ true → IsStrict value.kind value.records
  pub intact : IfSome checksum (FitsFile disk.own)

-- the line of an index in a file that passed all checks
pub record IsPassed (checks : Checks) (disk : Disk) (kind : Kind) (text : List ℕ) : Type 0 where
  pub value : Contents
  pub checksum : Option ObjectId
  pub sound : IsSoundInFile checks disk kind value checksum
  pub is : text ≡ ok_line

-- A failure of entries that aren't in order names the first that isn't above the one before it. Or memory was too short
-- to name it.
abbrev pub IsOfEntries : List Record → List ℕ → Failure → Type 0
IsOfEntries rs path (failures.Entries file fault) = (file.now ≡ path) × OrderCause rs fault
IsOfEntries rs path failure = ⊥

-- A failure of an index that doesn't pass the checks names its file, and has what is wrong. Either its entries aren't
-- in order; or it is the first error of the cache tree. With `trees`, it may be what else the entries give; with
-- `strict`, the first entry that git doesn't accept.
abbrev pub IsOfCheck : Checks → Contents → List ℕ → Failure → Type 0
IsOfCheck checks value path (failures.Entries file fault) = (file.now ≡ path) × OrderCause value.records fault
IsOfCheck checks value path (failures.CachedTree file fault) =
    (file.now ≡ path) × NodeCause fault (extensions_fault (length value.records) None value.extensions.tree)
IsOfCheck checks value path (failures.TreeIds file fault) =
    (file.now ≡ path) × (checks.trees ≡ true)
    × MatchOption value.extensions.tree ⊥ (λ tree. TreeIdsCause value.kind value.records tree fault)
IsOfCheck checks value path (failures.Strict file fault) =
    (file.now ≡ path) × (checks.strict ≡ true) × UnsoundCause value.kind value.records fault
IsOfCheck checks value path failure = ⊥

-- a failure of the index in a file that doesn't pass the checks
pub record IsOfCheckIn (checks : Checks) (disk : Disk) (kind : Kind) (path : List ℕ) (failure : Failure) : Type 0 where
  pub value : Contents
  pub checksum : Option ObjectId
  pub read : IsInFile disk kind value checksum
  pub is : IsOfCheck checks value path failure

-- the index can't be read, or doesn't pass the checks
abbrev pub FailsToPass : Checks → Bool → World → Kind → List ℕ → Failure → Type 0
FailsToPass checks works world kind path failure =
    FailsReading (IndexReadCause works world kind path) path failure
    ⊎ IsOfCheckIn checks (disk_at world path) kind path failure

-- the cache tree matches the entries if the comparison is requested, or the failure has what else these give
pub record ComparesTrees (checks : Checks) (value : Contents) (path : List ℕ) (answer : Result (Unit {0}) Failure)
    : Type 0 where
  pub right : OnOk answer (checks.trees ≡ true → HasRightTrees value)
  pub fault : IfErr answer (IsOfCheck checks value path)

-- git accepts each entry if that check is requested, or the failure has the first that it doesn't accept
pub record LooksAtEach (checks : Checks) (value : Contents) (path : List ℕ) (answer : Result (Unit {0}) Failure)
    : Type 0 where
  pub sound : OnOk answer (checks.strict ≡ true → IsStrict value.kind value.records)
  pub fault : IfErr answer (IsOfCheck checks value path)

-- The entries are in order and the cache tree is consistent, and both pass what is requested; or the failure has what
-- is wrong.
pub record Verifies (checks : Checks) (value : Contents) (path : List ℕ) (answer : Result (Unit {0}) Failure) : Type 0 where
  pub ordered : OnOk answer (IsStrictlyOrdered value.records)
  pub tree : OnOk answer (AreSoundExtensions (length value.records) value.extensions.tree)
  pub right : OnOk answer (checks.trees ≡ true → HasRightTrees value)
  pub strict : OnOk answer (checks.strict ≡ true → IsStrict value.kind value.records)
  pub fault : IfErr answer (IsOfCheck checks value path)

-- the line of an index that passed all checks is printed for the file at a path of a folder, or why it isn't
abbrev pub ChecksIndex : {S F M T : Type 0} → Checks → Folder S F M → S → Kind → List ℕ → Output T → T → T
    → Result (Unit {0}) Failure → Type 0
ChecksIndex checks folder now kind path writer old new answer = EndsOutput writer old new
    (IsPassed checks (disk_at (folder.known now) path) kind) NoText
    (FailsToPass checks (folder.works now) (folder.known now) kind path) path answer
