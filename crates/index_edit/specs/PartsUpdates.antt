-- The results of the calls that change the parts of an index in memory, and the parts after them (the library's own).
-- Everything except the reasons and the indexes is guaranteed for records that strictly increase. The value of the
-- parts is guaranteed if their paths are also in their storage.
use Rattle.std.specs.Prelude.{◌≡◌, ℕ, List, [], ◌∷◌, All, count_by, None, Result, IfOk, OnErr, OnOk}
use Rattle.std.specs.Borrow.{Bor}
use Rattle.entry_edit.specs.Changes.{IsAppliedTo}
use Rattle.entry_edit.specs.Edits.{IsResolvedInto, IsStagedInto, AreDisplacedCounts, IsUnstagedFrom, merged}
use Rattle.entry_edit.specs.EntryEdits.{FirstRejectedCause, StageCause}
use Rattle.entry_edit.specs.Refusals.{Check}
use Rattle.entry_edit.specs.Wholes.{WholeDirectoryCause}
use Rattle.entry_edit.specs.declared.change.ApplyError.{ApplyError}
use Rattle.entry_edit.specs.declared.change.Change.{Change}
use Rattle.entry_edit.specs.declared.change.Change.TheVariants.{Stage, Unstage}
use Rattle.entry_edit.specs.declared.error.Error.{Error}
use Rattle.entry_edit.specs.declared.stage.Displaced.{Displaced}
use Rattle.entry_list.specs.Order.{IsStrictlyOrdered}
use Rattle.entry_list.specs.Record.{with_path}
use Rattle.entry_list.specs.declared.Pathless.{Pathless}
use Rattle.index_model.specs.Contents.{PartsInStorage, parts_contents, parts_records, parts_storage}
use Rattle.index_model.specs.declared.Parts.{Parts}
use Rattle.index_model.specs.declared.extension.Outcome.{Outcome}
use Rattle.entry_lookup.specs.Range.{is_at}
use Rattle.index_edit.specs.StillStorable.{StagesSized, StaysStorable}
use Rattle.index_edit.specs.Updates.{AreUnchanged, updated}
use Rattle.index_edit.specs.declared.kept.Kept.{Kept}

-- extensions without those that are updated when entries change, and with them
abbrev pub without_kept : Outcome → Outcome
without_kept e = record e { tree = None; resolve_undo = None; untracked = None; fs_monitor = None }

abbrev pub with_kept : Kept → Outcome → Outcome
with_kept kept e = record e {
  tree = kept.tree;
  resolve_undo = kept.undo;
  untracked = kept.untracked;
  fs_monitor = kept.monitor;
}

-- if the paths are in their storage, and the records strictly increase, the value of the parts is `updated` by the
-- changes
abbrev pub UpdatesParts : List Change → Parts → Parts → Type 0
UpdatesParts cs old new =
    PartsInStorage old → IsStrictlyOrdered (parts_records old) → parts_contents new ≡ updated cs (parts_contents old)

-- If the paths are in their storage, the records strictly increase, and a file can store the value of the parts, one
-- still can.
abbrev pub KeepsPartsStorable : Parts → Parts → Type 0
KeepsPartsStorable old new =
    PartsInStorage old → IsStrictlyOrdered (parts_records old) → StaysStorable (parts_contents old) (parts_contents new)

-- the changes are applied, or rejected at the first invalid one
pub record AppliesParts (refusal : Check) (cs : List Change) (old new : Parts) (r : Result (Unit {0}) ApplyError)
    : Type 0 where
  pub reason : FirstRejectedCause refusal old.object_hash cs old.path_backing old.entries r
  pub updated : OnOk r (UpdatesParts cs old new)
  pub applied : OnOk r (PartsInStorage old → IsStrictlyOrdered (parts_records old)
      → IsAppliedTo cs (parts_records old) (parts_records new))
  pub storable : OnOk r (PartsInStorage old → IsStrictlyOrdered (parts_records old) → All StagesSized cs
      → StaysStorable (parts_contents old) (parts_contents new))
  pub placed : PartsInStorage old → PartsInStorage new
  pub err : OnErr r (AreUnchanged old new)

-- an entry is staged at a path
pub record StagesParts (refusal : Check) (entry : Pathless) (path : Bor (List ℕ)) (old new : Parts)
    (r : Result Displaced Error) : Type 0 where
  pub reason : StageCause refusal old.object_hash entry path.now old.path_backing old.entries r
  pub updated : OnOk r (UpdatesParts (Stage entry path ∷ []) old new)
  pub staged : OnOk r (PartsInStorage old → IsStrictlyOrdered (parts_records old)
      → IsStagedInto (with_path path.now entry) (parts_records old) (parts_records new))
  pub storable : OnOk r (KeepsPartsStorable old new)
  pub told : IfOk r (λ told. PartsInStorage old → IsStrictlyOrdered (parts_records old)
      → AreDisplacedCounts (with_path path.now entry) (parts_records old) told)
  pub placed : PartsInStorage old → PartsInStorage new
  pub err : OnErr r (AreUnchanged old new)

-- a merged entry replaces all stages of a path
pub record ResolvesParts (refusal : Check) (entry : Pathless) (path : Bor (List ℕ)) (old new : Parts)
    (r : Result Displaced Error) : Type 0 where
  pub reason : StageCause refusal old.object_hash (merged entry) path.now old.path_backing old.entries r
  pub updated : OnOk r (UpdatesParts (Stage (merged entry) path ∷ []) old new)
  pub resolved : OnOk r (PartsInStorage old → IsStrictlyOrdered (parts_records old)
      → IsResolvedInto (with_path path.now (merged entry)) (parts_records old) (parts_records new))
  pub storable : OnOk r (KeepsPartsStorable old new)
  pub told : IfOk r (λ told. PartsInStorage old → IsStrictlyOrdered (parts_records old)
      → AreDisplacedCounts (with_path path.now (merged entry)) (parts_records old) told)
  pub placed : PartsInStorage old → PartsInStorage new
  pub err : OnErr r (AreUnchanged old new)

-- the entries at a path are removed, and their number is returned; or the path is in a directory that is one entry
pub record UnstagesParts (path : Bor (List ℕ)) (old new : Parts) (r : Result ℕ Error) : Type 0 where
  pub reason : WholeDirectoryCause path.now (parts_records old) r
  pub updated : OnOk r (UpdatesParts (Unstage path ∷ []) old new)
  pub unstaged : OnOk r (IsStrictlyOrdered (parts_records old)
      → IsUnstagedFrom path.now (parts_records old) (parts_records new))
  pub storable : OnOk r (KeepsPartsStorable old new)
  pub count : IfOk r (λ count. IsStrictlyOrdered (parts_records old)
      → count ≡ count_by (is_at path.now) (parts_records old))
  pub storage : parts_storage new ≡ parts_storage old
  pub placed : PartsInStorage old → PartsInStorage new
  pub err : OnErr r (AreUnchanged old new)
