-- The parts of an index after changes: if a file can store the old ones, it can store the new ones.
use Rattle.std.proofs.Common.{◌≡◌, ℕ, List, [], ◌∷◌, Ok, length}
use Rattle.std.specs.Prelude.{count_by}
use Rattle.std.specs.Borrow.{Bor}
use Rattle.entry_edit.specs.Changes.{IsAppliedTo, first_rejection}
use Rattle.entry_edit.specs.EntryEdits.{FirstRejectedCause, StageCause}
use Rattle.entry_edit.specs.Edits.{IsResolvedInto, IsStagedInto, AreDisplacedCounts, IsUnstagedFrom, merged}
use Rattle.entry_edit.specs.Refusals.{Check, staged_entry_fault}
use Rattle.entry_edit.specs.Wholes.{WholeDirectoryCause, whole_fault, whole_refusal}
use Rattle.entry_edit.proofs.Whys.{neither}
use Rattle.entry_edit.specs.declared.change.Change.{Change}
use Rattle.entry_edit.specs.declared.change.Change.TheVariants.{Stage, Unstage}
use Rattle.entry_edit.specs.declared.stage.Displaced.{Displaced}
use Rattle.entry_list.specs.Order.{IsStrictlyOrdered}
use Rattle.entry_list.specs.Record.{IsSized, with_path}
use Rattle.entry_list.specs.declared.Pathless.{Pathless}
use Rattle.index_model.specs.Contents.{PartsInStorage, parts_contents, parts_records, parts_storage}
use Rattle.index_model.specs.declared.Parts.{Parts}
use Rattle.entry_lookup.specs.Range.{is_at}
use Rattle.index_edit.specs.PartsUpdates.{AppliesParts, ResolvesParts, StagesParts, UnstagesParts, UpdatesParts}
use Rattle.index_edit.proofs.StorableChanges.{changes_stay, stage_stays, unstage_stays}

module _ (refusal : Check) (old new : Parts) where
  pub applies : (cs : List Change) → FirstRejectedCause refusal old.object_hash cs old.path_backing old.entries (Ok (tt {0}))
      → UpdatesParts cs old new
      → (PartsInStorage old → IsStrictlyOrdered (parts_records old)
      → IsAppliedTo cs (parts_records old) (parts_records new))
      → (PartsInStorage old → PartsInStorage new) → AppliesParts refusal cs old new (Ok tt)
  applies cs reason updated applied placed = record {
    reason = reason;
    updated = updated;
    applied = applied;
    storable = λ here o s.
        let none = neither (first_rejection refusal old.object_hash (length (parts_storage old)) cs)
        (whole_refusal reason.place) reason.reason in
        changes_stay (parts_contents old) (parts_contents new) refusal (length (parts_storage old)) cs none.0 s
        (updated here o);
    placed = placed;
    err = tt;
  }

  module _ (entry : Pathless) (path : Bor (List ℕ)) (told : Displaced) where
    pub stages : StageCause refusal old.object_hash entry path.now old.path_backing old.entries (Ok told) → IsSized (with_path path.now entry)
        → UpdatesParts (Stage entry path ∷ []) old new
        → (PartsInStorage old → IsStrictlyOrdered (parts_records old)
        → IsStagedInto (with_path path.now entry) (parts_records old) (parts_records new))
        → (PartsInStorage old → IsStrictlyOrdered (parts_records old)
        → AreDisplacedCounts (with_path path.now entry) (parts_records old) told)
        → (PartsInStorage old → PartsInStorage new) → StagesParts refusal entry path old new (Ok told)
    stages reason sized updated staged tells placed = record {
      reason = reason;
      updated = updated;
      staged = staged;
      storable = λ here o.
          let none = neither (staged_entry_fault refusal old.object_hash entry path.now) (whole_fault reason.inside) reason.reason in
          stage_stays (parts_contents old) (parts_contents new) refusal entry path none.0 sized (updated here o);
      told = tells;
      placed = placed;
      err = tt;
    }

    pub resolves : StageCause refusal old.object_hash (merged entry) path.now old.path_backing old.entries (Ok told)
        → IsSized (with_path path.now (merged entry)) → UpdatesParts (Stage (merged entry) path ∷ []) old new
        → (PartsInStorage old → IsStrictlyOrdered (parts_records old)
        → IsResolvedInto (with_path path.now (merged entry)) (parts_records old) (parts_records new))
        → (PartsInStorage old → IsStrictlyOrdered (parts_records old)
        → AreDisplacedCounts (with_path path.now (merged entry)) (parts_records old) told)
        → (PartsInStorage old → PartsInStorage new) → ResolvesParts refusal entry path old new (Ok told)
    resolves reason sized updated resolved tells placed = record {
      reason = reason;
      updated = updated;
      resolved = resolved;
      storable = λ here o.
          let none = neither (staged_entry_fault refusal old.object_hash (merged entry) path.now) (whole_fault
          reason.inside)
          reason.reason in
          stage_stays (parts_contents old) (parts_contents new) refusal (merged entry) path none.0 sized (updated here o);
      told = tells;
      placed = placed;
      err = tt;
    }

module _ (old new : Parts) (path : Bor (List ℕ)) (count : ℕ) where
  pub unstages : WholeDirectoryCause path.now (parts_records old) (Ok count) → UpdatesParts (Unstage path ∷ []) old new
      → (IsStrictlyOrdered (parts_records old) → IsUnstagedFrom path.now (parts_records old) (parts_records new))
      → (IsStrictlyOrdered (parts_records old) → count ≡ count_by (is_at path.now) (parts_records old))
      → parts_storage new ≡ parts_storage old → (PartsInStorage old → PartsInStorage new)
      → UnstagesParts path old new (Ok count)
  unstages reason updated unstaged counted storage placed = record {
    reason = reason;
    updated = updated;
    unstaged = unstaged;
    storable = λ here o. unstage_stays (parts_contents old) (parts_contents new) path (updated here o);
    count = counted;
    storage = storage;
    placed = placed;
    err = tt;
  }
