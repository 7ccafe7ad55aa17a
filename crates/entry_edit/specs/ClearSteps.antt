-- Edits at a path whose first bytes need no directory that is a file of the entry's stage (the library's own). The
-- clauses of complete edits don't use these definitions.
use Rattle.std.specs.Prelude.{◌≡◌, ℕ, List, [], ◌∷◌, ◌++◌, Result, IfOk, OnErr, OnOk}
use Rattle.entry_fields.specs.Flags.{stage_number}
use Rattle.entry_list.specs.Record.{Record, records_in, with_path}
use Rattle.entry_list.specs.declared.Pathless.{Pathless}
use Rattle.entry_edit.specs.Changes.{IsAppliedTo}
use Rattle.entry_edit.specs.Edits.{IsStagedInto}
use Rattle.entry_edit.specs.EditSteps.{IsClear, IsClearUpto}
use Rattle.entry_edit.specs.EntryEdits.{ChangesPlaced, Entries, PutsEntry, StayInStorage, Storage, ReportsDisplaced}
use Rattle.entry_edit.specs.declared.change.Change.{Change}
use Rattle.entry_edit.specs.declared.change.Change.TheVariants.{Stage, Unstage}
use Rattle.entry_edit.specs.declared.stage.Displaced.{Displaced}

-- the first bytes of the change's path are clear; this is required only if an entry is staged
abbrev pub IsClearFor : ℕ → Change → List Record → Type 0
IsClearFor known (Stage entry path) rs = IsClearUpto known path.now entry rs
IsClearFor known (Unstage path) rs = Unit {0}

-- the path at which an entry is staged is clear
abbrev pub IsClearAfter : Change → List Record → Type 0
IsClearAfter (Stage entry path) rs = IsClear path.now (stage_number entry.flags.0) rs
IsClearAfter (Unstage path) rs = Unit {0}

-- an entry is staged at a path whose first bytes are clear, and the removed entries are reported
pub record SettlesClear {E : Type 0} (known : ℕ) (entry : Pathless) (path : List ℕ) (s : Storage) (es : Entries)
    (t : Storage) (ds : Entries) (r : Result Displaced E) : Type 0 where
  pub staged : PutsEntry (λ old now. IsClearUpto known path entry old → IsStagedInto (with_path path entry) old now)
      path s es t ds r
  pub told : IfOk r (λ d. IsClearUpto known path entry (records_in s.items es.items)
      → ReportsDisplaced entry path s es d)

-- The change is made if the first bytes of its path are clear, and the storage is longer at its end. After an error
-- both are unchanged.
pub record AppliesClear {T E : Type 0} (known : ℕ) (c : Change) (s : Storage) (es : Entries) (t : Storage)
    (ds : Entries) (r : Result T E) : Type 0 where
  pub applied : OnOk r (ChangesPlaced (λ old now. IsClearFor known c old → IsAppliedTo (c ∷ []) old now) s.items
      es.items t.items ds.items)
  pub placed : StayInStorage s.items es.items t.items ds.items
  pub storage : (more : List ℕ) × (t.items ≡ s.items ++ more)
  pub err_entries : OnErr r (ds.items ≡ es.items)
  pub err_storage : OnErr r (t.items ≡ s.items)
