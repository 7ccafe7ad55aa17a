-- One step of a filter over entries with their paths (the library's own).
use Rattle.std.specs.Prelude.{◌≡◌, List, ℕ, [], ◌∷◌, ◌++◌, Option, Some, None, MatchOption}
use Rattle.std.specs.List.{FoldsTo}
use denote.Ref.{Bor}
use Rattle.entry_list.specs.declared.Entry.{Entry}
use Rattle.entry_list.specs.Record.{record_in}
use Rattle.entry_lookup.specs.declared.paths.FilterMapPaths.{FilterMapPaths}

-- the closure was called with the entry and its path, and returned r
abbrev pub IsClosureCall : {F T : Type 0} → (F → Bor (List ℕ) → Bor Entry → Option T → F → Type 0) → List ℕ → F → Entry
    → Option T → F → Type 0
IsClosureCall step storage f e r g =
    (p : Bor (List ℕ)) × (b : Bor Entry) × (p.now ≡ (record_in storage e).path) × (b.now ≡ e) × step f p b r g

-- it was called once for each entry in order, returned None for those that were skipped, and then r
pub record GivesNext {F T : Type 0} (step : F → Bor (List ℕ) → Bor Entry → Option T → F → Type 0) (storage : List ℕ)
    (before : List Entry) (f : F) (r : Option (Bor (List ℕ) × T)) (after : List Entry) (g : F) : Type 0 where
  pub skipped : List Entry
  pub then : F
  pub skips : FoldsTo (λ h e k. IsClosureCall step storage h e None k) f skipped then
  pub gives : MatchOption r ((before ≡ skipped) × (after ≡ []) × (g ≡ then))
      (λ x. (e : Entry) × (before ≡ skipped ++ e ∷ after) × (x.0.now ≡ (record_in storage e).path)
      × IsClosureCall step storage then e (Some x.1) g)

-- the entries that are left, the storage of their paths, and the closure in its state
abbrev pub entries_left : {F : Type 0} → FilterMapPaths F → List Entry
entries_left s = s.entries.now

abbrev pub storage_left : {F : Type 0} → FilterMapPaths F → List ℕ
storage_left s = s.backing.now

abbrev pub closure_of : {F : Type 0} → FilterMapPaths F → F
closure_of s = s.filter_map

-- these entries are left, with their paths in this storage and this closure
pub record IsFilterOf {F : Type 0} (es : List Entry) (storage : List ℕ) (f : F) (s : FilterMapPaths F) : Type 0 where
  pub entries : entries_left s ≡ es
  pub backing : storage_left s ≡ storage
  pub closure : closure_of s ≡ f

-- one step returned r, and the storage is unchanged
abbrev pub StepsTo : {F T : Type 0} → (F → Bor (List ℕ) → Bor Entry → Option T → F → Type 0) → FilterMapPaths F
    → Option (Bor (List ℕ) × T) → FilterMapPaths F → Type 0
StepsTo step s r t =
    GivesNext step (storage_left s) (entries_left s) (closure_of s) r (entries_left t) (closure_of t)
    × (storage_left t ≡ storage_left s)
