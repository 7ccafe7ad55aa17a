-- Entries and resolve-undo between the changes of a list (the library's own). Public clauses cite none of these. `s` is the
-- storage before, and `t` that afterwards.
use Rattle.std.specs.Prelude.{◌≡◌, ℕ, ◌≤◌, List, [], ◌∷◌, ◌++◌, All, drop, length, take, Option, Result, IfOk, OnOk}
use Rattle.std.specs.List.{HoldsAt}
use Rattle.std.specs.Borrow.{Bor}
use Rattle.entry_list.specs.Order.{IsStrictlyOrdered}
use Rattle.entry_list.specs.Record.{IsPlaced, Record, records_in}
use Rattle.entry_list.specs.declared.Entry.{Entry}
use Rattle.entry_list.specs.declared.Pathless.{Pathless}
use Rattle.entry_edit.specs.Changes.{IsAppliedTo, applied}
use Rattle.entry_edit.specs.ClearSteps.{IsClearFor}
use Rattle.entry_edit.specs.EntryEdits.{ChangesOrdered, ChangesPlaced, CountsAt, Entries, StayInStorage, Storage, ReportsDisplaced}
use Rattle.entry_edit.specs.declared.change.Change.{Change}
use Rattle.entry_edit.specs.declared.change.Change.TheVariants.{Stage, Unstage}
use Rattle.ext_small.specs.declared.fs_monitor.FsMonitor.{FsMonitor}
use Rattle.index_edit.specs.EntryUpdates.{IsWatchedAfter}
use Rattle.index_edit.specs.Invalidated.{CountsNoMore, InvalidatesAll, UnlistsAll}
use Rattle.index_edit.specs.RecordingSteps.{AddsAllLost, Paths}
use Rattle.index_edit.specs.Undone.{undo_paths, undone}
use Rattle.index_edit.specs.declared.kept.Kept.{Kept}
use Rattle.index_edit.specs.declared.single.Cut.{Cut}
use Rattle.index_edit.specs.declared.single.Settled.{Settled}
use Rattle.index_edit.specs.declared.update.Updated.{Updated}
use Rattle.index_edit.specs.declared.update.Watched.{Watched}

-- ---- one change

-- for records that strictly increase, this is recorded after the changes
abbrev pub IsUndoneAfter : List Change → List ℕ → List Entry → Option Paths → Option Paths → Type 0
IsUndoneAfter cs s es old made =
    IsStrictlyOrdered (records_in s es) → undo_paths made ≡ undone cs (records_in s es) (undo_paths old)

-- the reported entries that an entry staged at a path replaces, and the monitor's answer then
pub record ReportsStaged (entry : Pathless) (path : Bor (List ℕ)) (s : Storage) (es : Entries)
    (before : Option FsMonitor) (made : Settled) : Type 0 where
  pub told : ReportsDisplaced entry path.now s es made.told
  pub monitor : IsWatchedAfter (Stage entry path ∷ []) s.items es.items before made.monitor

-- the number of entries that are removed at a path, and the monitor's answer then
pub record ReportsRemoved (path : Bor (List ℕ)) (s : Storage) (es : Entries) (before : Option FsMonitor) (made : Cut)
    : Type 0 where
  pub count : CountsAt path.now s.items es made.count
  pub monitor : IsWatchedAfter (Unstage path ∷ []) s.items es.items before made.monitor

-- The extensions after changes. Resolve-undo and the monitor's answer are these, and the paths of the changes are
-- invalidated in the tree and the untracked cache.
pub record UpdatesKept (cs : List Change) (recorded_then : Option Paths) (told : Option FsMonitor) (old now : Kept) :
    Type 0
  where
    pub tree : InvalidatesAll cs old.tree now.tree
    pub counts : CountsNoMore old.tree now.tree
    pub undo : now.undo ≡ recorded_then
    pub monitor : now.monitor ≡ told
    pub untracked : UnlistsAll cs old.untracked now.untracked

-- ---- several changes

-- the first `known` bytes of the path of the change at an index are clear after the changes before it
abbrev pub IsKnownAt : List Change → ℕ → ℕ → Type 0
IsKnownAt cs place known = HoldsAt (λ c. (rs : List Record) → IsClearFor known c (applied (take place cs) rs)) cs place

-- A change is applied to the entries that are done and to the rest after them, of which the result is the number that
-- are done then. The premises are that all their paths are in the storage, and that the first `known` bytes of the
-- change's path are clear. The storage only grows at its end.
pub record AppliesNext {E : Type 0} (known : ℕ) (c : Change) (rest : List Entry) (s : Storage) (es : Entries)
    (t : Storage) (ds : Entries) (r : Result ℕ E) : Type 0 where
  pub inside : IfOk r (λ count. count ≤ length rest)
  pub applied : IfOk r (λ count. All (IsPlaced (length s.items)) es.items → All (IsPlaced (length s.items)) rest
      → ChangesOrdered (λ old now. IsClearFor known c old → IsAppliedTo (c ∷ []) old now) s.items (es.items ++ rest)
      t.items (ds.items ++ drop count rest))
  pub placed : OnOk r (All (IsPlaced (length s.items)) es.items → All (IsPlaced (length s.items)) rest
      → All (IsPlaced (length t.items)) ds.items)
  pub storage : (more : List ℕ) × (t.items ≡ s.items ++ more)

-- what the change removes from these entries is recorded
abbrev pub RecordsNext : {T E : Type 0} → Change → List Entry → Storage → Entries → Option Paths → Option Paths
    → Result T E → Type 0
RecordsNext c rest s es old now r = OnOk r (AddsAllLost c (records_in s.items (es.items ++ rest)) old now)

-- the entries and the recorded paths after the changes
pub record AreUpdated (cs : List Change) (s t : Storage) (es : List Entry) (undo : Option Paths) (made : Entries)
    (recorded_then : Option Paths) : Type 0 where
  pub applied : ChangesPlaced (IsAppliedTo cs) s.items es t.items made.items
  pub undone : All (IsPlaced (length s.items)) es → IsUndoneAfter cs s.items es undo recorded_then
  pub placed : StayInStorage s.items es t.items made.items

-- the entries and the recorded paths after the changes are returned, and the storage only grows at its end
pub record UpdatesEntries {E : Type 0} (cs : List Change) (s t : Storage) (es : List Entry) (undo : Option Paths)
    (r : Result Updated E) : Type 0 where
  pub made : IfOk r (λ m. AreUpdated cs s t es undo m.entries m.undo)
  pub storage : (more : List ℕ) × (t.items ≡ s.items ++ more)

-- the entries and the recorded paths after the changes are returned with the monitor's answer, and the storage only
-- grows at its end
pub record UpdatesWatched {E : Type 0} (cs : List Change) (s t : Storage) (es : List Entry) (kept : Kept)
    (r : Result Watched E) : Type 0 where
  pub made : IfOk r (λ m. AreUpdated cs s t es kept.undo m.entries m.undo)
  pub monitor : IfOk r (λ m. IsWatchedAfter cs s.items es kept.monitor m.monitor)
  pub storage : (more : List ℕ) × (t.items ≡ s.items ++ more)
