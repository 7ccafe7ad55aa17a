-- A side of a conflict among the recorded paths, and the sides that a change removes (the library's own). Public
-- clauses cite none of these.
use Rattle.std.specs.Prelude.{◌≡◌, ◌≢◌, ℕ, ◌<◌, ◌≤◌, Bool, true, false, List, All, length, map, take, MatchOption}
use Rattle.std.specs.Prelude.{IfSome, IsTrue, Option}
use Rattle.std.specs.Global.{Vec}
use Rattle.std.specs.List.{AllWithin, HoldsAt}
use Rattle.std.specs.Ordering.{is_lt}
use Rattle.std.specs.declared.ops.Range.{Range}
use Rattle.entry_list.specs.Order.{IsStrictlyOrdered, path_cmp}
use Rattle.entry_list.specs.Record.{Record, with_path}
use Rattle.entry_list.specs.declared.Entry.{Entry}
use Rattle.entry_list.specs.declared.Pathless.{Pathless}
use Rattle.entry_lookup.specs.Range.{LiesWithin, part_of}
use Rattle.entry_edit.specs.EditSteps.{has_df_conflict, is_other, entry_record}
use Rattle.entry_edit.specs.declared.change.Change.{Change}
use Rattle.ext_small.specs.ResolveUndo.{PathStages, path_stages}
use Rattle.ext_small.specs.declared.resolve_undo.ResolvePath.{ResolvePath}
use Rattle.index_edit.specs.Recorded.{recorded, with_side}
use Rattle.index_edit.specs.Rising.{ArePathsRising}
use Rattle.index_edit.specs.Undone.{all_recorded, lost, undo_paths}

-- the recorded paths in memory
abbrev pub Paths : Type 0
Paths = Vec ResolvePath

-- ---- the index of a path among those that are recorded, each as a path with its stages

module _ {X : Type 0} (f : X → PathStages) (path : List ℕ) where
  abbrev pub StandsBefore : X → Type 0
  StandsBefore x = is_lt (path_cmp (f x).name path) ≡ true

  -- those before the index are before the path, and the one at the index isn't
  pub record IsPlaceFor (xs : List X) (i : ℕ) : Type 0 where
    pub inside : i ≤ length xs
    pub before : All StandsBefore (take i xs)
    pub here : i < length xs → HoldsAt (λ x. is_lt (path_cmp (f x).name path) ≡ false) xs i

  -- the path is at the index
  abbrev pub IsHere : List X → ℕ → Type 0
  IsHere xs i = (i < length xs) × HoldsAt (λ x. (f x).name ≡ path) xs i

  -- another path is at the index, or none
  abbrev pub IsOther : List X → ℕ → Type 0
  IsOther xs i = i < length xs → HoldsAt (λ x. (f x).name ≢ path) xs i

-- recorded paths, if there are any, increase if `rising` is set
abbrev pub AreRisingIf : Bool → Option Paths → Type 0
AreRisingIf rising undo = IsTrue rising → IfSome (undo_paths undo) ArePathsRising

-- ---- recording a side

-- the entry is stored as a side of a recorded path
abbrev pub PutsSide : Entry → ResolvePath → ResolvePath → Type 0
PutsSide e old now = path_stages now ≡ with_side (entry_record (path_stages old).name e) (path_stages old)

-- the entry is recorded among these paths
abbrev pub RecordsSide : List ℕ → Entry → Paths → Paths → Type 0
RecordsSide path e old now = map path_stages now.items ≡ recorded (entry_record path e) (map path_stages old.items)

-- ---- the entries that a change removes

-- those of the records that are sides, and are removed by the change, are recorded
abbrev pub AddsLost : Change → List Record → Option Paths → Option Paths → Type 0
AddsLost c rs old now = undo_paths now ≡ all_recorded (lost c rs) (undo_paths old)

-- if the records strictly increase, those that are sides and are removed by the change are recorded
abbrev pub AddsAllLost : Change → List Record → Option Paths → Option Paths → Type 0
AddsAllLost c rs old now = IsStrictlyOrdered rs → AddsLost c rs old now

-- if the records strictly increase, all sides that are removed have their indexes in this range
abbrev pub HasLost : Change → List Record → Option (Range ℕ) → Type 0
HasLost c rs places = IsStrictlyOrdered rs → lost c (part_of rs places) ≡ lost c rs

-- The records strictly increase, and one of them conflicts with the entry at the path: one is a file at a path at which
-- the other needs a directory. The range is from an index before which none is removed, to the end. If there is no such
-- record, it is None.
abbrev pub AreFromOdd : List ℕ → Pathless → List Record → Option (Range ℕ) → Type 0
AreFromOdd path entry rs places =
    IsStrictlyOrdered rs → MatchOption places (has_df_conflict path entry rs ≡ false)
    (λ p. (p.end ≡ length rs) × AllWithin (λ r. is_other (with_path path entry) r ≡ false) rs 0 p.start)

-- indexes of the list, or None, with this property
pub record FindsOdd (path : List ℕ) (entry : Pathless) (rs : List Record) (places : Option (Range ℕ)) : Type 0 where
  pub all : AreFromOdd path entry rs places
  pub inside : IfSome places (LiesWithin rs)

-- indexes of the list, or None, that include those of all entries that the change removes
pub record FindsLost (c : Change) (rs : List Record) (places : Option (Range ℕ)) : Type 0 where
  pub all : HasLost c rs places
  pub inside : IfSome places (LiesWithin rs)
