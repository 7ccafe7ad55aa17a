-- The results of the calls that change entries, and the entries and extensions after them (the library's own). They are
-- guaranteed for records that strictly increase and, if the storage may grow, whose paths are in it. `s` is the storage
-- of the old entries `es`, and `t` that of the new ones `ds`.
use Rattle.std.specs.Prelude.{◌≡◌, ℕ, List, [], ◌∷◌, All, length, Option, Result, IfOk, OnErr, OnOk}
use Rattle.std.specs.Borrow.{Bor}
use Rattle.std.specs.Option.{option_map}
use Rattle.entry_list.specs.Order.{IsStrictlyOrdered}
use Rattle.entry_list.specs.Record.{IsPlaced, records_in}
use Rattle.entry_list.specs.declared.Entry.{Entry}
use Rattle.entry_list.specs.declared.Pathless.{Pathless}
use Rattle.entry_edit.specs.Changes.{IsAppliedTo}
use Rattle.entry_edit.specs.Edits.{IsUnstagedFrom, merged}
use Rattle.entry_edit.specs.EntryEdits.{ChangesOrdered, ChangesPlaced, CountsAt, Entries, ResolvesEntry, SettlesEntry}
use Rattle.entry_edit.specs.EntryEdits.{StayInStorage, Storage}
use Rattle.entry_edit.specs.declared.change.Change.{Change}
use Rattle.entry_edit.specs.declared.change.Change.TheVariants.{Stage, Unstage}
use Rattle.entry_edit.specs.declared.stage.Displaced.{Displaced}
use Rattle.ext_small.specs.FsMonitor.{monitor_of}
use Rattle.ext_small.specs.declared.fs_monitor.FsMonitor.{FsMonitor}
use Rattle.index_edit.specs.Kept.{IsKeptAfter, StaysSound, watched}
use Rattle.index_edit.specs.Recordable.{StaysSpellable}
use Rattle.index_edit.specs.declared.kept.Kept.{Kept}

-- the monitor's answer after changes of these entries
abbrev pub IsWatchedAfter : List Change → List ℕ → List Entry → Option FsMonitor → Option FsMonitor → Type 0
IsWatchedAfter cs s es old now =
    All (IsPlaced (length s)) es → IsStrictlyOrdered (records_in s es) → option_map monitor_of now ≡ watched cs (records_in s es) old

-- The extensions about the entries are those after the changes, and stay consistent and encodable. After an error they
-- are unchanged.
pub record KeepsExtensions {T E : Type 0} (cs : List Change) (s : Storage) (es : Entries) (old now : Kept) (r : Result
    T E)
    : Type 0 where
  pub kept : OnOk r (All (IsPlaced (length s.items)) es.items → IsStrictlyOrdered (records_in s.items es.items)
      → IsKeptAfter cs (records_in s.items es.items) old now)
  pub monitor : OnOk r (IsWatchedAfter cs s.items es.items old.monitor now.monitor)
  pub sound : OnOk r (All (IsPlaced (length s.items)) es.items → IsStrictlyOrdered (records_in s.items es.items)
      → StaysSound old now)
  pub spellable : OnOk r (All (IsPlaced (length s.items)) es.items → IsStrictlyOrdered (records_in s.items es.items)
      → StaysSpellable cs (records_in s.items es.items) old now)
  pub err_kept : OnErr r (now ≡ old)

-- the extensions about the entries are those after one change
abbrev pub KeepsOne : {T E : Type 0} → Change → Storage → Entries → Kept → Kept → Result T E → Type 0
KeepsOne c s es old now r = KeepsExtensions (c ∷ []) s es old now r

-- an entry is staged at a path, which is this one change
pub record StagesOne {E : Type 0} (entry : Pathless) (path : Bor (List ℕ)) (s : Storage) (es : Entries) (t : Storage)
    (ds : Entries) (r : Result Displaced E) : Type 0 where
  pub settled : SettlesEntry entry path.now s es t ds r
  pub applied : OnOk r (ChangesPlaced (IsAppliedTo (Stage entry path ∷ [])) s.items es.items t.items ds.items)

-- a merged entry replaces all stages of a path, which is this one change
pub record ResolvesOne {E : Type 0} (entry : Pathless) (path : Bor (List ℕ)) (s : Storage) (es : Entries) (t : Storage)
    (ds : Entries) (r : Result Displaced E) : Type 0 where
  pub resolved : ResolvesEntry entry path.now s es t ds r
  pub applied : OnOk r (ChangesPlaced (IsAppliedTo (Stage (merged entry) path ∷ [])) s.items es.items t.items
      ds.items)

-- the entries at a path are removed; after an error all are unchanged
pub record TakesPath {T E : Type 0} (path : List ℕ) (s : Storage) (es ds : Entries) (r : Result T E) : Type 0 where
  pub unstaged : OnOk r (ChangesOrdered (IsUnstagedFrom path) s.items es.items s.items ds.items)
  pub placed : StayInStorage s.items es.items s.items ds.items
  pub err_entries : OnErr r (ds.items ≡ es.items)

-- the entries at a path are removed, which is this one change, and their number is returned
pub record UnstagesOne {E : Type 0} (path : Bor (List ℕ)) (s : Storage) (es ds : Entries) (r : Result ℕ E)
    : Type 0 where
  pub taken : TakesPath path.now s es ds r
  pub count : IfOk r (CountsAt path.now s.items es)
  pub applied : OnOk r (ChangesOrdered (IsAppliedTo (Unstage path ∷ [])) s.items es.items s.items ds.items)
