-- The result of each call that edits a list of entries, and the list and the storage of the paths after it (the
-- library's own). Clauses on records are guaranteed if they strictly increase and, if the storage may grow, each path
-- is in it. `s` is the storage of the old entries `es`, and `t` that of the new ones `ds`.
use Rattle.std.specs.Prelude.{◌≡◌, ◌⊎◌, ℕ, List, ◌++◌, All, count_by, length, Result, IfOk, OnErr, OnOk}
use Rattle.std.specs.Global.{Vec}
use Rattle.index_parts.specs.declared.hash.Kind.{Kind}
use Rattle.entry_list.specs.Order.{IsStrictlyOrdered}
use Rattle.entry_list.specs.Record.{IsPlaced, Record, records_in, with_path}
use Rattle.entry_list.specs.declared.Entry.{Entry}
use Rattle.entry_list.specs.declared.Pathless.{Pathless}
use Rattle.entry_lookup.specs.Range.{is_at}
use Rattle.entry_edit.specs.Changes.{IsAppliedTo, first_rejection}
use Rattle.entry_edit.specs.Edits.{IsResolvedInto, IsStagedInto, AreDisplacedCounts, IsUnstagedFrom, merged}
use Rattle.entry_edit.specs.Refusals.{Check, staged_entry_fault}
use Rattle.entry_edit.specs.Wholes.{EditAmongCause, RejectionAmongCause}
use Rattle.entry_edit.specs.declared.change.ApplyError.{ApplyError}
use Rattle.entry_edit.specs.declared.change.Change.{Change}
use Rattle.entry_edit.specs.declared.error.Error.{Error}
use Rattle.entry_edit.specs.declared.stage.Displaced.{Displaced}

-- entries in memory, and the bytes of their paths
abbrev pub Entries : Type 0
Entries = Vec Entry

abbrev pub Storage : Type 0
Storage = Vec ℕ

-- if the records of the old entries strictly increase, the new ones result from them by this change
abbrev pub ChangesOrdered : (List Record → List Record → Type 0) → List ℕ → List Entry → List ℕ → List Entry → Type 0
ChangesOrdered change s es t ds = IsStrictlyOrdered (records_in s es) → change (records_in s es) (records_in t ds)

-- the new records result from the old ones by this change if, in addition, each old path is in its storage
abbrev pub ChangesPlaced : (List Record → List Record → Type 0) → List ℕ → List Entry → List ℕ → List Entry
    → Type 0
ChangesPlaced change s es t ds = All (IsPlaced (length s)) es → ChangesOrdered change s es t ds

-- each new path is in its storage, if each old one is in its own
abbrev pub StayInStorage : List ℕ → List Entry → List ℕ → List Entry → Type 0
StayInStorage s es t ds = All (IsPlaced (length s)) es → All (IsPlaced (length t)) ds

-- The result of a call that puts an entry at a path among others. The records result by this change. The paths stay in
-- the storage, which is unchanged or has the path at its end. After an error both are unchanged.
pub record PutsEntry {T E : Type 0} (change : List Record → List Record → Type 0) (path : List ℕ) (s : Storage)
    (es : Entries) (t : Storage) (ds : Entries) (r : Result T E) : Type 0 where
  pub made : OnOk r (ChangesPlaced change s.items es.items t.items ds.items)
  pub placed : StayInStorage s.items es.items t.items ds.items
  pub storage : (t.items ≡ s.items) ⊎ (t.items ≡ s.items ++ path)
  pub err_entries : OnErr r (ds.items ≡ es.items)
  pub err_storage : OnErr r (t.items ≡ s.items)

-- If each path is in the storage, and the records strictly increase, these are the removed entries for the entry that
-- is staged at the path.
abbrev pub ReportsDisplaced : Pathless → List ℕ → Storage → Entries → Displaced → Type 0
ReportsDisplaced entry path s es told =
    All (IsPlaced (length s.items)) es.items → IsStrictlyOrdered (records_in s.items es.items)
    → AreDisplacedCounts (with_path path entry) (records_in s.items es.items) told

-- an entry is staged at a path
abbrev pub StagesEntry : {T E : Type 0} → Pathless → List ℕ → Storage → Entries → Storage → Entries → Result T E
    → Type 0
StagesEntry entry path s es t ds r = PutsEntry (IsStagedInto (with_path path entry)) path s es t ds r

-- an entry is staged at a path, and the removed entries are reported
pub record SettlesEntry {E : Type 0} (entry : Pathless) (path : List ℕ) (s : Storage) (es : Entries) (t : Storage)
    (ds : Entries) (r : Result Displaced E) : Type 0 where
  pub staged : StagesEntry entry path s es t ds r
  pub told : IfOk r (ReportsDisplaced entry path s es)

-- a merged entry replaces all stages of a path, and the removed entries are reported
pub record ResolvesEntry {E : Type 0} (entry : Pathless) (path : List ℕ) (s : Storage) (es : Entries) (t : Storage)
    (ds : Entries) (r : Result Displaced E) : Type 0 where
  pub resolved : PutsEntry (IsResolvedInto (with_path path (merged entry))) path s es t ds r
  pub told : IfOk r (ReportsDisplaced (merged entry) path s es)

-- An entry may be staged at a path, which is in no complete directory. Otherwise the error is that of the entry; or
-- else that the path is in one; or else a lack of room in the storage, or of memory.
abbrev pub StageCause : {T : Type 0} → Check → Kind → Pathless → List ℕ → Storage → Entries → Result T Error → Type 0
StageCause refusal kind entry path s es r =
    EditAmongCause (staged_entry_fault refusal kind entry path) (length s.items) path (records_in s.items es.items) r

-- an entry is staged at a path, or the cause of the error is given
pub record StagesAllowed (refusal : Check) (kind : Kind) (entry : Pathless) (path : List ℕ) (s : Storage) (es : Entries)
    (t : Storage) (ds : Entries) (r : Result Displaced Error) : Type 0 where
  pub reason : StageCause refusal kind entry path s es r
  pub made : SettlesEntry entry path s es t ds r

-- a merged entry replaces all stages of a path, or the cause of the error is given
pub record ResolvesAllowed (refusal : Check) (kind : Kind) (entry : Pathless) (path : List ℕ) (s : Storage)
    (es : Entries) (t : Storage) (ds : Entries) (r : Result Displaced Error) : Type 0 where
  pub reason : StageCause refusal kind (merged entry) path s es r
  pub made : ResolvesEntry entry path s es t ds r

-- no change is rejected; or the error is the first rejection, or else out of memory
abbrev pub FirstRejectedCause : {T : Type 0} → Check → Kind → List Change → Storage → Entries → Result T ApplyError
    → Type 0
FirstRejectedCause refusal kind cs s es r =
    RejectionAmongCause (first_rejection refusal kind (length s.items) cs) cs (records_in s.items es.items) r

-- if the records strictly increase, `count` of them have the path
abbrev pub CountsAt : List ℕ → List ℕ → Entries → ℕ → Type 0
CountsAt path s es count =
    IsStrictlyOrdered (records_in s es.items) → count ≡ count_by (is_at path) (records_in s es.items)

-- the entries at a path are removed, and their number is returned
pub record UnstagesPath (path s : List ℕ) (es ds : Entries) (told : ℕ) : Type 0 where
  pub unstaged : ChangesOrdered (IsUnstagedFrom path) s es.items s ds.items
  pub count : CountsAt path s es told
  pub placed : StayInStorage s es.items s ds.items

-- The changes are made one after another, and the storage is longer at its end. After an error both are unchanged.
pub record AppliesAll {T E : Type 0} (cs : List Change) (s : Storage) (es : Entries) (t : Storage) (ds : Entries)
    (r : Result T E) : Type 0 where
  pub applied : OnOk r (ChangesPlaced (IsAppliedTo cs) s.items es.items t.items ds.items)
  pub placed : StayInStorage s.items es.items t.items ds.items
  pub storage : (more : List ℕ) × (t.items ≡ s.items ++ more)
  pub err_entries : OnErr r (ds.items ≡ es.items)
  pub err_storage : OnErr r (t.items ≡ s.items)
