-- The contract of each step of a merge, over entries and the storages of their paths (the library's own).
use Rattle.std.specs.Prelude.{◌≡◌, ◌<◌, ◌≤◌, ◌+◌, ◌++◌, [], ◌∷◌, ℕ, List, All, Option, Result, Some, None, length}
use Rattle.std.specs.Prelude.{slice_get, IfErr, IfOk, OnOk}
use Rattle.std.specs.Global.{Vec}
use Rattle.std.specs.Option.{option_map}
use Rattle.std.specs.declared.alloc.AllocError.{AllocError}
use denote.Ref.{Bor}
use Rattle.ext_bitmap.specs.Bitmap.{bitmap}
use Rattle.ext_bitmap.specs.declared.ewah.Vec.{Vec as Ewah}
use Rattle.entry_list.specs.declared.Entry.{Entry}
use Rattle.entry_list.specs.Record.{IsPlaced, record_in, records_in}
use Rattle.ext_split.specs.declared.merge.Error.{Error}
use Rattle.ext_split.specs.Merge.{IsMerge, IsMergeFault, place_fault, replaced_record_fault, replaced}
use Rattle.ext_split.specs.MergeSteps.{AreRemovedAt, IsDeleteFault, IsReplaceFault, Keeps, RemovesAt, ReplacesEntries}
use Rattle.ext_split.specs.MergeSteps.{MergeCause, changed_at}

-- ---- replacing

-- the text of the error of replacing an entry by another, if there is an error
abbrev pub ReplaceFaultText : Option (Bor (List ℕ)) → List ℕ → Entry → List ℕ → Entry → Type 0
ReplaceFaultText text storage entry split_storage by =
    option_map (λ t. t.now) text ≡ replaced_record_fault (record_in storage entry) (Some (record_in split_storage by))

-- in each storage, the record at the index is replaced by that of the entry, and the others are unchanged
abbrev pub ReplacesAt : ℕ → Entry → List Entry → List Entry → Type 0
ReplacesAt place by old new =
    (storage split_storage : List ℕ) → records_in storage new
    ≡ changed_at (λ r. replaced r (Some (record_in split_storage by))) place (records_in storage old)

-- if the paths of the old entries are in a storage, those of the new entries are in it too
abbrev pub StayPlaced : List Entry → List Entry → Type 0
StayPlaced old new = (len : ℕ) → All (IsPlaced len) old → All (IsPlaced len) new

-- The shared entry at an index took everything but the path from a split one. Both exist, and replacing has no error.
pub record TakesAt (storage : List ℕ) (old new : Vec Entry) (split_storage : List ℕ) (split : List Entry)
    (taken place : ℕ) (result : Result (Unit {0}) Error) : Type 0 where
  pub sound : OnOk result (place_fault (slice_get (records_in storage old.items) place)
      (slice_get (records_in split_storage split) taken) ≡ None)
  pub in_range : OnOk result (taken < length split)
  pub replaced : OnOk result (records_in storage new.items
      ≡ changed_at (λ r. replaced r (slice_get (records_in split_storage split) taken)) place
      (records_in storage old.items))
  pub placed : OnOk result (StayPlaced old.items new.items)
  pub fault : IfErr result (λ e. MergeCause e (λ fault. place_fault (slice_get (records_in storage old.items) place)
      (slice_get (records_in split_storage split) taken) ≡ Some fault))

-- The shared entries at the bitmap's positions took everything but the paths from the first split entries. Otherwise
-- the result is the first error.
pub record TakesBy (replace : Ewah) (storage : List ℕ) (old new : Vec Entry) (split_storage : List ℕ)
    (split : List Entry) (result : Result ℕ Error) : Type 0 where
  pub replaced : IfOk result (ReplacesEntries (bitmap replace).words (records_in storage old.items)
      (records_in split_storage split) (records_in storage new.items))
  pub few : IfOk result (λ taken. taken ≤ length split)
  pub placed : OnOk result (StayPlaced old.items new.items)
  pub fault : IfErr result (λ e. MergeCause e (IsReplaceFault (bitmap replace).words (records_in storage old.items)
      (records_in split_storage split)))

-- ---- appending

-- The split entries follow the other entries. If the paths of the others were in their storage, the split entries'
-- paths follow those paths.
pub record Joins (old new : Vec Entry) (storage new_storage : Vec ℕ) (split_storage : List ℕ) (split : List Entry)
    (result : Result (Unit {0}) AllocError) : Type 0 where
  pub count : OnOk result (length new.items ≡ length old.items + length split)
  pub appended : OnOk result (All (IsPlaced (length storage.items)) old.items → records_in new_storage.items new.items
      ≡ records_in storage.items old.items ++ records_in split_storage split)
  pub placed : OnOk result (All (IsPlaced (length storage.items)) old.items
      → All (IsPlaced (length new_storage.items)) new.items)

-- ---- deleting

-- whatever positions were marked before, this one is marked with them
abbrev pub MarksAt : ℕ → List Entry → List Entry → Type 0
MarksAt place before after =
    (seen : List ℕ) (old : List Entry) → AreRemovedAt seen old before → AreRemovedAt (seen ++ place ∷ []) old after

-- each entry at a position of the bitmap is marked
abbrev pub MarksBy : Ewah → List Entry → List Entry → Type 0
MarksBy delete old new = RemovesAt (bitmap delete).words old new

-- the records at no position of the bitmap are retained
abbrev pub KeepsOthers : Ewah → List ℕ → Vec Entry → Vec Entry → Type 0
KeepsOthers delete storage old new =
    Keeps (bitmap delete).words (records_in storage old.items) (records_in storage new.items)

-- what an error implies about a bitmap's positions over a list
abbrev pub DeleteCause : {X : Type 0} → Ewah → List X → Error → Type 0
DeleteCause delete xs e = MergeCause e (IsDeleteFault (bitmap delete).words (length xs))

-- ---- the complete merge

-- The entries are those of both indexes, merged by both bitmaps. If the old paths were in their storage, all paths are
-- in the new one. Otherwise the result is the first error.
pub record Merges (delete replace : Ewah) (old : Vec Entry) (storage : Vec ℕ) (split : List Entry)
    (split_storage : List ℕ) (new : Vec Entry) (new_storage : Vec ℕ) (result : Result (Unit {0}) Error) : Type 0 where
  pub merged : OnOk result (All (IsPlaced (length storage.items)) old.items → IsMerge (bitmap delete).words
      (bitmap replace).words (records_in storage.items old.items) (records_in split_storage split)
      (records_in new_storage.items new.items))
  pub placed : OnOk result (All (IsPlaced (length storage.items)) old.items
      → All (IsPlaced (length new_storage.items)) new.items)
  pub fault : IfErr result (λ e. MergeCause e (IsMergeFault (bitmap delete).words (bitmap replace).words
      (records_in storage.items old.items) (records_in split_storage split)))
