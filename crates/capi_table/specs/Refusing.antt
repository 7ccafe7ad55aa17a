-- Why the rows of a table, as changes of an index, make nothing of it. What a call returns that writes what they make
-- (the library's own).
use Rattle.std.specs.Prelude.{◌≡◌, ◌⊎◌, ℕ, false, List, All, Some, None, Result, IfErr, IfOk}
use Rattle.gix_index.specs.Changing.ApplyError.TheVariants.{Refused}
use Rattle.gix_index.specs.Changing.Change.{Change}
use Rattle.gix_index.specs.Changing.Changes.{first_rejection}
use Rattle.gix_index.specs.Changing.Wholes.{refusal_among}
use Rattle.gix_index.specs.Changing.Error.{Error}
use Rattle.gix_index.specs.Changing.Error.TheVariants as errors
use Rattle.gix_index.specs.Contents.{Contents}
use Rattle.gix_index.specs.Kind.{Kind}
use Rattle.gix_index.specs.Order.{IsStrictlyOrdered}
use Rattle.gix_index.specs.OrderError.{Error as OrderError}
use Rattle.gix_index.specs.OrderError.TheVariants as orders
use Rattle.gix_index.specs.Sorted.{IsFirstFall}
use Rattle.entry_info.specs.Names as names
use Rattle.capi_table.specs.Fitting.{HasUnfitRow, IsFitRow}
use Rattle.capi_table.specs.Joining.{AreReadSo, FailBoth}
use Rattle.capi_table.specs.Reading.{LacksMemory}
use Rattle.capi_table.specs.Updating.{AreSaidBy, HasKeptImage, IsUnwritableKept, PassesRoomKept, UpdatesTable}
use Rattle.capi_table.specs.Writing.{IfLacksRoom, IfTableRejected, IfUnwritten}
use Rattle.capi_table.specs.declared.fault.Failure.{Failure}
use Rattle.capi_table.specs.declared.row.Row.{Row}
use Rattle.capi_table.specs.declared.write.Fault.{Fault}
use Rattle.capi_table.specs.declared.write.Fault.TheVariants as faults
use Rattle.capi_table.specs.declared.write.Image.{Image}
use Rattle.capi_table.specs.declared.write.Unwritten.{Unwritten}
use Rattle.capi_table.specs.declared.write.Unwritten.TheVariants as unwritten

-- ---- errors

-- the error of a change at an index that isn't made
abbrev pub table_change_fault : ℕ → Error → Fault
table_change_fault at errors.EmptyPath = faults.Row at
table_change_fault at (errors.Nul place) = faults.Row at
table_change_fault at (errors.Mode mode) = faults.Mode at
table_change_fault at (errors.OtherKind expected actual) = faults.Row at
table_change_fault at errors.NullId = faults.Row at
table_change_fault at errors.WholeDirectory = faults.Row at
table_change_fault at errors.EmptyName = faults.Name at
table_change_fault at (errors.Name number) = faults.Name at
table_change_fault at errors.InWholeDirectory = faults.Below at
table_change_fault at (errors.PathTooLong len) = faults.Row at
table_change_fault at errors.Memory = faults.Row at

-- the error is that of the value's first entry that isn't above the one before it
pub record HasFallenEntry (fault : Fault) (v : Contents) : Type 0 where
  pub place : ℕ
  pub fall : IsFirstFall v.records (Some place)
  pub fault_is : fault ≡ faults.Order place

-- the entries are in order, and the error is that of the first row that isn't fit
pub record HasUnfitChange (kind : Kind) (paths : List ℕ) (rows : List Row) (fault : Fault) (v : Contents)
    : Type 0 where
  pub ordered : IsStrictlyOrdered v.records
  pub unfit : HasUnfitRow kind v.extensions.sparse paths rows fault

-- The entries are in order, and each row is fit. The error is that of the first row whose change is rejected. The
-- storage of paths has `room` bytes.
pub record HasRefusedChange (kind : Kind) (paths : List ℕ) (rows : List Row) (room : ℕ) (fault : Fault) (v : Contents)
    : Type 0 where
  pub ordered : IsStrictlyOrdered v.records
  pub fit : All (IsFitRow kind v.extensions.sparse paths) rows
  pub changes : List Change
  pub said : AreSaidBy paths rows changes
  pub at : ℕ
  pub cause : Error
  pub first : refusal_among (first_rejection names.name_rejection v.kind room changes) changes v.records ≡ Some (Refused at cause)
  pub fault_is : fault ≡ table_change_fault at cause

-- the first error because of which the rows make nothing of a value, with `room` bytes in the storage of paths
abbrev pub IsUnmade : Kind → List ℕ → List Row → ℕ → Fault → Contents → Type 0
IsUnmade kind paths rows room fault v =
    HasFallenEntry fault v ⊎ HasUnfitChange kind paths rows fault v ⊎ HasRefusedChange kind paths rows room fault v

-- why the rows make nothing of a value; running out of memory states nothing
abbrev pub MakesNothing : Kind → List ℕ → List Row → ℕ → Contents → Unwritten → Type 0
MakesNothing kind paths rows room v (unwritten.NoRoom told) = ⊥
MakesNothing kind paths rows room v (unwritten.Refused fault) = IsUnmade kind paths rows room fault v
MakesNothing kind paths rows room v unwritten.Memory = Unit {0}

-- the reason for entries that aren't in order; running out of memory to name them has its own
abbrev pub order_reason : OrderError → Unwritten
order_reason (orders.OutOfOrder index path stage previous_path previous_stage) = unwritten.Refused (faults.Order index)
order_reason orders.Memory = unwritten.Memory

-- the first error because of which nothing is written in place of the index of these bytes, joined to the shared index
abbrev pub IsUnupdated : Kind → List ℕ → List ℕ → List ℕ → List Row → Fault → Type 0
IsUnupdated kind bytes shared paths rows fault =
    AreReadSo false kind bytes shared (λ v. (room : ℕ) × IsUnmade kind paths rows room fault v)
    ⊎ UpdatesTable kind bytes shared paths rows (IsUnwritableKept fault)

-- ---- what is returned

-- What is returned if what the rows make of an index is to be written into a room. Ok: what became of it. Err: why the
-- bytes, or those of the shared index, aren't read. If nothing is written, the room is as it was.
pub record WritesUpdate (kind : Kind) (bytes shared paths : List ℕ) (rows : List Row) (old new : List ℕ)
    (r : Result (Result Image Unwritten) Failure) : Type 0 where
  pub done : IfOk r (λ written. IfOk written
      (λ told. UpdatesTable kind bytes shared paths rows (HasKeptImage told old new)))
  pub refused : IfOk r (λ written. IfTableRejected written (IsUnupdated kind bytes shared paths rows))
  pub memory : IfOk r (λ written. IfUnwritten written (LacksMemory None false kind bytes))
  pub no_room : IfOk r (λ written. IfLacksRoom written
      (λ told. UpdatesTable kind bytes shared paths rows (PassesRoomKept told old)))
  pub unread : IfErr r (FailBoth false kind bytes shared)
  pub room : IfErr r (λ _. new ≡ old)
  pub kept : IfOk r (λ written. IfErr written (λ _. new ≡ old))
