-- Why a table has no trees, and which row the error names (git-write-tree; the errors are the library's own).
use Rattle.std.specs.Prelude.{◌≡◌, ℕ, ◌==◌, ◌&&◌, ◌⊎◌, Bool, true, false, not, List, [], Option, Some, position}
use Rattle.std.specs.Prelude.{unwrap_or, if◌then◌else◌}
use Rattle.std.specs.Str.{bytes_eq}
use Rattle.gix_index.specs.Owned.{bstring_bytes}
use Rattle.gix_index.specs.EntryImage.{is_removed}
use Rattle.gix_index.specs.Flags.{stage_number}
use Rattle.gix_index.specs.Kind.{Kind}
use Rattle.gix_index.specs.Refusals.{AreRefused, Refusal}
use Rattle.gix_index.specs.Refusals as refusals
use Rattle.gix_index.specs.Trees.NameFault.{NameFault}
use Rattle.gix_index.specs.Trees.NameFault.TheVariants as name_faults
use Rattle.gix_index.specs.WriteTreesError.{Error}
use Rattle.gix_index.specs.WriteTreesError.TheVariants as errors
use Rattle.entry_info.specs.Names as names
use Rattle.capi_table.specs.Fitting.{IsFitTable, IsUnfitTable}
use Rattle.capi_table.specs.Table.{row_path}
use Rattle.capi_table.specs.declared.row.Row.{Row}
use Rattle.capi_table.specs.declared.write.Fault.{Fault}
use Rattle.capi_table.specs.declared.write.Fault.TheVariants as faults
use Rattle.capi_table.specs.Trees.{records_left}
use Rattle.capi_table.specs.declared.trees.Unmade.{Unmade}
use Rattle.capi_table.specs.declared.trees.Unmade.TheVariants as unmade

-- ---- which row the error names

-- the row isn't left out, is in conflict or not, and has the path
abbrev pub is_blamed : List ℕ → List ℕ → Bool → Row → Bool
is_blamed paths path conflict row =
    not (is_removed row.flags)
    && ((if conflict then not (stage_number row.flags == 0) else stage_number row.flags == 0)
    && bytes_eq (row_path paths row) path)

-- the first row that fits is at the index
abbrev pub IsRowAt : List ℕ → List Row → List ℕ → Bool → ℕ → Type 0
IsRowAt paths rows path conflict place = position (is_blamed paths path conflict) rows ≡ Some place

-- The row that a rejection is about is at the index. If it is about two rows, this is the one whose path is below the
-- other's. If there are too many entries, no row is named.
abbrev pub IsOfRow : List ℕ → List Row → Refusal → ℕ → Type 0
IsOfRow paths rows refusals.TooMany place = Unit {0}
IsOfRow paths rows (refusals.Unmerged path) place = IsRowAt paths rows path true place
IsOfRow paths rows (refusals.Mode path mode) place = IsRowAt paths rows path false place
IsOfRow paths rows (refusals.Path path fault) place = IsRowAt paths rows path false place
IsOfRow paths rows (refusals.OtherKind path) place = IsRowAt paths rows path false place
IsOfRow paths rows (refusals.NullId path) place = IsRowAt paths rows path false place
IsOfRow paths rows (refusals.Both file below) place = IsRowAt paths rows below false place

-- ---- the error

-- The error of a path of a row. A name that git rejects is the error `Name`; any other error of a path is one of the
-- row.
abbrev pub row_path_fault : ℕ → NameFault → Fault
row_path_fault place name_faults.Empty = faults.Name place
row_path_fault place name_faults.Nul = faults.Name place
row_path_fault place (name_faults.Refused number) = faults.Name place
row_path_fault place name_faults.NoSlash = faults.Row place
row_path_fault place name_faults.TooDeep = faults.Row place

-- the error of a rejection that is about the row at an index
abbrev pub refusal_fault : ℕ → Refusal → Fault
refusal_fault place refusals.TooMany = faults.Count
refusal_fault place (refusals.Unmerged path) = faults.Unmerged place
refusal_fault place (refusals.Mode path mode) = faults.Mode place
refusal_fault place (refusals.Path path fault) = row_path_fault place fault
refusal_fault place (refusals.OtherKind path) = faults.Row place
refusal_fault place (refusals.NullId path) = faults.Row place
refusal_fault place (refusals.Both file below) = faults.Below place

-- Each row can be written and they are in order. The error is that of the first record that has one, or that there are
-- too many records.
pub record HasRefusedRow (kind : Kind) (paths : List ℕ) (rows : List Row) (fault : Fault) : Type 0 where
  pub table : IsFitTable kind true paths rows
  pub refusal : Refusal
  pub first : AreRefused names.name_rejection kind (records_left paths rows) refusal
  pub place : ℕ
  pub of_row : IsOfRow paths rows refusal place
  pub fault_is : fault ≡ refusal_fault place refusal

-- the first error because of which a table has no trees
abbrev pub HasNoTrees : Kind → List ℕ → List Row → Fault → Type 0
HasNoTrees kind paths rows fault = IsUnfitTable kind true paths rows fault ⊎ HasRefusedRow kind paths rows fault

-- ---- errors

-- the path that an error is about
abbrev pub blamed_path : Error → List ℕ
blamed_path (errors.Unmerged path) = bstring_bytes path
blamed_path (errors.Mode path mode) = bstring_bytes path
blamed_path (errors.Path path fault) = bstring_bytes path
blamed_path (errors.OtherKind path) = bstring_bytes path
blamed_path (errors.NullId path) = bstring_bytes path
blamed_path (errors.Both file below) = bstring_bytes below
blamed_path errors.TooManyEntries = []
blamed_path (errors.Sink number) = []
blamed_path errors.Memory = []

-- whether the error is a conflict
abbrev pub is_for_conflict : Error → Bool
is_for_conflict (errors.Unmerged path) = true
is_for_conflict (errors.Mode path mode) = false
is_for_conflict (errors.Path path fault) = false
is_for_conflict (errors.OtherKind path) = false
is_for_conflict (errors.NullId path) = false
is_for_conflict (errors.Both file below) = false
is_for_conflict errors.TooManyEntries = false
is_for_conflict (errors.Sink number) = false
is_for_conflict errors.Memory = false

-- The reason that an error gives, if the row that it is about is at `place`. An error of the sink means that memory ran
-- out.
abbrev pub unmade_at : Error → ℕ → Unmade
unmade_at errors.TooManyEntries place = unmade.Refused faults.Count
unmade_at (errors.Unmerged path) place = unmade.Refused (faults.Unmerged place)
unmade_at (errors.Mode path mode) place = unmade.Refused (faults.Mode place)
unmade_at (errors.Path path fault) place = unmade.Refused (row_path_fault place fault)
unmade_at (errors.OtherKind path) place = unmade.Refused (faults.Row place)
unmade_at (errors.NullId path) place = unmade.Refused (faults.Row place)
unmade_at (errors.Both file below) place = unmade.Refused (faults.Below place)
unmade_at (errors.Sink number) place = unmade.Memory
unmade_at errors.Memory place = unmade.Memory

-- the index of the first row that an error is about, if any
abbrev pub blamed_place : List ℕ → List Row → Error → Option ℕ
blamed_place paths rows e = position (is_blamed paths (blamed_path e) (is_for_conflict e)) rows

-- the index of the first row that an error is about, or 0
abbrev pub fault_row : List ℕ → List Row → Error → ℕ
fault_row paths rows e = unwrap_or (blamed_place paths rows e) 0

abbrev pub unmade_reason : List ℕ → List Row → Error → Unmade
unmade_reason paths rows e = unmade_at e (fault_row paths rows e)
