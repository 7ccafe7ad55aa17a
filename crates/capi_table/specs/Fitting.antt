-- Whether a table can be in a file by itself (the library's own; gitformat-index, "Index entry", defines the numbers of
-- a row).
use Rattle.std.specs.Prelude.{◌≡◌, ◌≢◌, ℕ, ◌+◌, ◌≤◌, ◌<◌, ◌⊎◌, Bool, false, true, List, All, length, take}
use Rattle.std.specs.Prelude.{Option, Some, None, if◌then◌else◌}
use Rattle.std.specs.List.{AllWithin, HoldsAt}
use Rattle.std.specs.Option.{is_some, option_map_or}
use Rattle.std.specs.Ordering.{is_ge}
use denote.Ref.{Bor}
use Rattle.gix_index.specs.EntryImage.{is_removed, written}
use Rattle.gix_index.specs.Flags.{stage_number}
use Rattle.gix_index.specs.Kind.{Kind}
use Rattle.gix_index.specs.Mode.{directory_mode, named_kind}
use Rattle.gix_index.specs.Order.{IsStrictlyOrdered, record_cmp}
use Rattle.gix_index.specs.Record.{Record}
use Rattle.capi_table.specs.Table.{kind_number, records_of, row_path, spelled}
use Rattle.capi_table.specs.declared.row.Row.{Row}
use Rattle.capi_table.specs.declared.write.Fault.{Fault}
use Rattle.capi_table.specs.declared.write.Fault.TheVariants as faults

-- ---- rows

-- the row's mode is one of the five that git has
abbrev pub has_git_mode : Row → Bool
has_git_mode row = is_some (named_kind row.mode)

-- the row's path is among the bytes for paths, isn't empty, and has no NUL
abbrev pub HasPlainPath : List ℕ → Row → Type 0
HasPlainPath paths row =
    (row.path_start + row.path_len ≤ length paths) × (row.path_len ≢ 0) × All (λ b. b ≢ 0) (row_path paths row)

-- The row can be in a file with this hash algorithm, with or without the mark of a sparse index. Its stage is that of
-- its flags. Its mode is one of git's, and without the mark not a directory's. Its path is among the bytes for paths,
-- isn't empty, and has no NUL.
pub record CanStand (kind : Kind) (sparse : Bool) (paths : List ℕ) (row : Row) : Type 0 where
  pub kind_is : row.kind ≡ kind_number kind
  pub stage_is : row.stage ≡ stage_number row.flags
  pub named_mode : has_git_mode row ≡ true
  pub single : sparse ≡ false → row.mode ≢ directory_mode
  pub inside : row.path_start + row.path_len ≤ length paths
  pub named : row.path_len ≢ 0
  pub plain : All (λ b. b ≢ 0) (row_path paths row)

-- the row is marked REMOVE, or can be in such a file
abbrev pub IsFitRow : Kind → Bool → List ℕ → Row → Type 0
IsFitRow kind sparse paths row = is_removed row.flags ≡ false → CanStand kind sparse paths row

-- the index of the first row that isn't fit, or None if each is
abbrev pub IsFirstUnfitRow : Kind → Bool → List ℕ → List Row → Option ℕ → Type 0
IsFirstUnfitRow kind sparse paths rows None = All (IsFitRow kind sparse paths) rows
IsFirstUnfitRow kind sparse paths rows (Some place) =
    (place < length rows) × HoldsAt (λ row. IsFitRow kind sparse paths row → ⊥) rows place
    × AllWithin (IsFitRow kind sparse paths) rows 0 place

-- ---- order

-- there is a row before this one, and this one isn't above it
abbrev pub falls_behind : List ℕ → Option (Bor Row) → Row → Bool
falls_behind paths before row =
    option_map_or (λ b. is_ge (record_cmp (spelled paths b.now) (spelled paths row))) before false

-- The index of the first record that is written and isn't above the one that is written before it. None if those that
-- are written strictly increase.
abbrev pub IsFirstFallen : List Record → Option ℕ → Type 0
IsFirstFallen rs None = IsStrictlyOrdered (written rs)
IsFirstFallen rs (Some place) =
    (place < length rs) × IsStrictlyOrdered (written (take place rs))
    × (IsStrictlyOrdered (written (take (place + 1) rs)) → ⊥)

-- ---- tables

-- each row is fit, and those that are written strictly increase by path, then by stage
pub record IsFitTable (kind : Kind) (sparse : Bool) (paths : List ℕ) (rows : List Row) : Type 0 where
  pub fit : All (IsFitRow kind sparse paths) rows
  pub ordered : IsStrictlyOrdered (written (records_of paths rows))

-- the error of a row that isn't fit: its mode if that is none of git's
abbrev pub unfit_fault : ℕ → Row → Fault
unfit_fault place row = if has_git_mode row then faults.Row place else faults.Mode place

-- the error is that of the first row that isn't fit
pub record HasUnfitRow (kind : Kind) (sparse : Bool) (paths : List ℕ) (rows : List Row) (fault : Fault) : Type 0 where
  pub place : ℕ
  pub first : IsFirstUnfitRow kind sparse paths rows (Some place)
  pub fault_is : HoldsAt (λ row. fault ≡ unfit_fault place row) rows place

-- each row is fit, and the error is that of the first that is written and isn't above the one before it
pub record HasFallenRow (kind : Kind) (sparse : Bool) (paths : List ℕ) (rows : List Row) (fault : Fault) : Type 0 where
  pub place : ℕ
  pub fit : All (IsFitRow kind sparse paths) rows
  pub fall : IsFirstFallen (records_of paths rows) (Some place)
  pub fault_is : fault ≡ faults.Order place

-- the first error that a table has by itself
abbrev pub IsUnfitTable : Kind → Bool → List ℕ → List Row → Fault → Type 0
IsUnfitTable kind sparse paths rows fault =
    HasUnfitRow kind sparse paths rows fault ⊎ HasFallenRow kind sparse paths rows fault
