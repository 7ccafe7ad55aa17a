-- What a call that fills a caller's table returns, and what it leaves there (the library's own).
use Rattle.std.specs.Prelude.{◌≡◌, ℕ, ◌+◌, ◌≤◌, ◌<◌, ◌⊎◌, Bool, true, false, List, ◌++◌, All, length, take, drop}
use Rattle.std.specs.Prelude.{slice_range, None, Result, IfErr, IfOk}
use Rattle.gix_index.specs.Contents.{Contents}
use Rattle.gix_index.specs.Entries.{AreEntries}
use Rattle.gix_index.specs.Kind.{Kind}
use Rattle.gix_index.specs.Outlined.{Outlines}
use Rattle.gix_index.specs.Outlined.Outline.{Outline}
use Rattle.gix_index.specs.Outlined.Passed.{paths_len}
use Rattle.gix_index.specs.Record.{IsSized, Record}
use Rattle.gix_index.specs.Version.{Version}
use Rattle.capi_table.specs.Joining.{AreReadSo, FailBoth}
use Rattle.capi_table.specs.Reading.{FailsOwn, Fills, HasSizes, IfFailed, IfNoRoom, IsReadSo, IsTooSmall}
use Rattle.capi_table.specs.Reading.{IsWantOfMemory}
use Rattle.capi_table.specs.Table.{FillsRecords}
use Rattle.capi_table.specs.declared.fault.Failure.{Failure}
use Rattle.capi_table.specs.declared.read.Sizes.{Sizes}
use Rattle.capi_table.specs.declared.read.Unread.{Unread}
use Rattle.capi_table.specs.declared.row.Row.{Row}

-- ---- paths

-- The bytes for paths with another path at the position `place`. It is `shared` bytes of those that begin at the
-- position `earlier`, and then the tail.
abbrev pub with_path_at : List ℕ → (earlier place shared : ℕ) → List ℕ → List ℕ
with_path_at paths earlier place shared tail =
    take place paths ++ (slice_range paths earlier (earlier + shared) ++ tail)
    ++ drop (place + (shared + length tail)) paths

-- ---- entries in bytes

-- these bytes begin with `count` entries, whose paths have no more bytes together than there are for paths
abbrev pub HasEntries : Version → Kind → ℕ → List ℕ → List ℕ → Type 0
HasEntries version kind count bytes paths =
    (rs : List Record) × (after : List ℕ) × AreEntries version kind None bytes rs after × (length rs ≡ count)
    × (paths_len rs ≤ length paths) × All IsSized rs

-- the table has the first `count` entries of these bytes
abbrev pub FillsEntries : Version → Kind → ℕ → List ℕ → List Row → List Row → List ℕ → List ℕ → Type 0
FillsEntries version kind count bytes rows filled paths spelling =
    (rs : List Record) (after : List ℕ) → AreEntries version kind None bytes rs after → length rs ≡ count
    → FillsRecords rs rows filled paths spelling

-- ---- tables

-- whether there are fewer rows or bytes for paths than a table needs
pub record TableRoomTest (sizes : Sizes) (rows : List Row) (paths : List ℕ) (lacks : Bool) : Type 0 where
  pub small : lacks ≡ true → (length rows < sizes.entries) ⊎ (length paths < sizes.path_bytes)
  pub rows_fit : lacks ≡ false → sizes.entries ≤ length rows
  pub paths_fit : lacks ≡ false → sizes.path_bytes ≤ length paths

-- What is returned if a value is to fill a table, if there is one. Ok: its sizes, and the table has it. Err: its sizes,
-- as the table is too small; or why there is no value. After an error rows and bytes for paths are as they were.
pub record FillsWith (Value : (Contents → Type 0) → Type 0) (Fails : Failure → Type 0) (old new : List Row)
    (before after : List ℕ) (r : Result Sizes Unread) : Type 0 where
  pub done : IfOk r (λ sizes. Value (HasSizes sizes (λ v. Fills v old new before after)))
  pub no_room : IfNoRoom r (λ sizes. Value (HasSizes sizes (λ v. IsTooSmall v old before)))
  pub failed : IfFailed r Fails
  pub rows : IfErr r (λ _. new ≡ old)
  pub paths : IfErr r (λ _. after ≡ before)

-- the result of filling a table with a value in memory
abbrev pub FillsValue : Contents → List Row → List Row → List ℕ → List ℕ → Result Sizes Unread → Type 0
FillsValue v old new before after r = FillsWith (λ P. P v) IsWantOfMemory old new before after r

-- the result of filling a table with each value that has this outline, as there is one
abbrev pub FillsOutline : Outline → List Row → List Row → List ℕ → List ℕ → Result Sizes Unread → Type 0
FillsOutline outline old new before after r =
    FillsWith (λ P. (v : Contents) → Outlines v outline → P v) (λ failure. ⊥) old new before after r

-- the result of filling a table with what these bytes are read as
abbrev pub FillsIndex : Bool → Kind → List ℕ → List Row → List Row → List ℕ → List ℕ → Result Sizes Unread → Type 0
FillsIndex skip kind bytes old new before after r =
    FillsWith (IsReadSo skip kind bytes) (FailsOwn skip kind bytes) old new before after r

-- the result of filling a table with what these bytes are read as with those of the shared index
abbrev pub FillsBoth : Bool → Kind → List ℕ → List ℕ → List Row → List Row → List ℕ → List ℕ → Result Sizes Unread
    → Type 0
FillsBoth skip kind bytes shared old new before after r =
    FillsWith (AreReadSo skip kind bytes shared) (FailBoth skip kind bytes shared) old new before after r
