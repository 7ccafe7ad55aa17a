-- Lookup of records by a path, or by a path and a stage (the library's own). Each definition is for any list. For an
-- ordered list a search has these results.
use Rattle.std.specs.Prelude.{◌≡◌, ◌≢◌, ℕ, ◌<◌, ◌==◌, Bool, ◌&&◌, List, All, length, Option, position, count_by}
use Rattle.std.specs.List.{HoldsAt}
use Rattle.std.specs.Ordering.{is_lt}
use Rattle.std.specs.Str.{bytes_eq}
use Rattle.entry_list.specs.Order.{path_cmp, record_stage, key_cmp}
use Rattle.entry_list.specs.Record.{Record}

-- the record has the path and the stage
pub record HasKey (path : List ℕ) (stage : ℕ) (r : Record) : Type 0 where
  pub path_is : r.path ≡ path
  pub stage_is : record_stage r ≡ stage

-- whether the record has the path and the stage, as a test
abbrev pub has_key : List ℕ → ℕ → Record → Bool
has_key path stage r = bytes_eq r.path path && (record_stage r == stage)

-- the index of the record with the path and the stage: the first, if several have them
abbrev pub record_index : List ℕ → ℕ → List Record → Option ℕ
record_index path stage rs = position (has_key path stage) rs

-- a record with the path and the stage is at i
pub record IsKeyAt (path : List ℕ) (stage : ℕ) (rs : List Record) (i : ℕ) : Type 0 where
  pub in_range : i < length rs
  pub here : HoldsAt (HasKey path stage) rs i

-- a record with the path is at i, at any stage
pub record IsPathAt (path : List ℕ) (rs : List Record) (i : ℕ) : Type 0 where
  pub in_range : i < length rs
  pub here : HoldsAt (λ r. r.path ≡ path) rs i

-- the index at which a path would be inserted: the number of records whose path is below it
abbrev pub insertion_of_path : List ℕ → List Record → ℕ
insertion_of_path path rs = count_by (λ r. is_lt (path_cmp r.path path)) rs

-- the index at which a path and a stage would be inserted: the number of records below both
abbrev pub insertion_of : List ℕ → ℕ → List Record → ℕ
insertion_of path stage rs = count_by (λ r. is_lt (key_cmp path stage r)) rs

-- no record has the path, and it would be inserted at i
pub record IsPathGap (path : List ℕ) (rs : List Record) (i : ℕ) : Type 0 where
  pub none : All (λ r. r.path ≢ path) rs
  pub place : i ≡ insertion_of_path path rs
