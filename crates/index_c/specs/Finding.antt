-- What a search among the rows of a table returns about indexes (the library's own).
use Rattle.std.specs.Prelude.{◌≡◌, ◌≢◌, ℕ, ◌≤◌, ◌<◌, ◌⊎◌, nat_eq, nat_lt, Bool, true, false, List, length, map, position}
use Rattle.std.specs.Prelude.{Option, Some, None, IfSome, if◌then◌else◌}
use Rattle.std.specs.List.{HoldsAt}
use Rattle.std.specs.declared.ops.Range.{Range}
use Rattle.gix_index.specs.Closest.{closest, is_itself, stands_in}
use Rattle.gix_index.specs.Lookup.{IsKeyAt, insertion_of, record_index}
use Rattle.gix_index.specs.Order.{IsOrderedByPath, IsStrictlyOrdered, path_cmp}
use Rattle.gix_index.specs.Range.{IsPrefixRange, LiesWithin}
use Rattle.gix_index.specs.Record.{Record}
use Rattle.gix_index.specs.Searching.Folded.{folded_closest}
use Rattle.index_c.specs.declared.prefix.Places.{Places}
use Rattle.index_c.specs.declared.status.TheConstants.{DONE, NONE}
use Rattle.base_search.specs.Halving.{IsPartedAt}
use Rattle.capi_table.specs.Table.{records_of}
use Rattle.capi_table.specs.declared.row.Row.{Row}

-- ---- one row

-- this is the result for the record that the row at an index spells
abbrev pub RowGives : {A : Type 0} → (Record → A) → List ℕ → List Row → ℕ → A → Type 0
RowGives f paths rows place a = HoldsAt (λ r. f r ≡ a) (records_of paths rows) place

-- there is a row at the index, and the record that it spells passes a test
abbrev pub HasPassing : (Record → Bool) → List ℕ → List Row → ℕ → Type 0
HasPassing test paths rows place = (place < length rows) × RowGives test paths rows place true

-- A search returns the index of a row that passes a test, or none. In rows whose paths never decrease it is the one
-- wanted.
pub record FindsRow (test : Record → Bool) (wanted : List Record → Option ℕ) (paths : List ℕ) (rows : List Row)
    (r : Option ℕ) : Type 0 where
  pub found : IfSome r (HasPassing test paths rows)
  pub answer : IsOrderedByPath (records_of paths rows) → r ≡ wanted (records_of paths rows)

-- the search returns the first row that passes the test
abbrev pub FindsFirst : (Record → Bool) → List ℕ → List Row → Option ℕ → Type 0
FindsFirst test paths rows r = FindsRow test (position test) paths rows r

-- the search returns the row that is closest to a directory
abbrev pub FindsClosestRow : (directory paths : List ℕ) → List Row → Option ℕ → Type 0
FindsClosestRow directory paths rows r = FindsRow (stands_in directory) (closest directory) paths rows r

-- the search returns the first row that is the directory itself, if the rows from `low` on aren't below its path
pub record FindsItself (directory : List ℕ) (low : ℕ) (paths : List ℕ) (rows : List Row) (r : Option ℕ) : Type 0 where
  pub found : IfSome r (HasPassing (is_itself directory) paths rows)
  pub answer : IsOrderedByPath (records_of paths rows)
      → IsPartedAt false (map (λ x. path_cmp x.path directory) (records_of paths rows)) low
      → r ≡ position (is_itself directory) (records_of paths rows)

-- ---- indexes that are returned

-- an index among `count` rows, of which one past the last means none
abbrev pub place_among : ℕ → ℕ → Option ℕ
place_among count place = if nat_lt place count then Some place else None

-- The result of a search among `count` rows: an index up to their number, of which a predicate holds if there is a row.
-- In rows in order it is the one wanted.
pub record PlaceCodes (Found : ℕ → Type 0) (Ordered : Type 0) (wanted : Option ℕ) (count place : ℕ) : Type 0 where
  pub in_range : place ≤ count
  pub found : place < count → Found place
  pub answer : Ordered → place_among count place ≡ wanted

-- the result of a search of the row with a path and a stage
abbrev pub KeyCodes : (path : List ℕ) (stage : ℕ) (paths : List ℕ) → List Row → ℕ → Type 0
KeyCodes path stage paths rows place =
    PlaceCodes (IsKeyAt path stage (records_of paths rows)) (IsStrictlyOrdered (records_of paths rows))
    (record_index path stage (records_of paths rows)) (length rows) place

-- the result of a search of the row that is closest to a directory
abbrev pub ClosestCodes : (directory paths : List ℕ) → List Row → ℕ → Type 0
ClosestCodes directory paths rows place =
    PlaceCodes (λ i. RowGives (stands_in directory) paths rows i true) (IsOrderedByPath (records_of paths rows))
    (closest directory (records_of paths rows)) (length rows) place

-- The index of a path and a stage among the rows. If the rows strictly increase, both are at it, or would be.
pub record BoundCodes (path : List ℕ) (stage : ℕ) (paths : List ℕ) (rows : List Row) (place : ℕ) : Type 0 where
  pub in_range : place ≤ length rows
  pub answer : IsStrictlyOrdered (records_of paths rows) → place ≡ insertion_of path stage (records_of paths rows)

-- the index of the first row that is a directory or below it, with case ignored, in any order
pub record FoldedCodes (directory paths : List ℕ) (rows : List Row) (place : ℕ) : Type 0 where
  pub in_range : place ≤ length rows
  pub answer : place_among (length rows) place ≡ folded_closest true directory (records_of paths rows)

-- ---- ranges

-- the range that is returned
abbrev pub range_of : Places → Range ℕ
range_of p = record { start = p.start; end = p.end }

-- the range that is returned if the status is 0; with another status there is none
abbrev pub reported_range : ℕ → Places → Option (Range ℕ)
reported_range status p = if nat_eq status 0 then Some (range_of p) else None

-- The rows whose paths begin with a prefix are these, if paths never decrease. For the empty prefix this holds in any
-- order.
pub record IsPrefixed (prefix paths : List ℕ) (rows : List Row) (range : Option (Range ℕ)) : Type 0 where
  pub exactly : IsOrderedByPath (records_of paths rows) → IsPrefixRange prefix (records_of paths rows) range
  pub empty : length prefix ≡ 0 → IsPrefixRange prefix (records_of paths rows) range

-- With DONE the range is returned, and is one of rows of the table. With NONE there are none, and the range is as it
-- was.
pub record PrefixCodes (prefix paths : List ℕ) (rows : List Row) (old new : Places) (status : ℕ) : Type 0 where
  pub status_is : (status ≡ DONE) ⊎ (status ≡ NONE)
  pub in_range : status ≡ DONE → LiesWithin (records_of paths rows) (range_of new)
  pub prefixed : IsPrefixed prefix paths rows (reported_range status new)
  pub kept : status ≢ DONE → new ≡ old
