-- A traversal of ordered paths that collects their directories (the library's own). Public clauses don't use these
-- definitions.
use Rattle.std.specs.Prelude.{◌≡◌, ◌≢◌, ℕ, zero, suc, ◌+◌, ◌-◌, ◌<◌, ◌≤◌, ◌==◌, ◌&&◌, ◌||◌, nat_eq, nat_lt, min, max}
use Rattle.std.specs.Prelude.{Bool, true, false, cond, List, [], ◌∷◌, ◌++◌, length, map, take, drop, reverse, All}
use Rattle.std.specs.Prelude.{Contains, slice_index, slice_index_or}
use Rattle.std.specs.List.{AllPairs, HoldsAt, starts_with}
use Rattle.std.specs.declared.cmp.Ordering.TheVariants.{Greater, Less}
use Rattle.entry_list.specs.Order.{path_cmp}
use Rattle.entry_list.specs.Record.{Record}
use Rattle.entry_lookup.specs.Folded.{folded, stands_in_folded}
use Rattle.entry_lookup.specs.NameSteps.{NamedValue, outer_cmp}
use Rattle.entry_lookup.specs.declared.walk.Span.{Span}

-- a directory, the first index of a record in it, and the index after the last
pub record SpanValue : Type 0 where
  pub name : List ℕ
  pub start : ℕ
  pub end : ℕ

abbrev pub span_value : Span → SpanValue
span_value s = record { name = s.name.now; start = s.start; end = s.end }

-- the first n bytes of a path are a directory above it or, with `own`, the path itself
abbrev pub is_parent : Bool → List ℕ → ℕ → Bool
is_parent own path n = (slice_index path n == 47) || (own && (n == length path))

-- the directory with one more index, if that is in it
abbrev pub widened : Bool → ℕ → SpanValue → SpanValue
widened true place s = record { name = s.name; start = min s.start place; end = max s.end (place + 1) }
widened false place s = s

-- the directory with the index of a path, if that is in it
abbrev pub extended : Bool → List ℕ → ℕ → SpanValue → SpanValue
extended own path place s = widened (is_parent own path (length s.name)) place s

-- the directories of a path at an index whose names have `from` bytes or more, and fewer than n
abbrev pub opened : Bool → List ℕ → ℕ → ℕ → ℕ → List SpanValue
opened own path place from zero = []
opened own path place from (suc n) =
    cond (nat_lt n from) []
    (opened own path place from n ++ cond (is_parent own path n)
    (record { name = take n path; start = place; end = place + 1 } ∷ []) [])

-- the record is below the directory or, with `own`, is the directory
abbrev pub stands_where : Bool → Bool → List ℕ → Record → Bool
stands_where true ignore_case name r = stands_in_folded ignore_case name r
stands_where false ignore_case name r =
    starts_with nat_eq (folded ignore_case r.path) (folded ignore_case name ++ 47 ∷ [])

-- the open directories whose names have `len` bytes or more are closed, from the last on
pub record IsClosing (len : ℕ) (live closed live' closed' : List SpanValue) : Type 0 where
  pub open_count : ℕ
  pub within : open_count ≤ length live
  pub short : 0 < open_count → HoldsAt (λ s. length s.name < len) live (open_count - 1)
  pub long : All (λ s. len ≤ length s.name) (drop open_count live)
  pub live_is : live' ≡ take open_count live
  pub closed_is : closed' ≡ closed ++ reverse (drop open_count live)

-- from one path to the next: the directories that are closed, that continue, and that are opened
pub record IsStep (own : Bool) (visit : NamedValue) (shared : ℕ) (live closed live' closed' : List SpanValue)
    : Type 0 where
  pub open_count : ℕ
  pub from : ℕ
  pub within : open_count ≤ length live
  pub short : 0 < open_count → HoldsAt (λ s. length s.name ≤ shared) live (open_count - 1)
  pub long : All (λ s. shared < length s.name) (drop open_count live)
  pub first : open_count ≡ 0 → from ≡ 0
  pub last : 0 < open_count → HoldsAt (λ s. from ≡ suc (min (length s.name) (length visit.name))) live (open_count - 1)
  pub closed_is : closed' ≡ closed ++ reverse (drop open_count live)
  pub open_is : live' ≡ map (extended own visit.name visit.place)
      (take open_count live) ++ opened own visit.name visit.place from (suc (length visit.name))

-- each record once, with its path and its index, in the order of the paths, optionally with case ignored
pub record AreVisits (ignore_case : Bool) (rs : List Record) (vs : List NamedValue) : Type 0 where
  pub len : length vs ≡ length rs
  pub each : (v : NamedValue) → Contains vs v → (v.place < length rs)
      × ((q : Record) → (slice_index_or rs v.place q).path ≡ v.name)
  pub whole : (i : ℕ) → i < length rs → (v : NamedValue) × Contains vs v × (v.place ≡ i)
  pub ordered : AllPairs (λ a b. path_cmp (folded ignore_case a.name) (folded ignore_case b.name) ≢ Greater) vs

-- the directories of records, each once with its first and its last index
pub record AreExtents (own ignore_case : Bool) (rs : List Record) (ss : List SpanValue) : Type 0 where
  pub some : (s : SpanValue) → Contains ss s → (s.start < s.end) × (s.end ≤ length rs)
  pub first : (s : SpanValue) (q : Record) → Contains ss s
      → stands_where own ignore_case s.name (slice_index_or rs s.start q) ≡ true
  pub last : (s : SpanValue) (q : Record) → Contains ss s
      → stands_where own ignore_case s.name (slice_index_or rs (s.end - 1) q) ≡ true
  pub covers : (name : List ℕ) (i : ℕ) → i < length rs
      → ((q : Record) → stands_where own ignore_case name (slice_index_or rs i q) ≡ true)
      → (s : SpanValue) × Contains ss s × (folded ignore_case s.name ≡ folded ignore_case name) × (s.start ≤ i)
      × (i < s.end)
  pub rises : AllPairs (λ a b. outer_cmp (folded ignore_case a.name) (folded ignore_case b.name) ≡ Less) ss
