-- The directories with records below them, and the bounds of a search by way of them (the library's own). Each
-- definition is for any list. A table of directories is made of records ordered by path.
use Rattle.std.specs.Prelude.{◌≡◌, ◌↔◌, ℕ, zero, suc, ◌<◌, ◌≤◌, ◌+◌, ◌==◌, true, List, length, take, Contains, Option}
use Rattle.std.specs.Prelude.{Some, None, slice_index, count_by, if◌then◌else◌}
use Rattle.std.specs.List.{AllPairs, list_any}
use denote.Ref.{Bor}
use Rattle.std.specs.declared.cmp.Ordering.TheVariants.{Less}
use Rattle.base_search.specs.Digits.{digits}
use Rattle.entry_list.specs.Order.{IsOrderedByPath, path_cmp}
use Rattle.entry_list.specs.Record.{Record}
use Rattle.entry_lookup.specs.Closest.{is_below}
use Rattle.entry_lookup.specs.Range.{is_at}

-- the directories with records below them: what comes before each slash of a path, rising, each once
pub record IsDirs (rs : List Record) (names : List (List ℕ)) : Type 0 where
  pub once : AllPairs (λ a b. path_cmp a b ≡ Less) names
  pub each : (name : List ℕ) → Contains names name ↔ (list_any (is_below name) rs ≡ true)

-- the position of the last slash before position n
abbrev pub slash_upto : ℕ → List ℕ → Option ℕ
slash_upto zero path = None
slash_upto (suc n) path = if slice_index path n == 47 then Some n else slash_upto n path

-- the position of the last slash; the bytes before it are the path's directory
abbrev pub last_slash : List ℕ → Option ℕ
last_slash path = slash_upto (length path) path

-- the bound of the number of names and paths that are compared, from the last slash and the number of directories
abbrev pub search_bound : Option ℕ → List ℕ → List Record → ℕ → ℕ
search_bound None path rs dirs = digits (length rs) + 1
search_bound (Some slash) path rs dirs =
    if list_any (is_below (take slash path)) rs then digits dirs + digits (count_by (is_below (take slash path)) rs) + 2
    else digits dirs + digits (length rs) + 2

-- The records are in order, and a search of the path by way of their directories makes `count` comparisons within the
-- bound.
pub record IsBounded (rs : List Record) (path : List ℕ) (count : ℕ) : Type 0 where
  pub ordered : IsOrderedByPath rs
  pub names : List (List ℕ)
  pub dirs : IsDirs rs names
  pub at_most : count ≤ search_bound (last_slash path) path rs (length names)
  pub at_least_one : 0 < length rs → 1 ≤ count

-- of the paths, those that some record has
abbrev pub present_count : List (Bor (List ℕ)) → List Record → ℕ
present_count paths rs = count_by (λ p. list_any (is_at p.now) rs) paths
