-- Paths of a table that are in a directory with the case of ASCII letters ignored (the library's own).
use Rattle.std.specs.Prelude.{ℕ, nat_eq, Bool, true, List, [], ◌∷◌, ◌++◌, Option, position}
use Rattle.std.specs.List.{starts_with}
use Rattle.gix_index.specs.Searching.Folded.{folded, stands_in_folded}
use Rattle.capi_table.specs.Table.{spelled}
use Rattle.capi_table.specs.declared.row.Row.{Row}

-- the path continues after the directory and a slash
abbrev pub is_below_folded : (directory path : List ℕ) → Bool
is_below_folded directory path = starts_with nat_eq (folded true path) (folded true directory ++ 47 ∷ [])

-- the index of the first row that is the directory itself, a sparse one or a submodule, or is below it
abbrev pub first_folded : (directory paths : List ℕ) → List Row → Option ℕ
first_folded directory paths rows = position (λ row. stands_in_folded true directory (spelled paths row)) rows
