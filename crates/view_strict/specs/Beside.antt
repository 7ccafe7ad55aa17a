-- Entries at the position of another entry: below a file, or in a sparse directory (gitformat-index, "Index entry",
-- "Sparse Directory Entries"). The definitions apply to any list.
use Rattle.std.specs.Prelude.{◌≡◌, ℕ, ◌<◌, ◌==◌, ◌&&◌, Bool, true, false, not, List, [], ◌∷◌, ◌++◌, All, length, Option}
use Rattle.std.specs.Prelude.{MatchOption, Some, position}
use Rattle.std.specs.List.{list_any}
use Rattle.entry_edit.specs.EditSteps.{is_side_at}
use Rattle.entry_list.specs.Order.{record_stage}
use Rattle.entry_list.specs.Record.{Record}
use Rattle.entry_lookup.specs.Range.{begins_with, is_at}
use Rattle.index_parts.specs.Mode.{directory_mode}

-- The prefix of all paths that are below a path. The path of a sparse directory already ends with a slash.
abbrev pub directory_prefix : Bool → List ℕ → List ℕ
directory_prefix true path = path
directory_prefix false path = path ++ 47 ∷ []

-- Which records below the path count: all except the record itself for a sparse directory, else those of the stage.
abbrev pub counts_in : Bool → List ℕ → ℕ → Record → Bool
counts_in true path stage r = not (is_at path r)
counts_in false path stage r = record_stage r == stage

-- The record is in a sparse directory, or below a file of this stage.
abbrev pub lies_in : Bool → List ℕ → ℕ → Record → Bool
lies_in whole path stage r = begins_with (directory_prefix whole path) r && counts_in whole path stage r

-- The second record is below the first, which is a file of the same stage, or in the first, which is a sparse
-- directory.
abbrev pub is_beside : Record → Record → Bool
is_beside r q = lies_in (r.mode == directory_mode) r.path (record_stage r) q

-- The record is merged, and its path also has sides of a conflict.
abbrev pub has_sides_beside : Record → List Record → Bool
has_sides_beside r rs = (record_stage r == 0) && list_any (is_side_at r.path) rs

-- The index of the first element that passes; `None` if none does.
abbrev pub IsFirstPlace : {X : Type 0} → (X → Bool) → List X → Option ℕ → Type 0
IsFirstPlace test xs place =
    MatchOption place (All (λ x. test x ≡ false) xs) (λ i. (i < length xs) × (position test xs ≡ Some i))
