-- Paths and directories, optionally with the case of ASCII letters ignored (the library's own). Each definition is for
-- any list.
use Rattle.std.specs.Prelude.{◌≡◌, ◌↔◌, ℕ, ◌||◌, ◌&&◌, Bool, true, false, List, [], ◌∷◌, ◌++◌, map, All, Contains}
use Rattle.std.specs.Prelude.{Option, position, nat_eq}
use Rattle.std.specs.Char.{to_ascii_lowercase}
use Rattle.std.specs.List.{AllPairs, list_any, starts_with}
use Rattle.std.specs.Str.{bytes_eq}
use Rattle.std.specs.declared.cmp.Ordering.TheVariants.{Less}
use Rattle.entry_list.specs.Order.{path_cmp}
use Rattle.entry_list.specs.Record.{Record}
use Rattle.entry_lookup.specs.Closest.{is_directory}

-- the bytes, with `A` to `Z` as `a` to `z` if case is ignored
abbrev pub folded : Bool → List ℕ → List ℕ
folded true name = map to_ascii_lowercase name
folded false name = name

-- the names are equal, optionally with case ignored
abbrev pub is_same : Bool → List ℕ → List ℕ → Bool
is_same ignore_case a b = bytes_eq (folded ignore_case a) (folded ignore_case b)

-- the record's path is this one
abbrev pub is_at_folded : Bool → List ℕ → Record → Bool
is_at_folded ignore_case path r = is_same ignore_case r.path path

-- the index of the first record at the path
abbrev pub folded_place : Bool → List ℕ → List Record → Option ℕ
folded_place ignore_case path rs = position (is_at_folded ignore_case path) rs

-- the record is the directory itself, or its path continues after the directory and a slash
abbrev pub stands_in_folded : Bool → List ℕ → Record → Bool
stands_in_folded ignore_case directory r =
    (is_directory r && is_same ignore_case r.path directory) || starts_with nat_eq (folded ignore_case r.path)
    (folded ignore_case directory ++ 47 ∷ [])

-- the index of the first record that is the directory or below it
abbrev pub folded_closest : Bool → List ℕ → List Record → Option ℕ
folded_closest ignore_case directory rs = position (stands_in_folded ignore_case directory) rs

-- the directories of records, and those with records below them: rising, each once, optionally with case ignored
pub record IsNamed (ignore_case : Bool) (rs : List Record) (names : List (List ℕ)) : Type 0 where
  pub once : AllPairs (λ a b. path_cmp a b ≡ Less) names
  pub in_case : All (λ name. folded ignore_case name ≡ name) names
  pub each : (name : List ℕ) → Contains names (folded ignore_case name)
      ↔ (list_any (stands_in_folded ignore_case name) rs ≡ true)
