-- Changes in another order (the library's own). Those of one path stay in their order, and no path is a directory of
-- another.
use Rattle.std.specs.Prelude.{◌≡◌, ◌⊎◌, ℕ, nat_eq, Bool, true, false, List, [], ◌∷◌, ◌++◌}
use Rattle.std.specs.List.{Contains, list_any, starts_with}
use Rattle.std.specs.List.Sorted.{IsPermutation, IsSortedBy, IsStableBy}
use Rattle.std.specs.Ordering.{is_lt}
use Rattle.entry_list.specs.Order.{path_cmp}
use Rattle.entry_edit.specs.Changes.{change_path}
use Rattle.entry_edit.specs.declared.change.Change.{Change}

-- the path continues after the directory and a slash
abbrev pub is_inside_folder : List ℕ → List ℕ → Bool
is_inside_folder folder path = starts_with nat_eq path (folder ++ 47 ∷ [])

-- no path is a directory of another
pub record AreUnnested (cs : List Change) : Type 0 where
  pub apart : (c d : Change) → Contains cs c → Contains cs d → is_inside_folder (change_path c) (change_path d) ≡ false

-- one of the paths is in this directory
abbrev pub has_within : List Change → List ℕ → Bool
has_within cs folder = list_any (λ d. is_inside_folder folder (change_path d)) cs

-- one of the paths is a directory of another
abbrev pub are_nested : List Change → Bool
are_nested cs = list_any (λ c. has_within cs (change_path c)) cs

-- the answer is whether one of the paths is below the change's
abbrev pub IsAnswerBelow : List Change → Bool → Change → Type 0
IsAnswerBelow cs answer c = answer ≡ has_within cs (change_path c)

-- the first change's path is below the second's
abbrev pub is_change_before : Change → Change → Bool
is_change_before c d = is_lt (path_cmp (change_path c) (change_path d))

-- the paths never fall
abbrev pub AreInOrder : List Change → Type 0
AreInOrder cs = IsSortedBy is_change_before cs

-- the changes in another order; those of one path stay in their order
pub record IsReorderedTo (cs ds : List Change) : Type 0 where
  pub same : IsPermutation cs ds
  pub stable : IsStableBy is_change_before cs ds
  pub unnested : AreUnnested ds

-- the paths never fall, or one is a directory of another: the given order of the changes is preserved
abbrev pub StayAsTheyAre : List Change → Type 0
StayAsTheyAre cs = AreInOrder cs ⊎ (are_nested cs ≡ true)
