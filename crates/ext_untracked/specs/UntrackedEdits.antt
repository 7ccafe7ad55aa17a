-- An untracked cache after an edit of a path (gitformat-index, "Untracked cache"). Git invalidates the directory of an
-- entry that is added or removed. An invalid directory has no stat and no untracked names, and isn't one that was only
-- checked in the file that git writes. Each definition works for directories in any order.
use Rattle.std.specs.Prelude.{ℕ, ◌-◌, ◌==◌, Bool, true, false, not, List, [], ◌∷◌, Option, None, bit_and, drop, length}
use Rattle.std.specs.Prelude.{map, slice_get, take, if◌then◌else◌}
use Rattle.std.specs.List.{enumerate_from, find, list_any, slice_split}
use Rattle.std.specs.Cmp.Lexicographic.{slice_cmp}
use Rattle.std.specs.Option.{option_map, unwrap_or}
use Rattle.std.specs.Ordering.{is_eq, nat_cmp}
use Rattle.ext_untracked.specs.Blocks.{DirectoryValue}
use Rattle.ext_untracked.specs.Untracked.{Cache}

-- an invalid directory; the id of its file of exclude patterns is unchanged
abbrev pub invalidated_directory : DirectoryValue → DirectoryValue
invalidated_directory d = record d { untracked = []; stat = None; check_only = false }

-- the directories, of which those at these indices are invalid
abbrev pub unlisted_at : List ℕ → List DirectoryValue → List DirectoryValue
unlisted_at places ds =
    map (λ x. if list_any (λ p. p == x.0) places then invalidated_directory x.1 else x.1) (enumerate_from 0 ds)

-- the names of the directories that contain a path: all its components except the last
abbrev pub folders_of : List ℕ → List (List ℕ)
folders_of path = let names = slice_split (λ b. b == 47) path in take (length names - 1) names

-- whether there is a directory of this name at an index
abbrev pub is_directory_named : List DirectoryValue → List ℕ → ℕ → Bool
is_directory_named ds name place =
    unwrap_or (option_map (λ d. is_eq (slice_cmp nat_cmp d.name name)) (slice_get ds place)) false

-- the subdirectories of the directory at an index
abbrev pub subs_at : List DirectoryValue → ℕ → List ℕ
subs_at ds place = unwrap_or (option_map (λ d. d.subs) (slice_get ds place)) []

-- the first subdirectory with this name
abbrev pub sub_named : List DirectoryValue → List ℕ → ℕ → Option ℕ
sub_named ds name place = find (is_directory_named ds name) (subs_at ds place)

-- the indices of the directories along these names, beginning at an index, up to one that lacks the next
abbrev pub way : List DirectoryValue → List (List ℕ) → ℕ → List ℕ
way ds [] place = place ∷ []
way ds (name ∷ names) place = place ∷ unwrap_or (option_map (way ds names) (sub_named ds name place)) []

-- whether git shows a completely untracked directory as one name (DIR_SHOW_OTHER_DIRECTORIES)
abbrev pub tells_directories : ℕ → Bool
tells_directories flags = not (bit_and flags 2 == 0)

-- The directories along a path that an edit invalidates. If directories are shown as one name, these are all of them,
-- since one may now have to be shown, or no longer. Otherwise it is the one after all names, if the path leads to it.
abbrev pub concerned : Bool → List (List ℕ) → List ℕ → List ℕ
concerned true folders places = places
concerned false folders places = drop (length folders) places

-- the directories after an edit of a path, followed from the directory at an index
abbrev pub invalidated_from : Bool → List ℕ → ℕ → List DirectoryValue → List DirectoryValue
invalidated_from wholes path place ds =
    unlisted_at (concerned wholes (folders_of path) (way ds (folders_of path) place)) ds

-- the cache after an edit of a path
abbrev pub path_invalidated : List ℕ → Cache → Cache
path_invalidated path c = record c {
  directories = invalidated_from (tells_directories c.preamble.dir_flags) path 0 c.directories;
}
