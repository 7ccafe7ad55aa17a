-- The names that aren't allowed in a path (git-update-index, "--cacheinfo" and "--index-info"; gitmodules, on links).
use Rattle.std.specs.Prelude.{ℕ, ◌&&◌, ◌||◌, Bool, List, codes, map, Option, Some, None, if◌then◌else◌}
use Rattle.std.specs.Char.{to_ascii_lowercase}
use Rattle.std.specs.Str.{bytes_eq}

-- the name is this one, in upper or in lower case
abbrev pub is_spelled : List ℕ → List ℕ → Bool
is_spelled name spelling = bytes_eq (map to_ascii_lowercase name) spelling

-- The number with which a name is rejected: that of a directory itself or of the one above; that of the repository; and
-- for a link, that of the file that lists submodules.
abbrev pub name_rejection : List ℕ → Bool → Option ℕ
name_rejection name symlink =
    if bytes_eq name (codes ".") || bytes_eq name (codes "..") then Some 1
    else (if is_spelled name (codes ".git") then Some 2
    else (if symlink && is_spelled name (codes ".gitmodules") then Some 3
    else None))
