-- The records at a directory or below it (gitformat-index, "Index entry", "Sparse Directory Entries").
use Rattle.std.specs.Prelude.{ℕ, ◌==◌, ◌||◌, ◌&&◌, Bool, List, [], ◌∷◌, ◌++◌, Option, position, if◌then◌else◌}
use Rattle.std.specs.List.{list_any}
use Rattle.index_parts.specs.Mode.{directory_mode, commit_mode}
use Rattle.entry_list.specs.Record.{Record}
use Rattle.entry_lookup.specs.Range.{is_at, begins_with}

-- the mode of a sparse directory or of a submodule
abbrev pub is_directory_mode : ℕ → Bool
is_directory_mode mode = (mode == directory_mode) || (mode == commit_mode)

-- the record is for a directory
abbrev pub is_directory : Record → Bool
is_directory r = is_directory_mode r.mode

-- the record is the directory itself
abbrev pub is_itself : List ℕ → Record → Bool
is_itself directory r = is_at directory r && is_directory r

-- the record's path continues after the directory and a slash
abbrev pub is_below : List ℕ → Record → Bool
is_below directory r = begins_with (directory ++ 47 ∷ []) r

-- the record is the directory itself, or below it
abbrev pub stands_in : List ℕ → Record → Bool
stands_in directory r = is_itself directory r || is_below directory r

-- if records are at the directory, the first that is a directory; else the first below it
abbrev pub closest : List ℕ → List Record → Option ℕ
closest directory rs =
    if list_any (is_at directory) rs then position (is_itself directory) rs else position (is_below directory) rs
