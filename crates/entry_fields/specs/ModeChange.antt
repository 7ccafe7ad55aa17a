-- The change of an entry's mode to that of a file in the work tree (the library's own; the modes are those of
-- gitformat-index, "Index entry").
use Rattle.std.specs.Prelude.{ℕ, ◌==◌, ◌&&◌, Bool, true, false, not, List, [], ◌∷◌, Option, Some, None, if◌then◌else◌}
use Rattle.index_parts.specs.Mode.{directory_mode, commit_mode, file_mode, executable_mode, link_mode}
use Rattle.entry_fields.specs.declared.entry.mode.Change.{Change}
use Rattle.entry_fields.specs.declared.entry.mode.Change.TheVariants as changes
use Rattle.entry_fields.specs.declared.fs.FileKind.{FileKind}
use Rattle.entry_fields.specs.declared.fs.FileKind.TheVariants as files

-- the file that is seen, and whether the file system has links and bits for execution
pub record Seen : Type 0 where
  pub is_file : Bool
  pub is_dir : Bool
  pub is_symlink : Bool
  pub is_executable : Bool
  pub has_symlinks : Bool
  pub executable_bit : Bool

-- a file of another type, with its mode; or the other value of the bit for execution
pub data ModeChange : Type 0 where
  type_change : (mode : ℕ) → ModeChange
  other_bit : ModeChange

abbrev pub mode_change_of : Change → ModeChange
mode_change_of (changes.TypeChange mode) = type_change mode.0
mode_change_of changes.ExecutableBit = other_bit

-- the mode of the file that is seen
abbrev pub seen_mode : Seen → ℕ
seen_mode s =
    if s.is_dir then commit_mode
    else (if s.executable_bit && s.is_executable then executable_mode
    else (if s.has_symlinks && s.is_symlink then link_mode
    else file_mode))

-- the answer of the first row that matches, None if no row does
abbrev pub first_fit : List (Bool × Option ModeChange) → Option ModeChange
first_fit [] = None
first_fit (row ∷ rows) = if row.0 then row.1 else first_fit rows

abbrev pub changed : Seen → Option ModeChange
changed s = Some (type_change (seen_mode s))

-- the rows: whether each matches a mode and the file that is seen, and its answer
abbrev pub change_rows : ℕ → Seen → List (Bool × Option ModeChange)
change_rows mode s =
    ((mode == file_mode) && not s.is_file, changed s)
    ∷ ((mode == link_mode) && s.is_symlink, None)
    ∷ ((mode == link_mode) && s.has_symlinks, changed s)
    ∷ ((mode == link_mode) && not s.is_file, changed s)
    ∷ ((mode == commit_mode) && not s.is_dir, changed s)
    ∷ ((mode == directory_mode) && not s.is_dir, changed s)
    ∷ ((mode == file_mode) && (s.executable_bit && s.is_executable), Some other_bit)
    ∷ ((mode == executable_mode) && (s.executable_bit && not s.is_executable), Some other_bit)
    ∷ []

abbrev pub change_due : ℕ → Seen → Option ModeChange
change_due mode s = first_fit (change_rows mode s)

-- the mode after a change; only the mode of a file has the bit for execution
abbrev pub mode_after : ModeChange → ℕ → ℕ
mode_after (type_change new) mode = new
mode_after other_bit mode = if mode == file_mode then executable_mode else file_mode

-- ---- types of files

abbrev pub is_file_kind : FileKind → Bool
is_file_kind files.File = true
is_file_kind files.Directory = false
is_file_kind files.Symlink = false
is_file_kind files.Other = false

abbrev pub is_directory_kind : FileKind → Bool
is_directory_kind files.File = false
is_directory_kind files.Directory = true
is_directory_kind files.Symlink = false
is_directory_kind files.Other = false

abbrev pub is_symlink_kind : FileKind → Bool
is_symlink_kind files.File = false
is_symlink_kind files.Directory = false
is_symlink_kind files.Symlink = true
is_symlink_kind files.Other = false
