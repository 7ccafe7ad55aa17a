-- The lines of entries (the library's own). The parts of an entry are those of gitformat-index, "Index entry".
use Rattle.std.specs.Prelude.{ℕ, ◌==◌, Bool, not, List, [], ◌++◌, bit_and, codes, decimal, if◌then◌else◌}
use Rattle.entry_fields.specs.Flags.{stage_number}
use Rattle.index_parts.specs.Mode.{commit_mode, directory_mode, executable_mode, file_mode, link_mode}
use Rattle.entry_list.specs.Record.{Record}
use Rattle.entry_fields.specs.declared.entry.stat.Stat.{Stat}
use Rattle.entry_fields.specs.declared.entry.stat.Time.{Time}
use Rattle.view_show.specs.Fields.{field, id_line, nanoseconds, number_line, text_line}
use Rattle.base_text.specs.Digits.{octal}

-- The description of a mode.
unfoldable pub mode_word : ℕ → List ℕ
mode_word mode =
    if mode == directory_mode then codes " directory"
    else (if mode == file_mode then codes " file"
    else (if mode == executable_mode then codes " executable"
    else (if mode == link_mode then codes " symlink"
    else (if mode == commit_mode then codes " submodule"
    else codes " other"))))

-- The digits of a mode, and its description.
abbrev pub shown_mode : ℕ → List ℕ
shown_mode mode = octal mode ++ mode_word mode

-- The word, if `is_so` is true.
unfoldable pub word_if : Bool → List ℕ → List ℕ
word_if is_so word = if is_so then word else []

-- The flags that a file can have apart from the stage, by their bits: 15, 14, 29, and 30; `none` if it has none of
-- these.
unfoldable pub flags_line : ℕ → List ℕ
flags_line flags =
    codes "    flags:" ++ word_if (not (bit_and flags 0x8000 == 0)) (codes " assume-valid")
    ++ word_if (not (bit_and flags 0x4000 == 0)) (codes " extended")
    ++ word_if (not (bit_and flags 0x20000000 == 0)) (codes " intent-to-add")
    ++ word_if (not (bit_and flags 0x40000000 == 0)) (codes " skip-worktree")
    ++ word_if (bit_and flags 0x6000C000 == 0) (codes " none") ++ codes "\n"

-- The seconds, a point and the nanoseconds.
abbrev pub time_text : Time → List ℕ
time_text time = decimal time.secs ++ codes "." ++ nanoseconds time.nsecs

abbrev pub time_field : List ℕ → List ℕ → Time → List ℕ
time_field indent name time = field indent name (time_text time)

unfoldable pub stat_lines : List ℕ → Stat → List ℕ
stat_lines indent s =
    number_line indent (codes "size") s.size ++ time_field indent (codes "mtime") s.mtime
    ++ time_field indent (codes "ctime") s.ctime
    ++ number_line indent (codes "dev") s.dev ++ number_line indent (codes "ino") s.ino
    ++ number_line indent (codes "uid") s.uid ++ number_line indent (codes "gid") s.gid

-- The lines of an entry: its index, counted from 0, its path, the id and the mode of its object, its stage, its flags
-- and its stat.
unfoldable pub entry_lines : ℕ → Record → List ℕ
entry_lines place r =
    number_line (codes "  ") (codes "entry") place ++ text_line (codes "    ") (codes "path") r.path
    ++ id_line (codes "    ") (codes "id") r.id ++ field (codes "    ") (codes "mode") (shown_mode r.mode)
    ++ number_line (codes "    ") (codes "stage") (stage_number r.flags) ++ flags_line r.flags
    ++ stat_lines (codes "    ") r.stat
