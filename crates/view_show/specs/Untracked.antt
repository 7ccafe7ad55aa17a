-- The lines of an untracked cache (the library's own). The parts are those of gitformat-index, "Untracked cache".
use Rattle.std.specs.Prelude.{List, ℕ, ◌++◌, codes, Option, Some, None}
use Rattle.entry_fields.specs.declared.entry.stat.Stat.{Stat}
use Rattle.ext_untracked.specs.Blocks.{DirectoryValue}
use Rattle.ext_untracked.specs.declared.OidStat.{OidStat}
use Rattle.view_events.specs.declared.event.Datum.TheVariants.{Absent, Answer, Id}
use Rattle.view_events.specs.declared.event.Where.{Where}
use Rattle.view_show.specs.Entries.{stat_lines}
use Rattle.view_show.specs.Fields.{datum_text, field, heading_line, text_line}
use Rattle.view_show.specs.Words.{indent_at, line_words}

-- The id of a file of exclude patterns, and its stat.
unfoldable pub exclude_lines : Where → Option OidStat → List ℕ
exclude_lines at None = field (indent_at at) (line_words at) (datum_text Absent)
exclude_lines at (Some file) =
    field (indent_at at) (line_words at) (datum_text (Id (Some file.id))) ++ stat_lines (codes "    ") file.stat

-- The stat of a directory.
unfoldable pub cached_stat_lines : Option Stat → List ℕ
cached_stat_lines None = field (codes "    ") (codes "stat") (datum_text Absent)
cached_stat_lines (Some s) = heading_line (codes "    ") (codes "stat") ++ stat_lines (codes "      ") s

-- A directory's name, whether it was only checked, the id of its file of exclude patterns, and its stat.
unfoldable pub directory_lines : DirectoryValue → List ℕ
directory_lines d =
    text_line (codes "    ") (codes "name") d.name
    ++ field (codes "    ") (codes "check only") (datum_text (Answer d.check_only))
    ++ field (codes "    ") (codes "exclude file") (datum_text (Id d.exclude)) ++ cached_stat_lines d.stat
