-- The stat of a file in an untracked cache. gitformat-index ("Untracked cache") refers to the fields of an entry from
-- the time of change to the file's size, which include the mode. Git writes and reads 36 bytes, without the mode, and
-- so do these definitions.
use Rattle.std.specs.Prelude.{ℕ, List, take, drop}
use Rattle.entry_fields.specs.Stat.{stat_of}
use Rattle.entry_fields.specs.declared.entry.stat.Stat.{Stat}

-- the numbers of an entry before the mode, 24 bytes, and those after it
abbrev pub cached_stat : List ℕ → Stat
cached_stat numbers = stat_of (take 24 numbers) (drop 24 numbers)
