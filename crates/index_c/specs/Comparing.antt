-- What a caller's numbers request for a stat and a mode (the library's own).
use Rattle.std.specs.Prelude.{◌≡◌, ◌≤◌, ◌<◌, ℕ, ℤ, Bool, true}
use Rattle.std.specs.Option.{option_map_or}
use Rattle.gix_index.specs.FileTime.{FileTime}
use Rattle.gix_index.specs.ModeChange.{Seen, change_due, mode_after}
use Rattle.gix_index.specs.Stat.{nanoseconds_of, seconds_of}
use Rattle.gix_index.specs.StatMatch.{is_racy}
use Rattle.gix_index.specs.StatOptions.{Options}
use Rattle.index_c.specs.declared.compare.Comparison.{Comparison}
use Rattle.index_c.specs.declared.compare.Seen.{Seen as SeenTold}
use Rattle.capi_table.specs.Table.{row_stat}
use Rattle.capi_table.specs.declared.row.Row.{Row}

abbrev pub options_of : Comparison → Options
options_of c = record {
  trust_ctime = c.trust_ctime;
  check_stat = c.check_stat;
  use_nsec = c.use_nsec;
  use_stdev = c.use_stdev;
}

abbrev pub seen_of : SeenTold → Seen
seen_of s = record {
  is_file = s.is_file;
  is_dir = s.is_dir;
  is_symlink = s.is_symlink;
  is_executable = s.is_executable;
  has_symlinks = s.has_symlinks;
  executable_bit = s.executable_bit;
}

-- the mode after the change that is due, or the same mode if none is due
abbrev pub mode_for : ℕ → Seen → ℕ
mode_for mode seen = option_map_or (λ change. mode_after change mode) (change_due mode seen) mode

-- whether a row's stat is in doubt at a time; it always is if the nanoseconds are a second or more
pub record RacyCodes (row : Row) (secs : ℤ) (nsecs : ℕ) (c : Comparison) (answer : Bool) : Type 0 where
  pub racy : nsecs < 1000000000 → (time : FileTime) → seconds_of time ≡ secs → nanoseconds_of time ≡ nsecs
      → answer ≡ is_racy (row_stat row) time (options_of c)
  pub no_time : 1000000000 ≤ nsecs → answer ≡ true
