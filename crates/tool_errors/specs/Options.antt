-- The options with which the program reads and writes an index (the program's own).
use Rattle.std.specs.Prelude.{◌≡◌, pos, false, None}
use Rattle.gix_index.specs.Stat.{seconds_of, nanoseconds_of}
use Rattle.gix_index.specs.FileTime.{FileTime}
use Rattle.gix_index.specs.DecodeOptions.{Options}
use Rattle.gix_index.specs.Version.{Version}
use Rattle.gix_index.specs.Version.TheVariants as versions
use Rattle.gix_index.specs.VersionChoice.{VersionChoice}
use Rattle.gix_index.specs.VersionChoice.TheVariants.{Smallest, V4}
use Rattle.gix_index.specs.WriteExtensions.TheVariants.{All, Kept}
use Rattle.gix_index.specs.WriteOptions.{Options as WriteOptions}

-- no limit, and no expected checksum
abbrev pub unlimited_options : Options
unlimited_options = record {
  thread_limit = None;
  min_extension_block_in_bytes_for_threading = 0;
  expected_checksum = None;
  alloc_limit_bytes = None;
}

abbrev pub IsBeginOf1970 : FileTime → Type 0
IsBeginOf1970 time = (seconds_of time ≡ pos 0) × (nanoseconds_of time ≡ 0)

-- the default options with the chosen version: `TREE`, `sdir` and the end marker, and the checksum at the end
abbrev pub default_options : VersionChoice → WriteOptions
default_options version = record { extensions = All; version = version; skip_hash = false }

-- the chosen version, all extensions that fit, and the checksum at the end
abbrev pub kept_options : VersionChoice → WriteOptions
kept_options version = record { extensions = Kept; version = version; skip_hash = false }

-- The options for an index that was read in a version: version 4 if it has that, and otherwise the smaller of 2 and 3;
-- all extensions that fit, and the checksum at the end.
abbrev pub options_as_read : Version → WriteOptions
options_as_read versions.V4 = kept_options V4
options_as_read versions.V2 = kept_options Smallest
options_as_read versions.V3 = kept_options Smallest
