-- A time as seconds and nanoseconds, and the time of the system (the library's own).
use Rattle.std.specs.Prelude.{◌≡◌, ℕ, ◌+◌, ◌*◌, ◌%◌, ◌^◌, ◌==◌, pos, Bool, false, true, if◌then◌else◌, Option, Some, None}
use Rattle.std.specs.Time.{system_time_nanos}
use Rattle.std.specs.declared.time.SystemTime.{SystemTime}
use Rattle.entry_fields.specs.Stat.{nanoseconds_of, seconds_of, whole}
use Rattle.entry_fields.specs.declared.entry.stat.FileTime.{FileTime}

-- The time is this number of seconds since the beginning of 1970, plus this number of nanoseconds.
pub record IsTimeOf (parts : FileTime) (time : SystemTime) : Type 0 where
  pub seconds : ℕ
  pub are_seconds : seconds_of parts ≡ pos seconds
  pub all : system_time_nanos time ≡ seconds * 1_000_000_000 + nanoseconds_of parts

-- The seconds aren't negative, and not 0 in 32 bits.
abbrev pub is_known_second : Option ℕ → Bool
is_known_second None = false
is_known_second (Some seconds) = if seconds % 2 ^ 32 == 0 then false else true

-- A file can have the time, and git takes it for known. Git uses 32 bits of the seconds.
abbrev pub is_known_time : FileTime → Bool
is_known_time time = is_known_second (whole (seconds_of time))
