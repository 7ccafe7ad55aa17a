-- The stat numbers of a file (gitformat-index, "Index entry" and "Untracked cache"), and the parts of a file's time.
use Rattle.std.specs.Prelude.{◌≡◌, ℕ, ◌%◌, ◌^◌, ℤ, pos, int_lt, unsigned_abs, nat_lt, List, Option, Some, None, Result}
use Rattle.std.specs.Prelude.{Ok, Err, if◌then◌else◌}
use Rattle.std.specs.Option.{option_map, unwrap_or}
use Rattle.std.specs.Ordering.{nat_cmp, ordering_then}
use Rattle.std.specs.declared.cmp.Ordering.{Ordering}
use Rattle.index_parts.specs.ReadingSteps.{◌>>=◌}
use Rattle.index_parts.specs.Numbers.{number}
use Rattle.entry_fields.specs.declared.entry.stat.FileTime.{FileTime}
use Rattle.entry_fields.specs.declared.entry.stat.OutOfRange.{OutOfRange}
use Rattle.entry_fields.specs.declared.entry.stat.Stat.{Stat}
use Rattle.entry_fields.specs.declared.entry.stat.Time.{Time}
use Rattle.entry_fields.specs.declared.fs.Metadata.{Metadata}

-- The stat of nine numbers of four bytes each. Six are the times of the last change and of the last modification, the
-- device and the inode. Three are the owner, its group and the size. An entry has its mode between them.
abbrev pub stat_of : List ℕ → List ℕ → Stat
stat_of first last = record {
  ctime = record { secs = number first 0; nsecs = number first 1 };
  mtime = record { secs = number first 2; nsecs = number first 3 };
  dev = number first 4;
  ino = number first 5;
  uid = number last 0;
  gid = number last 1;
  size = number last 2;
}

abbrev pub seconds_of : FileTime → ℤ
seconds_of time = time.seconds

abbrev pub nanoseconds_of : FileTime → ℕ
nanoseconds_of time = time.nanoseconds

-- ---- times in 32 bits

-- the number of seconds, if it isn't negative
abbrev pub whole : ℤ → Option ℕ
whole seconds = if int_lt seconds (pos 0) then None else Some (unsigned_abs seconds)

-- the time unchanged, if its seconds fit in 32 bits
abbrev pub exact_time : FileTime → Option Time
exact_time time =
    whole (seconds_of time) >>= λ seconds. if nat_lt seconds (2 ^ 32)
    then Some (record { secs = seconds; nsecs = nanoseconds_of time }) else None

-- the time with the low 32 bits of its seconds, if it isn't before 1970
abbrev pub low_time : FileTime → Option Time
low_time time =
    option_map (λ seconds. record { secs = seconds % 2 ^ 32; nsecs = nanoseconds_of time }) (whole (seconds_of time))

-- the time that was found, or an error if there is none
abbrev pub IsGiven : Option Time → Result Time OutOfRange → Type 0
IsGiven found (Ok time) = found ≡ Some time
IsGiven found (Err e) = found ≡ None

-- the comparison by seconds, then by nanoseconds
abbrev pub time_cmp : Time → Time → Ordering
time_cmp a b = ordering_then (nat_cmp a.secs b.secs) (nat_cmp a.nsecs b.nsecs)

-- ---- the stat of a file

abbrev pub no_time : Time
no_time = record { secs = 0; nsecs = 0 }

-- zero if there is no time, or if it is before 1970
abbrev pub stored_time : Option FileTime → Time
stored_time None = no_time
stored_time (Some time) = unwrap_or (low_time time) no_time

abbrev pub stat_of_file : Metadata → Stat
stat_of_file m = record {
  mtime = stored_time m.modified;
  ctime = stored_time m.created;
  dev = m.dev % 2 ^ 32;
  ino = m.ino % 2 ^ 32;
  uid = m.uid;
  gid = m.gid;
  size = m.len % 2 ^ 32;
}
