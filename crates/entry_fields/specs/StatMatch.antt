-- When two stats are of one unchanged file, and when an entry is too recent for this comparison ("racy git" in git's
-- technical documents).
use Rattle.std.specs.Prelude.{◌==◌, ◌&&◌, ◌||◌, nat_le, pos, Bool, true, false, not}
use Rattle.std.specs.Ordering.{int_cmp}
use Rattle.std.specs.declared.cmp.Ordering.{Ordering}
use Rattle.std.specs.declared.cmp.Ordering.TheVariants.{Less, Equal, Greater}
use Rattle.entry_fields.specs.Stat.{seconds_of, nanoseconds_of}
use Rattle.entry_fields.specs.declared.entry.stat.FileTime.{FileTime}
use Rattle.entry_fields.specs.declared.entry.stat.Options.{Options}
use Rattle.entry_fields.specs.declared.entry.stat.Stat.{Stat}
use Rattle.entry_fields.specs.declared.entry.stat.Time.{Time}

-- equal seconds, and with `nanoseconds` also equal nanoseconds
abbrev pub same_time : Time → Time → Bool → Bool
same_time a b nanoseconds = (a.secs == b.secs) && (not nanoseconds || (a.nsecs == b.nsecs))

-- nanoseconds are compared if they are used and the complete stat is checked
abbrev pub nanoseconds_count : Options → Bool
nanoseconds_count o = o.use_nsec && o.check_stat

-- equal inodes and owners, and with `device` also equal devices
abbrev pub same_place : Stat → Stat → Bool → Bool
same_place s t device = (s.ino == t.ino) && ((s.uid == t.uid) && ((s.gid == t.gid) && (not device || (s.dev == t.dev))))

abbrev pub is_match : Stat → Stat → Options → Bool
is_match s t o =
    same_time s.mtime t.mtime (nanoseconds_count o)
    && ((s.size == t.size)
    && ((not o.trust_ctime || same_time s.ctime t.ctime (nanoseconds_count o))
    && (not o.check_stat || same_place s t o.use_stdev)))

-- The comparison of the seconds of a timestamp with those of the last change. If they are equal, it depends on whether
-- the nanoseconds may be later.
abbrev pub is_racy_by : Ordering → Bool → Bool
is_racy_by Less later = true
is_racy_by Equal later = later
is_racy_by Greater later = false

abbrev pub is_racy : Stat → FileTime → Options → Bool
is_racy s time o =
    is_racy_by (int_cmp (seconds_of time) (pos s.mtime.secs))
    (not (nanoseconds_count o) || nat_le (nanoseconds_of time) s.mtime.nsecs)
