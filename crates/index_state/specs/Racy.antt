-- Entries whose files may have changed within the second in which the index was written (Git's documentation,
-- racy-git).
use Rattle.std.specs.Prelude.{◌≡◌, ◌≢◌, ◌⊎◌, ℕ, pos, int_lt, Bool, false, not, ◌&&◌, ◌==◌, if◌then◌else◌}
use Rattle.index_parts.specs.Mode.{commit_mode}
use Rattle.entry_fields.specs.Stat.{seconds_of}
use Rattle.entry_fields.specs.declared.entry.stat.FileTime.{FileTime}
use Rattle.entry_fields.specs.declared.entry.stat.Stat.{Stat}
use Rattle.entry_list.specs.Record.{Record}
use Rattle.entry_list.specs.declared.Entry.{Entry}

-- the second of a file's last change isn't before that of an index; git doesn't test this for a commit of another
-- repository
abbrev pub is_smudged : FileTime → ℕ → Stat → Bool
is_smudged time mode stat = not (mode == commit_mode) && not (int_lt (pos stat.mtime.secs) (seconds_of time))

-- with size 0 if that holds: then git reads the content, unless the content is to be empty
abbrev pub smudged_stat : FileTime → ℕ → Stat → Stat
smudged_stat time mode stat = if is_smudged time mode stat then record stat { size = 0 } else stat

abbrev pub smudged : FileTime → Record → Record
smudged time r = record r { stat = smudged_stat time r.mode r.stat }

abbrev pub smudged_entry : FileTime → Entry → Entry
smudged_entry time e = record e { stat = smudged_stat time e.mode.0 e.stat }

-- In an index of this time, the stat of an entry alone can show that its file is unchanged. The time isn't known, or
-- the file is older. The size isn't 0, which has no meaning for a file that isn't empty.
pub record MayBeTrusted (time : FileTime) (r : Record) : Type 0 where
  pub in_time : (seconds_of time ≡ pos 0) ⊎ (is_smudged time r.mode r.stat ≡ false)
  pub sized : r.stat.size ≢ 0
