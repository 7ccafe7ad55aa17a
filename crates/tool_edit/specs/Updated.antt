-- What the program makes of an index by the changes in a text (the program's own).
use Rattle.std.specs.Prelude.{◌≡◌, ℕ, Bool, List, [], ◌∷◌, All, Option, None, map}
use Rattle.gix_index.specs.Changing.Changes.{IsAppliedTo, first_rejection}
use Rattle.gix_index.specs.Changing.Updates.{updated}
use Rattle.gix_index.specs.Changing.Wholes.{refusal_among}
use Rattle.gix_index.specs.Changing.Change.{Change}
use Rattle.gix_index.specs.Contents.{Contents}
use Rattle.gix_index.specs.Disk.{MayHave, disk_at}
use Rattle.gix_index.specs.Disk.World.{MayBeMissing, World}
use Rattle.gix_index.specs.Edits.{empty_contents, with_records, with_time}
use Rattle.gix_index.specs.FileTime.{FileTime}
use Rattle.gix_index.specs.Kind.{Kind}
use Rattle.gix_index.specs.ObjectId.{ObjectId}
use Rattle.gix_index.specs.Order.{IsStrictlyOrdered}
use Rattle.index_state.specs.Racy.{MayBeTrusted, smudged}
use Rattle.entry_info.specs.Names as names
use Rattle.entry_info.specs.Text.{AreSaid, change_value}
use Rattle.tool_errors.specs.Options.{IsBeginOf1970}
use Rattle.tool_errors.specs.Reading.{IsInFileSince}

-- the index in a file; or, if the file may be missing, an empty one without a time
pub data IsBegun (world : World) (path : List ℕ) (kind : Kind) (value : Contents) : Type 0 where
  there : (checksum : Option ObjectId) → IsInFileSince (disk_at world path) kind value checksum
      → IsBegun world path kind value
  empty : (time : FileTime) → IsBeginOf1970 time → MayBeMissing (world path) → value ≡ empty_contents kind time
      → IsBegun world path kind value

-- The index is changed. An entry whose file isn't older than the index was, in full seconds, has size 0 in its stat.
-- The index has no time, so that the file gets that of its writing. Take an index of any later time. An entry of these
-- that it trusts by the stat alone was also trusted by the index that was read (racy-git, "Racy Git").
pub record IsRenewed (before value : Contents) : Type 0 where
  pub time : FileTime
  pub untold : IsBeginOf1970 time
  pub is : value ≡ with_time (with_records before (map (smudged before.time) before.records)) time
  pub trusted : (later : FileTime)
      → All (λ r. MayBeTrusted later (smudged before.time r) → MayBeTrusted before.time r) before.records

-- with a change the index is changed as `IsRenewed` has it; without one it stays, with its time
abbrev pub IsTimed : List Change → Contents → Contents → Type 0
IsTimed [] before value = value ≡ before
IsTimed (change ∷ changes) before value = IsRenewed before value

-- The text has these changes, and none is rejected, by the names that git allows in a path. The storage of paths has
-- `room` bytes. The value is what they make of the one before, whose entries are in order.
pub record IsUpdatedBy (nul : Bool) (kind : Kind) (text : List ℕ) (room : ℕ) (before value : Contents) : Type 0 where
  pub ordered : IsStrictlyOrdered before.records
  pub changes : List Change
  pub said : AreSaid nul kind text (map change_value changes)
  pub granted : refusal_among (first_rejection names.name_rejection before.kind room changes) changes before.records ≡
      None
  pub changed : Contents
  pub is : changed ≡ updated changes before
  pub applied : IsAppliedTo changes before.records changed.records
  pub timed : IsTimed changes changed value

-- the index at a path, or an empty one, and what the text in a file makes of it
pub record IsUpdatedIn (nul : Bool) (world : World) (from path : List ℕ) (kind : Kind) (value : Contents) : Type 0 where
  pub before : Contents
  pub begun : IsBegun world path kind before
  pub text : List ℕ
  pub held : MayHave (world from) text
  pub room : ℕ
  pub updated : IsUpdatedBy nul kind text room before value
