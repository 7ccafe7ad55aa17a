-- What the rows of a table make of an index, if they are changes of it (git-update-index, "--index-info" and
-- "--force-remove").
use Rattle.std.specs.Prelude.{◌≡◌, ℕ, false, List, All, map, Some, None, if◌then◌else◌}
use Rattle.gix_index.specs.Changing.Change.{Change}
use Rattle.gix_index.specs.Changing.Changes.{IsAppliedTo, first_rejection}
use Rattle.gix_index.specs.Changing.Updates.{updated}
use Rattle.gix_index.specs.Changing.Wholes.{refusal_among}
use Rattle.gix_index.specs.Contents.{Contents}
use Rattle.gix_index.specs.EntryImage.{is_removed}
use Rattle.gix_index.specs.Kind.{Kind}
use Rattle.gix_index.specs.Order.{IsStrictlyOrdered}
use Rattle.gix_index.specs.Pathless.{Pathless}
use Rattle.gix_index.specs.Version.{Version}
use Rattle.gix_index.specs.Version.TheVariants as versions
use Rattle.gix_index.specs.VersionChoice.{VersionChoice}
use Rattle.gix_index.specs.VersionChoice.TheVariants.{Smallest, V4}
use Rattle.gix_index.specs.WriteExtensions.TheVariants.{Kept}
use Rattle.gix_index.specs.WriteOptions.{Options}
use Rattle.entry_info.specs.Line.{ChangeValue}
use Rattle.entry_info.specs.Names as names
use Rattle.entry_info.specs.Text.{change_value}
use Rattle.capi_table.specs.Fitting.{IsFitRow}
use Rattle.capi_table.specs.Joining.{AreReadSo}
use Rattle.capi_table.specs.Table.{row_id, row_path, row_stat}
use Rattle.capi_table.specs.Writing.{HasImage, IsUnwritable, PassesRoom}
use Rattle.capi_table.specs.declared.row.Row.{Row}
use Rattle.capi_table.specs.declared.write.Fault.{Fault}
use Rattle.capi_table.specs.declared.write.Image.{Image}

-- ---- the changes

-- all of a row's entry except its path
abbrev pub row_entry : Row → Pathless
row_entry row = record {
  stat = row_stat row;
  id = row_id row;
  flags = record { 0 = row.flags };
  mode = record { 0 = row.mode };
}

-- a row that is marked REMOVE removes its path, at each stage; the entry of any other is staged, at its own
abbrev pub change_said : List ℕ → Row → ChangeValue
change_said paths row = record {
  entry = if is_removed row.flags then None else Some (row_entry row);
  path = row_path paths row;
}

-- the rows represent these changes, in their order
abbrev pub AreSaidBy : List ℕ → List Row → List Change → Type 0
AreSaidBy paths rows cs = map change_value cs ≡ map (change_said paths) rows

-- The value's entries are in order, and each row that isn't marked REMOVE can be in its file. None of the rows' changes
-- is rejected, by the names that git allows in a path. The storage of paths has `room` bytes. The changes make the
-- other value of this one.
pub record IsChangedBy (kind : Kind) (paths : List ℕ) (rows : List Row) (room : ℕ) (before value : Contents)
    : Type 0 where
  pub ordered : IsStrictlyOrdered before.records
  pub fit : All (IsFitRow kind before.extensions.sparse paths) rows
  pub changes : List Change
  pub said : AreSaidBy paths rows changes
  pub granted : refusal_among (first_rejection names.name_rejection before.kind room changes) changes before.records ≡
      None
  pub is : value ≡ updated changes before
  pub applied : IsAppliedTo changes before.records value.records

-- ---- what is written

-- 4 if that is the version, and otherwise the smaller of 2 and 3 that has the flags
abbrev pub kept_version : Version → VersionChoice
kept_version versions.V2 = Smallest
kept_version versions.V3 = Smallest
kept_version versions.V4 = V4

-- the options with which a value of this version is written again: with all extensions that fit, and its checksum
abbrev pub update_options : Version → Options
update_options version = record { extensions = Kept; version = kept_version version; skip_hash = false }

-- the room has the value's image, in its version
abbrev pub HasKeptImage : Image → List ℕ → List ℕ → Contents → Type 0
HasKeptImage told room left v = HasImage (update_options v.version) told room left v

-- the image has more bytes than the room
abbrev pub PassesRoomKept : Image → List ℕ → Contents → Type 0
PassesRoomKept told room v = PassesRoom (update_options v.version) told room v

-- a file can't hold the value, because of the error
abbrev pub IsUnwritableKept : Fault → Contents → Type 0
IsUnwritableKept fault v = IsUnwritable (update_options v.version) fault v

-- a predicate holds of what the rows make of a value
pub record MakesOf (kind : Kind) (paths : List ℕ) (rows : List Row) (P : Contents → Type 0) (before : Contents)
    : Type 0 where
  pub value : Contents
  pub room : ℕ
  pub changed : IsChangedBy kind paths rows room before value
  pub holds : P value

-- the bytes and those of the shared index are read as a value, and a predicate holds of what the rows make of it
abbrev pub UpdatesTable : Kind → List ℕ → List ℕ → List ℕ → List Row → (Contents → Type 0) → Type 0
UpdatesTable kind bytes shared paths rows P = AreReadSo false kind bytes shared (MakesOf kind paths rows P)
