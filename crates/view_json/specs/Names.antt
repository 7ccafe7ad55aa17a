-- The position of a value in a JSON text, and the names of fields (the library's own).
use Rattle.std.specs.Prelude.{ℕ, ◌==◌, List, codes, if◌then◌else◌}
use Rattle.view_events.specs.declared.event.Key.{Key}
use Rattle.view_events.specs.declared.event.Key.TheVariants as keys
use Rattle.view_events.specs.declared.event.Where.{Where}
use Rattle.view_events.specs.declared.event.Where.TheVariants as places
use Rattle.view_json.specs.declared.position.Position.{Position as RustPosition}
use Rattle.view_json.specs.declared.position.Position.TheVariants as positions

-- The position of a value: alone, the first member of an object or another one, with its name, or an element of an
-- array, with its index.
pub data Position : Type 0 where
  alone : Position
  first : List ℕ → Position
  next : List ℕ → Position
  element : ℕ → Position

-- The position for a position in memory.
abbrev pub as_position : RustPosition → Position
as_position positions.Alone = alone
as_position (positions.First name) = first name.now
as_position (positions.Next name) = next name.now
as_position (positions.Element place) = element place

-- The name of a field.
abbrev pub field_name : Key → List ℕ
field_name keys.Version = codes "version"
field_name keys.Checksum = codes "checksum"
field_name keys.IsSparse = codes "is_sparse"
field_name keys.Entries = codes "entries"
field_name keys.Tree = codes "tree"
field_name keys.Link = codes "link"
field_name keys.ResolveUndo = codes "resolve_undo"
field_name keys.Untracked = codes "untracked"
field_name keys.FsMonitor = codes "fs_monitor"
field_name keys.HadOffsetTable = codes "had_offset_table"
field_name keys.OffsetTable = codes "offset_table"
field_name keys.HadEndOfIndexMarker = codes "had_end_of_index_marker"
field_name keys.EndOfIndexMarker = codes "end_of_index_marker"
field_name keys.DirectoryName = codes "name"
field_name keys.DirectoryId = codes "id"
field_name keys.NumEntries = codes "num_entries"
field_name keys.Children = codes "children"
field_name keys.SharedIndexChecksum = codes "shared_index_checksum"
field_name keys.Bitmaps = codes "bitmaps"
field_name keys.Delete = codes "delete"
field_name keys.Replace = codes "replace"
field_name keys.NumBits = codes "num_bits"
field_name keys.SetBits = codes "set"
field_name keys.IsMalformed = codes "is_malformed"
field_name keys.ResolvedPath = codes "name"
field_name keys.Stages = codes "stages"
field_name keys.Identifier = codes "identifier"
field_name keys.DirFlags = codes "dir_flags"
field_name keys.ExcludeFilenamePerDir = codes "exclude_filename_per_dir"
field_name keys.InfoExclude = codes "info_exclude"
field_name keys.ExcludesFile = codes "excludes_file"
field_name keys.Directories = codes "directories"
field_name keys.UntrackedEntries = codes "untracked_entries"
field_name keys.UntrackedName = codes "name"
field_name keys.SubDirectories = codes "sub_directories"
field_name keys.NanosSince1970 = codes "nanos_since_1970"
field_name keys.Token = codes "token"
field_name keys.EntryDirty = codes "entry_dirty"
field_name keys.OffsetToExtensions = codes "offset_to_extensions"
field_name keys.EndChecksum = codes "checksum"

-- The position in the JSON text: for a member, its name, and whether it is the first one.
abbrev pub position_of : Where → Position
position_of places.Alone = alone
position_of (places.Member key depth number) = if number == 0 then first (field_name key) else next (field_name key)
position_of (places.Element item depth place) = element place
