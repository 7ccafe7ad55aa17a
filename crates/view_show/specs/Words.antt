-- The layout for people: the words for a field or an element, its indent level, and which begins have a line of their
-- own (the library's own).
use Rattle.std.specs.Prelude.{ℕ, ◌+◌, ◌*◌, ◌/◌, Bool, true, false, List, [], codes, min, nat_lt, replicate}
use Rattle.std.specs.Prelude.{if◌then◌else◌}
use Rattle.view_events.specs.declared.event.Item.{Item}
use Rattle.view_events.specs.declared.event.Item.TheVariants as items
use Rattle.view_events.specs.declared.event.Key.{Key}
use Rattle.view_events.specs.declared.event.Key.TheVariants as keys
use Rattle.view_events.specs.declared.event.Where.{Where}
use Rattle.view_events.specs.declared.event.Where.TheVariants.{Alone, Element, Member}
use Rattle.view_show.specs.Fields.{field, heading_line, number_line}

-- ---- words

-- The words for a field; none for a field without a line.
abbrev pub key_words : Key → List ℕ
key_words keys.Version = codes "version"
key_words keys.Checksum = codes "checksum"
key_words keys.IsSparse = codes "sparse"
key_words keys.Entries = codes "entries"
key_words keys.Tree = codes "cached tree"
key_words keys.Link = codes "link"
key_words keys.ResolveUndo = codes "resolve undo"
key_words keys.Untracked = codes "untracked cache"
key_words keys.FsMonitor = codes "file system monitor"
key_words keys.OffsetTable = codes "offset table"
key_words keys.EndOfIndexMarker = codes "end marker"
key_words keys.DirectoryName = codes "directory"
key_words keys.DirectoryId = codes "id"
key_words keys.NumEntries = codes "entries"
key_words keys.SharedIndexChecksum = codes "link"
key_words keys.Bitmaps = codes "bitmaps"
key_words keys.Delete = codes "deleted"
key_words keys.Replace = codes "replaced"
key_words keys.NumBits = codes "bits"
key_words keys.SetBits = codes "set"
key_words keys.IsMalformed = codes "malformed"
key_words keys.ResolvedPath = codes "path"
key_words keys.Identifier = codes "identifier"
key_words keys.DirFlags = codes "flags"
key_words keys.ExcludeFilenamePerDir = codes "exclude name"
key_words keys.InfoExclude = codes "info/exclude"
key_words keys.ExcludesFile = codes "excludes file"
key_words keys.UntrackedName = codes "untracked"
key_words keys.NanosSince1970 = codes "time"
key_words keys.Token = codes "token"
key_words keys.EntryDirty = codes "dirty"
key_words keys.OffsetToExtensions = codes "offset"
key_words keys.EndChecksum = codes "digest"
key_words key = []

-- The words for an element.
abbrev pub item_words : Item → List ℕ
item_words items.Base = codes "base"
item_words items.Ours = codes "ours"
item_words items.Theirs = codes "theirs"
item_words items.Directory = codes "directory"
item_words items.SubDirectory = codes "subdirectory"
item_words items.Block = codes "block"
item_words item = []

abbrev pub line_words : Where → List ℕ
line_words Alone = []
line_words (Member key depth number) = key_words key
line_words (Element item depth position) = item_words item

-- ---- indent

-- The depth of the directories of the cache tree extension with the largest indent. All below them have that indent
-- too. The root has depth 0.
abbrev pub deepest_directory : ℕ
deepest_directory = 32

-- The depth of a directory, by the depth of its members. Each directory is in an array, and that is in the object of
-- another.
abbrev pub directory_depth : ℕ → ℕ
directory_depth depth = depth / 2

-- The indent level of a field by its depth. It is smaller than the depth if a level around the field has no line.
abbrev pub key_level : Key → ℕ → ℕ
key_level keys.DirectoryName depth = min (directory_depth depth) deepest_directory + 1
key_level keys.DirectoryId depth = min (directory_depth depth) deepest_directory + 2
key_level keys.NumEntries depth = min (directory_depth depth) deepest_directory + 2
key_level keys.SharedIndexChecksum depth = 0
key_level keys.Delete depth = 1
key_level keys.Replace depth = 1
key_level keys.NumBits depth = 2
key_level keys.SetBits depth = 2
key_level keys.IsMalformed depth = 2
key_level keys.ResolvedPath depth = 1
key_level keys.UntrackedName depth = 2
key_level key depth = min depth (deepest_directory + 2)

abbrev pub item_level : Item → ℕ
item_level items.Directory = 1
item_level items.Block = 1
item_level item = 2

abbrev pub level_at : Where → ℕ
level_at Alone = 0
level_at (Member key depth number) = key_level key depth
level_at (Element item depth position) = item_level item

-- Two spaces for each level.
unfoldable pub indent : ℕ → List ℕ
indent levels = replicate (2 * levels) 32

abbrev pub indent_at : Where → List ℕ
indent_at at = indent (level_at at)

-- ---- lines

-- Whether the value of a field has a line.
abbrev pub is_read : Where → Bool
is_read (Member keys.HadOffsetTable depth number) = false
is_read (Member keys.HadEndOfIndexMarker depth number) = false
is_read at = true

-- The line of a value; nothing if it has none.
unfoldable pub line_at : Where → List ℕ → List ℕ
line_at at value = if is_read at then field (indent_at at) (line_words at) value else []

-- Whether the begin of an object or an array has a line.
abbrev pub has_heading : Where → Bool
has_heading (Member keys.Entries depth number) = true
has_heading (Member keys.Tree depth number) = true
has_heading (Member keys.ResolveUndo depth number) = true
has_heading (Member keys.Untracked depth number) = true
has_heading (Member keys.FsMonitor depth number) = true
has_heading (Member keys.OffsetTable depth number) = true
has_heading (Member keys.EndOfIndexMarker depth number) = true
has_heading (Member keys.Delete depth number) = true
has_heading (Member keys.Replace depth number) = true
has_heading (Member keys.EntryDirty depth number) = true
has_heading at = false

-- The line for the begin of an object. That of a directory has its index.
unfoldable pub object_line : Where → List ℕ
object_line (Element items.Directory depth position) =
    number_line (indent (item_level items.Directory)) (item_words items.Directory) position
object_line at = if has_heading at then heading_line (indent_at at) (line_words at) else []

-- The line for the begin of an array, or of an object whose last member is an array. It has the number of elements.
unfoldable pub count_line : Where → ℕ → List ℕ
count_line at count = if has_heading at then number_line (indent_at at) (line_words at) count else []

-- The line of a directory's depth, if its indent doesn't show it.
unfoldable pub depth_line : Where → List ℕ
depth_line (Member keys.DirectoryName depth number) =
    if nat_lt deepest_directory (directory_depth depth) then
    number_line (indent (deepest_directory + 2)) (codes "depth") (directory_depth depth)
    else []
depth_line at = []
