-- The events of an untracked cache (the library's own). The parts are those of gitformat-index, "Untracked cache".
use Rattle.std.specs.Prelude.{ℕ, List, [], ◌∷◌, ◌++◌, length, Option, Some, None}
use Rattle.ext_untracked.specs.Blocks.{DirectoryValue}
use Rattle.ext_untracked.specs.Untracked.{Cache}
use Rattle.view_events.specs.declared.event.Datum.TheVariants.{Absent, Number}
use Rattle.view_events.specs.declared.event.Item.TheVariants as items
use Rattle.view_events.specs.declared.event.Key.TheVariants as keys
use Rattle.view_events.specs.declared.event.Where.TheVariants.{Element, Member}
use Rattle.view_events.specs.Event.{Event, begin_array, begin_collection, begin_object, datum_field, directory_facts}
use Rattle.view_events.specs.Event.{end_array, end_object, exclude_file, listed, text_field}

-- A name as an object, because the name of its member differs if it isn't UTF-8.
unfoldable pub name_events : ℕ → List ℕ → List Event
name_events place name =
    begin_object (Element items.UntrackedEntry 4 place) ∷ text_field (Member keys.UntrackedName 5 0) name
    ∷ end_object (Element items.UntrackedEntry 4 place) ∷ []

abbrev pub subdirectory_events : ℕ → ℕ → List Event
subdirectory_events place n = datum_field (Element items.SubDirectory 4 place) (Number n) ∷ []

-- A directory with its index: the facts about it, its untracked files, and the indices of its directories.
unfoldable pub cached_events : ℕ → DirectoryValue → List Event
cached_events place d =
    begin_object (Element items.Directory 2 place) ∷ directory_facts d
    ∷ begin_array (Member keys.UntrackedEntries 3 4) (length d.untracked) ∷ listed name_events d.untracked
    ++ (end_array (Member keys.UntrackedEntries 3 4)
    ∷ begin_array (Member keys.SubDirectories 3 5) (length d.subs) ∷ listed subdirectory_events d.subs
    ++ end_array (Member keys.SubDirectories 3 5) ∷ end_object (Element items.Directory 2 place) ∷ [])

-- The number of directories, and the fields of the cache itself: what it is valid for, how directories were read, and
-- the name of a directory's own file of exclude patterns. Then the two such files for all directories.
unfoldable pub cache_begin : Cache → List Event
cache_begin c =
    begin_collection (Member keys.Untracked 0 7) (length c.directories)
    ∷ text_field (Member keys.Identifier 1 0) c.preamble.identifier
    ∷ datum_field (Member keys.DirFlags 1 1) (Number c.preamble.dir_flags)
    ∷ text_field (Member keys.ExcludeFilenamePerDir 1 2) c.preamble.exclude_filename
    ∷ exclude_file (Member keys.InfoExclude 1 3) c.preamble.info_exclude
    ∷ exclude_file (Member keys.ExcludesFile 1 4) c.preamble.excludes_file
    ∷ begin_array (Member keys.Directories 1 5) (length c.directories) ∷ []

-- The end of a cache.
abbrev pub cache_end : List Event
cache_end = end_array (Member keys.Directories 1 5) ∷ end_object (Member keys.Untracked 0 7) ∷ []

abbrev pub untracked_events : Option Cache → List Event
untracked_events None = datum_field (Member keys.Untracked 0 7) Absent ∷ []
untracked_events (Some c) = cache_begin c ++ listed cached_events c.directories ++ cache_end
