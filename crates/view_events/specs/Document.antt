-- All events of an index file (the library's own).
use Rattle.std.specs.Prelude.{ℕ, List, [], ◌∷◌, ◌++◌, length, Option}
use Rattle.entry_list.specs.EntryImage.{version_code}
use Rattle.entry_list.specs.Record.{Record}
use Rattle.index_model.specs.Contents.{Contents}
use Rattle.index_model.specs.Outcome.{Outcome}
use Rattle.ext_small.specs.declared.marks.Marks.{Marks}
use Rattle.index_parts.specs.declared.hash.ObjectId.{ObjectId}
use Rattle.view_events.specs.declared.event.Datum.TheVariants.{Answer, Id, Number}
use Rattle.view_events.specs.declared.event.Key.TheVariants as keys
use Rattle.view_events.specs.declared.event.Where.TheVariants.{Alone, Member}
use Rattle.view_events.specs.Bitmaps.{link_events, monitor_events}
use Rattle.view_events.specs.Event.{Event, begin_array, begin_object, datum_field, end_array, end_object}
use Rattle.view_events.specs.Event.{end_text, entry_item, listed}
use Rattle.view_events.specs.Marks.{marks_events}
use Rattle.view_events.specs.Trees.{cached_tree_events}
use Rattle.view_events.specs.Undo.{undo_events}
use Rattle.view_events.specs.Untracked.{untracked_events}

-- The events before the entries: the version, the id at the end of the file, whether the index is sparse, and the
-- number of entries.
unfoldable pub head_events : Contents → Option ObjectId → List Event
head_events c checksum =
    begin_object Alone ∷ datum_field (Member keys.Version 0 0) (Number (version_code c.version))
    ∷ datum_field (Member keys.Checksum 0 1) (Id checksum)
    ∷ datum_field (Member keys.IsSparse 0 2) (Answer c.extensions.sparse)
    ∷ begin_array (Member keys.Entries 0 3) (length c.records) ∷ []

abbrev pub entry_events : ℕ → Record → List Event
entry_events place r = entry_item place r ∷ []

-- The last extension with a value, the offset table, the end marker, and the end of the text.
unfoldable pub last_events : Outcome → Marks → List Event
last_events o marks =
    monitor_events o.fs_monitor ++ marks_events o.had_offset_table o.had_end_marker marks
    ++ end_object Alone ∷ end_text ∷ []

-- The events after the entries.
unfoldable pub behind_events : Outcome → Marks → List Event
behind_events o marks =
    end_array (Member keys.Entries 0 3) ∷ cached_tree_events o.tree ++ link_events o.link
    ++ undo_events o.resolve_undo ++ untracked_events o.untracked ++ last_events o marks

-- All events, part by part.
unfoldable pub document_events : Contents → Option ObjectId → Marks → List Event
document_events c checksum marks =
    head_events c checksum ++ listed entry_events c.records ++ behind_events c.extensions marks
