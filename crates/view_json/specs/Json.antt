-- The JSON text of events, and of a complete index file as one object on one line (the library's own). The text is that
-- of RFC 8259.
use Rattle.std.specs.Prelude.{List, ℕ, ◌-◌, ◌++◌, codes, decimal, true, false, Option, Some, None}
use Rattle.ext_bitmap.specs.declared.ranges.Range.{Range}
use Rattle.view_events.specs.Document.{document_events}
use Rattle.view_events.specs.declared.event.Datum.{Datum}
use Rattle.view_events.specs.declared.event.Datum.TheVariants.{Answer, Block, Count, Id, Number, Side}
use Rattle.view_events.specs.Event.{Event, begin_array, begin_collection, begin_object, datum_field, directory_facts}
use Rattle.view_events.specs.Event.{end_array, end_object, end_text, entry_item, exclude_file, print, ranges_field}
use Rattle.view_events.specs.Event.{text_field}
use Rattle.index_model.specs.Contents.{Contents}
use Rattle.ext_small.specs.declared.marks.Marks.{Marks}
use Rattle.index_parts.specs.Id.{id_bytes}
use Rattle.index_parts.specs.declared.hash.ObjectId.{ObjectId}
use Rattle.ext_small.specs.declared.index_entry_offset_table.Offset.{Offset}
use Rattle.ext_small.specs.declared.resolve_undo.Stage.{Stage}
use Rattle.entry_fields.specs.declared.entry.stat.Stat.{Stat}
use Rattle.ext_untracked.specs.Blocks.{DirectoryValue}
use Rattle.ext_untracked.specs.declared.OidStat.{OidStat}
use Rattle.view_json.specs.EntryValues.{entry_value, stat_value}
use Rattle.view_json.specs.Names.{first, next, position_of}
use Rattle.view_json.specs.Values.{array, begin_of, hex_string, id_member, number_member_text, separator, text_value}

-- The first index of a range, and its length.
unfoldable pub range_value : Range → List ℕ
range_value r = codes "[" ++ decimal r.first ++ codes "," ++ decimal (r.end - r.first) ++ codes "]"

-- The mode and the id of a side.
unfoldable pub side_value : Stage → List ℕ
side_value side =
    number_member_text (codes "{") (codes "mode") side.mode ++ id_member (codes ",") (codes "id") side.id ++ codes "}"

-- The offset of a block of entries, and the number of its entries.
unfoldable pub block_value : Offset → List ℕ
block_value o =
    number_member_text (codes "{") (codes "from_beginning_of_file") o.from_beginning_of_file
    ++ number_member_text (codes ",") (codes "num_entries") o.num_entries ++ codes "}"

-- The value of a field.
abbrev pub datum_value : Datum → List ℕ
datum_value (Number n) = decimal n
datum_value (Id (Some id)) = hex_string (id_bytes id)
datum_value (Answer true) = codes "true"
datum_value (Answer false) = codes "false"
datum_value (Side (Some side)) = side_value side
datum_value (Block block) = block_value block
datum_value (Count (Some n)) = decimal n
datum_value d = codes "null"

-- A stat, or `null` if there is none.
unfoldable pub optional_stat : Option Stat → List ℕ
optional_stat None = codes "null"
optional_stat (Some s) = stat_value s

-- The stat and the id of a file of exclude patterns, or `null` if there is none.
unfoldable pub exclude_value : Option OidStat → List ℕ
exclude_value None = codes "null"
exclude_value (Some file) =
    codes "{" ++ (begin_of (first (codes "stat")) ++ stat_value file.stat)
    ++ (begin_of (next (codes "id")) ++ datum_value (Id (Some file.id))) ++ codes "}"

-- The first members of a directory of an untracked cache.
unfoldable pub directory_members : DirectoryValue → List ℕ
directory_members d =
    text_value (first (codes "name")) d.name ++ (begin_of (next (codes "stat")) ++ optional_stat d.stat)
    ++ (begin_of (next (codes "exclude_file_oid")) ++ datum_value (Id d.exclude))
    ++ (begin_of (next (codes "check_only")) ++ datum_value (Answer d.check_only))

-- The text of an event.
abbrev pub event_text : Event → List ℕ
event_text (datum_field at d) = begin_of (position_of at) ++ datum_value d
event_text (text_field at bytes) = text_value (position_of at) bytes
event_text (ranges_field at ranges) = begin_of (position_of at) ++ array range_value ranges
event_text (entry_item place r) = separator place ++ entry_value r
event_text (exclude_file at file) = begin_of (position_of at) ++ exclude_value file
event_text (directory_facts d) = directory_members d
event_text (begin_object at) = begin_of (position_of at) ++ codes "{"
event_text (begin_collection at count) = begin_of (position_of at) ++ codes "{"
event_text (end_object at) = codes "}"
event_text (begin_array at count) = begin_of (position_of at) ++ codes "["
event_text (end_array at) = codes "]"
event_text end_text = codes "\n"

-- One object, and a newline.
abbrev pub json_text : Contents → Option ObjectId → Marks → List ℕ
json_text c checksum marks = print event_text (document_events c checksum marks)
