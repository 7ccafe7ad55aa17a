-- The text of events if each part of an index file has a line with an object of its own (the library's own). The
-- objects are those of RFC 8259.
use Rattle.std.specs.Prelude.{List, ℕ, ◌==◌, [], ◌++◌, codes, decimal, Bool, true, false, Option, Some, None}
use Rattle.std.specs.Prelude.{if◌then◌else◌}
use Rattle.view_events.specs.Document.{document_events}
use Rattle.view_events.specs.declared.event.Datum.{Datum}
use Rattle.view_events.specs.declared.event.Datum.TheVariants.{Absent, Answer}
use Rattle.view_events.specs.declared.event.Key.TheVariants as keys
use Rattle.view_events.specs.declared.event.Where.{Where}
use Rattle.view_events.specs.declared.event.Where.TheVariants as places
use Rattle.view_events.specs.Event.{Event, begin_array, begin_collection, begin_object, datum_field, end_array}
use Rattle.view_events.specs.Event.{end_object, end_text, entry_item, print}
use Rattle.index_model.specs.Contents.{Contents}
use Rattle.ext_small.specs.declared.marks.Marks.{Marks}
use Rattle.index_parts.specs.declared.hash.ObjectId.{ObjectId}
use Rattle.view_json.specs.EntryValues.{entry_value}
use Rattle.view_json.specs.Json.{datum_value, event_text}
use Rattle.view_json.specs.Names.{first, field_name, position_of}
use Rattle.view_json.specs.Values.{begin_of}

-- The name of a part with a line of its own: a member of the index after its entries.
abbrev pub part_name : Where → Option (List ℕ)
part_name (places.Member keys.Version depth number) = None
part_name (places.Member keys.Checksum depth number) = None
part_name (places.Member keys.IsSparse depth number) = None
part_name (places.Member keys.Entries depth number) = None
part_name (places.Member key depth number) = if depth == 0 then Some (field_name key) else None
part_name at = None

-- A value has a line, unless it only reports whether a part is there.
abbrev pub has_line : Datum → Bool
has_line Absent = false
has_line (Answer holds) = false
has_line d = true

-- A value: the line of a part, a member or an element.
abbrev pub value_line : Option (List ℕ) → Where → Datum → List ℕ
value_line None at d = begin_of (position_of at) ++ datum_value d
value_line (Some name) at d =
    if has_line d then codes "{" ++ (begin_of (first name) ++ datum_value d) ++ codes "}\n" else []

-- The begin of an object or an array. The line of a part begins with its name.
abbrev pub begin_line : Option (List ℕ) → Where → List ℕ → List ℕ
begin_line None at bracket = begin_of (position_of at) ++ bracket
begin_line (Some name) at bracket = codes "{" ++ (begin_of (first name) ++ bracket)

-- The end of an object or an array, and of the line of a part.
abbrev pub end_line : Option (List ℕ) → List ℕ → List ℕ
end_line None bracket = bracket
end_line (Some name) bracket = bracket ++ codes "}\n"

-- The begin of an array. That of the entries is the end of the first line, with the number of entries.
abbrev pub begin_list : Where → ℕ → List ℕ
begin_list (places.Member keys.Entries depth number) count =
    codes ",\"num_entries\":" ++ decimal count ++ codes "}\n"
begin_list at count = begin_line (part_name at) at (codes "[")

abbrev pub end_list : Where → List ℕ
end_list (places.Member keys.Entries depth number) = []
end_list at = end_line (part_name at) (codes "]")

-- The end of an object. That of the index has no text, because its first line has ended.
abbrev pub end_part : Where → List ℕ
end_part places.Alone = []
end_part at = end_line (part_name at) (codes "}")

-- The text of an event.
abbrev pub event_line : Event → List ℕ
event_line (datum_field at d) = value_line (part_name at) at d
event_line (entry_item place r) = codes "{\"entry\":" ++ entry_value r ++ codes "}\n"
event_line (begin_object at) = begin_line (part_name at) at (codes "{")
event_line (begin_collection at count) = begin_line (part_name at) at (codes "{")
event_line (end_object at) = end_part at
event_line (begin_array at count) = begin_list at count
event_line (end_array at) = end_list at
event_line end_text = []
event_line event = event_text event

-- All lines of an index file.
abbrev pub json_lines : Contents → Option ObjectId → Marks → List ℕ
json_lines c checksum marks = print event_line (document_events c checksum marks)
