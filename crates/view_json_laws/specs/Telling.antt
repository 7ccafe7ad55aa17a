-- The JSON value that a list of events describes (the library's own). The definition applies to any list. Events are
-- read from the last to the first, and each is put before what follows it, so members and items are in their order.
use Rattle.std.specs.Prelude.{ℕ, suc, zero, ◌==◌, ◌&&◌, Bool, true, false, not, nat_le, List, [], ◌∷◌, codes}
use Rattle.std.specs.Prelude.{Option, Some, None, unwrap_or, if◌then◌else◌}
use Rattle.view_events.specs.Document.{document_events}
use Rattle.view_events.specs.Event.{Event, begin_array, begin_collection, begin_object, datum_field, directory_facts}
use Rattle.view_events.specs.Event.{end_array, end_object, end_text, entry_item, exclude_file, ranges_field}
use Rattle.view_events.specs.Event.{text_field}
use Rattle.index_model.specs.Contents.{Contents}
use Rattle.ext_small.specs.declared.marks.Marks.{Marks}
use Rattle.index_parts.specs.declared.hash.ObjectId.{ObjectId}
use Rattle.view_events.specs.declared.event.Datum.TheVariants.{Answer, Id}
use Rattle.view_json.specs.Names.{Position, alone, element, first, next, position_of}
use Rattle.ext_untracked.specs.Blocks.{DirectoryValue}
use Rattle.view_json_laws.specs.EventValues.{entry_object, exclude_object, range_array, stat_or_null, text_name}
use Rattle.view_json_laws.specs.EventValues.{text_or_digits, value_of_datum}
use Rattle.view_json_laws.specs.Value.{Items, Members, Value, array, item, items_of, member, no_items}
use Rattle.view_json_laws.specs.Value.{no_members, null, object}

-- What follows an index of the list.
pub data Behind : Type 0 where
  nothing : Behind
  -- not a part of one value
  astray : Behind
  -- the end of the text
  text_end : Behind
  -- a value, and the end of the text
  whole : Value → Behind
  -- members up to the end of their object, whether another has to precede them, and what follows the object
  in_object : Members → Bool → Behind → Behind
  -- items up to the end of their array, the index of the item that has to precede them, if any, and what follows the
  -- array
  in_array : Items → Option ℕ → Behind → Behind

-- ---- a value at its position

-- A character that is its own text in a string. Each character of a name must be one, because names are printed as they
-- are.
abbrev pub is_plain : ℕ → Bool
is_plain x = nat_le 32 x && (not (x == 34) && not (x == 92))

abbrev pub are_plain : List ℕ → Bool
are_plain [] = true
are_plain (x ∷ xs) = is_plain x && are_plain xs

abbrev pub has_plain_name : Position → Bool
has_plain_name alone = true
has_plain_name (first name) = are_plain name
has_plain_name (next name) = are_plain name
has_plain_name (element place) = true

-- The index before an index.
abbrev pub place_before : ℕ → Option ℕ
place_before zero = None
place_before (suc place) = Some place

-- A value puts itself before what follows. A value that is alone is followed by the end. A first member has none before
-- it, and a next member has one. An item is the last of its array, or its index is the one before the next item's.
abbrev pub put_before : Position → Value → Behind → Behind
put_before alone x text_end = whole x
put_before (first name) x (in_object ms true b) = in_object (member name x ms) false b
put_before (next name) x (in_object ms true b) = in_object (member name x ms) true b
put_before (element place) x (in_array no_items None b) = in_array (item x no_items) (place_before place) b
put_before (element place) x (in_array xs (Some before) b) =
    if place == before then in_array (item x xs) (place_before place) b else astray
put_before position x b = astray

abbrev pub put : Position → Value → Behind → Behind
put position x b = if has_plain_name position then put_before position x b else astray

-- The position of a text. Its name ends with `_bytes` if the text isn't a string.
abbrev pub text_position : Position → List ℕ → Position
text_position alone bytes = alone
text_position (first name) bytes = first (text_name name bytes)
text_position (next name) bytes = next (text_name name bytes)
text_position (element place) bytes = element place

abbrev pub put_text : Position → List ℕ → Behind → Behind
put_text position bytes b =
    if has_plain_name position then put_before (text_position position bytes) (text_or_digits bytes) b else astray

-- ---- values of more than one event

abbrev pub put_object : Position → Behind → Behind
put_object position (in_object ms false b) = put position (object ms) b
put_object position (in_object no_members true b) = put position (object no_members) b
put_object position b = astray

abbrev pub put_array : Position → Behind → Behind
put_array position (in_array xs None b) = put position (array xs) b
put_array position b = astray

abbrev pub put_end : Behind → Behind
put_end nothing = text_end
put_end b = astray

-- The first members of a directory of an untracked cache.
abbrev pub put_facts : DirectoryValue → Behind → Behind
put_facts d b =
    put_text (first (codes "name")) d.name
    (put (next (codes "stat")) (stat_or_null d.stat)
    (put (next (codes "exclude_file_oid")) (value_of_datum (Id d.exclude))
    (put (next (codes "check_only")) (value_of_datum (Answer d.check_only)) b)))

-- An event, and what follows it.
abbrev pub read_event : Event → Behind → Behind
read_event (datum_field at d) b = put (position_of at) (value_of_datum d) b
read_event (text_field at bytes) b = put_text (position_of at) bytes b
read_event (ranges_field at ranges) b = put (position_of at) (array (items_of range_array ranges)) b
read_event (entry_item place r) b = put (element place) (entry_object r) b
read_event (exclude_file at file) b = put (position_of at) (exclude_object file) b
read_event (directory_facts d) b = put_facts d b
read_event (begin_object at) b = put_object (position_of at) b
read_event (begin_collection at count) b = put_object (position_of at) b
read_event (end_object at) b = in_object no_members true b
read_event (begin_array at count) b = put_array (position_of at) b
read_event (end_array at) b = in_array no_items None b
read_event end_text b = put_end b

-- Events, and what follows them.
abbrev pub read_events : List Event → Behind → Behind
read_events [] b = b
read_events (event ∷ events) b = read_event event (read_events events b)

-- ---- all events

abbrev pub whole_value : Behind → Option Value
whole_value (whole x) = Some x
whole_value b = None

-- The value of a list of events, if it describes one value and its end.
abbrev pub value_of : List Event → Option Value
value_of events = whole_value (read_events events nothing)

-- The value of a complete index file.
unfoldable pub document_value : Contents → Option ObjectId → Marks → Value
document_value c checksum marks = unwrap_or (value_of (document_events c checksum marks)) null
