-- The values of single events (the library's own). The parts of each are those of gitformat-index.
use Rattle.std.specs.Prelude.{ℕ, List, ◌-◌, ◌++◌, codes, Option, Some, None, if◌then◌else◌}
use Rattle.std.specs.Str.{is_utf8}
use Rattle.view_events.specs.declared.event.Datum.{Datum}
use Rattle.view_events.specs.declared.event.Datum.TheVariants.{Answer, Block, Count, Id, Number, Side}
use Rattle.ext_bitmap.specs.declared.ranges.Range.{Range}
use Rattle.entry_list.specs.Record.{Record}
use Rattle.entry_fields.specs.Flags.{stage_number}
use Rattle.entry_fields.specs.declared.entry.stat.Stat.{Stat}
use Rattle.entry_fields.specs.declared.entry.stat.Time.{Time}
use Rattle.index_parts.specs.Id.{id_bytes}
use Rattle.ext_small.specs.declared.index_entry_offset_table.Offset.{Offset}
use Rattle.ext_small.specs.declared.resolve_undo.Stage.{Stage}
use Rattle.ext_untracked.specs.declared.OidStat.{OidStat}
use Rattle.view_json_laws.specs.Value.{Members, Value, array, boolean, digits, item, member, no_items, no_members}
use Rattle.view_json_laws.specs.Value.{null}
use Rattle.view_json_laws.specs.Value.{number, object, string}

-- ---- a text: a string, or the digits of its bytes if they aren't UTF-8, and then the name ends with `_bytes`

abbrev pub text_name : List ℕ → List ℕ → List ℕ
text_name name bytes = if is_utf8 bytes then name else name ++ codes "_bytes"

abbrev pub text_or_digits : List ℕ → Value
text_or_digits bytes = if is_utf8 bytes then string bytes else digits bytes

-- ---- values of an index

abbrev pub number_member : List ℕ → ℕ → Members → Members
number_member name n others = member name (number n) others

abbrev pub time_object : Time → Value
time_object t =
    object (number_member (codes "secs") t.secs (number_member (codes "nsecs") t.nsecs no_members))

abbrev pub stat_object : Stat → Value
stat_object s =
    object
    (member (codes "mtime") (time_object s.mtime)
    (member (codes "ctime") (time_object s.ctime)
    (number_member (codes "dev") s.dev
    (number_member (codes "ino") s.ino
    (number_member (codes "uid") s.uid
    (number_member (codes "gid") s.gid (number_member (codes "size") s.size no_members)))))))

abbrev pub entry_object : Record → Value
entry_object r =
    object
    (member (text_name (codes "path") r.path) (text_or_digits r.path)
    (member (codes "id") (digits (id_bytes r.id))
    (number_member (codes "mode") r.mode
    (number_member (codes "stage") (stage_number r.flags)
    (number_member (codes "flags") r.flags (member (codes "stat") (stat_object r.stat) no_members))))))

-- The first index of a range, and its length.
abbrev pub range_array : Range → Value
range_array r = array (item (number r.first) (item (number (r.end - r.first)) no_items))

abbrev pub side_object : Stage → Value
side_object side =
    object (number_member (codes "mode") side.mode (member (codes "id") (digits (id_bytes side.id)) no_members))

abbrev pub block_object : Offset → Value
block_object o =
    object
    (number_member (codes "from_beginning_of_file") o.from_beginning_of_file
    (number_member (codes "num_entries") o.num_entries no_members))

-- A stat, or `null` if there is none.
abbrev pub stat_or_null : Option Stat → Value
stat_or_null None = null
stat_or_null (Some s) = stat_object s

-- The stat and the id of a file of exclude patterns, or `null` if there is none.
abbrev pub exclude_object : Option OidStat → Value
exclude_object None = null
exclude_object (Some file) =
    object (member (codes "stat") (stat_object file.stat) (member (codes "id") (digits (id_bytes file.id)) no_members))

-- The value of a field.
abbrev pub value_of_datum : Datum → Value
value_of_datum (Number n) = number n
value_of_datum (Id (Some id)) = digits (id_bytes id)
value_of_datum (Answer holds) = boolean holds
value_of_datum (Side (Some side)) = side_object side
value_of_datum (Block o) = block_object o
value_of_datum (Count (Some n)) = number n
value_of_datum d = null
