-- Lines with a name and a value, for people, and the values in them (the library's own).
use Rattle.std.specs.Prelude.{ℕ, ◌-◌, ◌==◌, true, false, List, ◌++◌, codes, decimal, drop, length, Some, None}
use Rattle.std.specs.Prelude.{if◌then◌else◌}
use Rattle.std.specs.List.{flat_map}
use Rattle.hex.specs.Hex.{encode_lower}
use Rattle.ext_bitmap.specs.declared.ranges.Range.{Range}
use Rattle.view_events.specs.declared.event.Datum.{Datum}
use Rattle.view_events.specs.declared.event.Datum.TheVariants.{Answer, Block, Count, Id, Malformed, Number, Side}
use Rattle.index_parts.specs.Id.{id_bytes}
use Rattle.index_parts.specs.declared.hash.ObjectId.{ObjectId}
use Rattle.ext_small.specs.declared.index_entry_offset_table.Offset.{Offset}
use Rattle.ext_small.specs.declared.resolve_undo.Stage.{Stage}
use Rattle.base_text.specs.Digits.{octal}
use Rattle.base_text.specs.Escaped.{escaped}

-- The indent, the name, a colon and a space, the value, and a newline.
unfoldable pub field : List ℕ → List ℕ → List ℕ → List ℕ
field indent name value = indent ++ name ++ codes ": " ++ value ++ codes "\n"

abbrev pub number_line : List ℕ → List ℕ → ℕ → List ℕ
number_line indent name n = field indent name (decimal n)

-- A line with bytes as text, escaped to fit in the line.
abbrev pub text_line : List ℕ → List ℕ → List ℕ → List ℕ
text_line indent name bytes = field indent name (escaped bytes)

-- A line with an id in base 16.
abbrev pub id_line : List ℕ → List ℕ → ObjectId → List ℕ
id_line indent name id = field indent name (encode_lower (id_bytes id))

-- A heading: the line above lines with a deeper indent.
unfoldable pub heading_line : List ℕ → List ℕ → List ℕ
heading_line indent words = indent ++ words ++ codes ":\n"

-- The mode and the id of a side.
unfoldable pub side_text : Stage → List ℕ
side_text side = octal side.mode ++ codes " " ++ encode_lower (id_bytes side.id)

-- The offset of a block of entries, and the number of its entries.
unfoldable pub block_text : Offset → List ℕ
block_text block =
    codes "offset " ++ decimal block.from_beginning_of_file ++ codes ", entries " ++ decimal block.num_entries

-- The value of a field.
abbrev pub datum_text : Datum → List ℕ
datum_text (Number n) = decimal n
datum_text (Id (Some id)) = encode_lower (id_bytes id)
datum_text (Answer true) = codes "yes"
datum_text (Answer false) = codes "no"
datum_text (Side (Some side)) = side_text side
datum_text (Block block) = block_text block
datum_text (Count (Some n)) = decimal n
datum_text (Count None) = codes "-1"
datum_text Malformed = codes "malformed"
datum_text d = codes "none"

-- The nanoseconds in nine digits, or more if a file has more.
abbrev pub nanoseconds : ℕ → List ℕ
nanoseconds n = drop (length (decimal n)) (codes "000000000") ++ decimal n

-- ---- ranges

-- A space and the first index of a range. If the range has more, a hyphen and the last index.
unfoldable pub range_text : Range → List ℕ
range_text r =
    codes " " ++ (if r.end - r.first == 1 then decimal r.first else decimal r.first ++ codes "-" ++ decimal (r.end - 1))

-- All ranges, or `none` if there are none.
abbrev pub ranges_text : List Range → List ℕ
ranges_text ranges = if length ranges == 0 then codes " none" else flat_map range_text ranges

unfoldable pub ranges_line : List ℕ → List ℕ → List Range → List ℕ
ranges_line indent name ranges = indent ++ name ++ codes ":" ++ ranges_text ranges ++ codes "\n"
