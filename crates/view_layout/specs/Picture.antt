-- A picture to scale of the parts of a file (the library's own; Scalable Vector Graphics 1.1). Lengths are tenths of a
-- pixel.
use Rattle.std.specs.Prelude.{ℕ, ◌+◌, ◌*◌, nat_le, Bool, true, false, List, ◌++◌, codes, decimal, length}
use Rattle.std.specs.Prelude.{if◌then◌else◌}
use Rattle.std.specs.List.{flat_map}
use Rattle.entry_list.specs.Record.{Record}
use Rattle.base_text.specs.Escaped.{escaped}
use Rattle.base_text.specs.declared.lines.Lines.{Lines}
use Rattle.view_layout.specs.Lines.{what_text}
use Rattle.view_layout.specs.declared.part.Part.{Part}
use Rattle.view_layout.specs.declared.part.What.{What}
use Rattle.view_layout.specs.declared.part.What.TheVariants as whats
use Rattle.view_layout.specs.Groups.{grouped}
use Rattle.view_layout.specs.Legend.{legend}
use Rattle.view_layout.specs.Scale.{box_begin, box_width, drawn_len}
use Rattle.view_layout.specs.Shade.{ink, shade_of}
use Rattle.view_layout.specs.Xml.{xml_text}

-- The style of paths is that of the lines of a map without options: escaped to fit in a line.
abbrev pub plain_lines : Lines
plain_lines = record { nul = false; quote = false }

-- The description of a group.
abbrev pub group_text : List Record → What → List ℕ
group_text rs (whats.Entry number) = codes "entries"
group_text rs (whats.ExtensionHead signature) = codes "extension " ++ escaped signature
group_text rs what = what_text plain_lines rs what

-- The description of a box, which is for a part or for a group.
abbrev pub plain_words : Bool → List Record → What → List ℕ
plain_words each rs what = if each then what_text plain_lines rs what else group_text rs what

abbrev pub words : Bool → List Record → What → List ℕ
words each rs what = xml_text (plain_words each rs what)

-- ---- the bar

-- The begin of a box, its width, and its colour.
unfoldable pub box_shape : ℕ → Part → List ℕ
box_shape len p =
    codes "<rect x=\"" ++ decimal (box_begin len p) ++ codes "\" width=\"" ++ decimal (box_width len p)
    ++ codes "\" height=\"600\" fill=\"" ++ ink (shade_of p.what) ++ codes "\">"

-- The text that a browser shows for a box under the pointer.
unfoldable pub box_title : Bool → List Record → Part → List ℕ
box_title each rs p =
    codes "<title>" ++ words each rs p.what ++ codes ": " ++ decimal p.len ++ codes " bytes from " ++ decimal p.offset
    ++ codes " on</title></rect>\n"

abbrev pub box : Bool → List Record → ℕ → Part → List ℕ
box each rs len p = box_shape len p ++ box_title each rs p

-- ---- the list

-- A square of the colour, and the offset.
unfoldable pub row_begin : Part → List ℕ
row_begin p =
    codes "<tspan x=\"400\" dy=\"220\" stroke=\"#202124\" stroke-width=\"4\" fill=\"" ++ ink (shade_of p.what)
    ++ codes "\">&#9632;</tspan><tspan x=\"1500\" text-anchor=\"end\">" ++ decimal p.offset

-- The length, and the description.
unfoldable pub row_rest : Bool → List Record → Part → List ℕ
row_rest each rs p =
    codes "</tspan><tspan x=\"2700\" text-anchor=\"end\">" ++ decimal p.len ++ codes "</tspan><tspan x=\"3000\">"
    ++ words each rs p.what ++ codes "</tspan>\n"

abbrev pub row : Bool → List Record → Part → List ℕ
row each rs p = row_begin p ++ row_rest each rs p

-- ---- all together

-- The height in pixels of a picture with `rows` rows.
abbrev pub height : ℕ → ℕ
height rows = 270 + 22 * rows

unfoldable pub svg_begin : ℕ → List ℕ
svg_begin pixels =
    codes "<svg xmlns=\"http://www.w3.org/2000/svg\" viewBox=\"0 0 9600 " ++ decimal (10 * pixels)
    ++ codes "\" width=\"960\" height=\"" ++ decimal pixels
    ++ codes "\" font-family=\"DejaVu Sans, Verdana, Arial, sans-serif\" font-size=\"130\" fill=\"#202124\">\n"

unfoldable pub title_text : List ℕ
title_text =
    codes "<title>The parts of an index file</title>\n<rect width=\"100%\" height=\"100%\" fill=\"#ffffff\"/>\n"
    ++ codes "<text x=\"400\" y=\"440\" font-size=\"200\" font-weight=\"bold\">The parts of an index file</text>\n"

-- The numbers of bytes, parts and entries, and the begin of the bar.
unfoldable pub totals : ℕ → ℕ → ℕ → List ℕ
totals bytes parts entries =
    codes "<text x=\"9200\" y=\"440\" text-anchor=\"end\" fill=\"#5f6368\">bytes: " ++ decimal bytes
    ++ codes ", parts: " ++ decimal parts
    ++ codes ", entries: " ++ decimal entries
    ++ codes "</text>\n<g transform=\"translate(400 640)\" stroke=\"#202124\" stroke-width=\"4\">\n"

-- The end of the bar, and the offsets of its ends.
unfoldable pub bar_end : ℕ → List ℕ
bar_end bytes =
    codes "</g>\n<text x=\"400\" y=\"1400\" fill=\"#5f6368\">0</text>\n"
    ++ codes "<text x=\"9200\" y=\"1400\" text-anchor=\"end\" fill=\"#5f6368\">" ++ decimal bytes ++ codes "</text>\n"

-- the names of the columns
unfoldable pub list_begin : List ℕ
list_begin =
    codes "<text y=\"2480\" xml:space=\"preserve\">"
    ++ codes "<tspan x=\"1500\" text-anchor=\"end\" fill=\"#5f6368\">offset</tspan>"
    ++ codes "<tspan x=\"2700\" text-anchor=\"end\" fill=\"#5f6368\">length</tspan>"
    ++ codes "<tspan x=\"3000\" fill=\"#5f6368\">what</tspan>\n"

unfoldable pub svg_end : List ℕ
svg_end = codes "</text>\n</svg>\n"

-- A picture with these boxes. Each is for a part, or for a group. It is the text before the boxes, the boxes, the text
-- between them and the rows, the rows, and the end.
abbrev pub front_text : List Record → List Part → List Part → List ℕ
front_text rs parts boxes =
    svg_begin (height (length boxes)) ++ title_text ++ totals (drawn_len parts) (length parts) (length rs)

abbrev pub middle_text : Bool → List Part → List ℕ
middle_text each parts = bar_end (drawn_len parts) ++ legend each ++ list_begin

abbrev pub drawing : Bool → List Record → List Part → List Part → List ℕ
drawing each rs parts boxes =
    front_text rs parts boxes ++ flat_map (box each rs (drawn_len parts)) boxes ++ middle_text each parts
    ++ flat_map (row each rs) boxes ++ svg_end

-- At most 64 parts are drawn part by part, more of them by groups.
abbrev pub picture_text : List Record → List Part → List ℕ
picture_text rs parts = if nat_le (length parts) 64 then drawing true rs parts parts
    else drawing false rs parts (grouped parts)
