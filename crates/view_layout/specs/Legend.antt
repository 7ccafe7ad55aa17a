-- The legend of a picture of a file: the meaning of its colours (the library's own). Lengths are tenths of a pixel.
use Rattle.std.specs.Prelude.{ℕ, Bool, List, ◌++◌, codes, if◌then◌else◌}
use Rattle.view_layout.specs.declared.shade.Shade.{Shade}
use Rattle.view_layout.specs.declared.shade.Shade.TheVariants as shades
use Rattle.view_layout.specs.Shade.{ink}

-- A box of a colour, at a position.
unfoldable pub mark_box : List ℕ → Shade → List ℕ
mark_box place shade =
    codes "<g transform=\"translate(" ++ place ++ codes ")\"><rect width=\"300\" height=\"150\" fill=\"" ++ ink shade

-- The meaning of the colour, after the box.
unfoldable pub mark_name : List ℕ → List ℕ
mark_name name = codes "\" stroke=\"#202124\" stroke-width=\"4\"/><text x=\"400\" y=\"125\">"
    ++ name ++ codes "</text></g>\n"

abbrev pub legend_mark : List ℕ → Shade → List ℕ → List ℕ
legend_mark place shade name = mark_box place shade ++ mark_name name

-- The types of parts, in two rows.
unfoldable pub first_part_marks : List ℕ
first_part_marks =
    legend_mark (codes "400 1680") shades.Header (codes "header")
    ++ legend_mark (codes "2600 1680") shades.Entry (codes "entry")
    ++ legend_mark (codes "4800 1680") shades.Padding (codes "padding")
    ++ legend_mark (codes "7000 1680") shades.ExtensionHead (codes "extension head")

unfoldable pub last_part_marks : List ℕ
last_part_marks =
    legend_mark (codes "400 1940") shades.ExtensionContent (codes "extension content")
    ++ legend_mark (codes "2600 1940") shades.LeftOver (codes "left over")
    ++ legend_mark (codes "4800 1940") shades.Trailer (codes "trailer")
    ++ legend_mark (codes "7000 1940") shades.Unread (codes "unread")

-- The types of groups, in two rows.
unfoldable pub first_group_marks : List ℕ
first_group_marks =
    legend_mark (codes "400 1680") shades.Header (codes "header")
    ++ legend_mark (codes "2600 1680") shades.Entry (codes "entries")
    ++ legend_mark (codes "4800 1680") shades.ExtensionHead (codes "extension")

unfoldable pub last_group_marks : List ℕ
last_group_marks =
    legend_mark (codes "400 1940") shades.LeftOver (codes "left over")
    ++ legend_mark (codes "2600 1940") shades.Trailer (codes "trailer")
    ++ legend_mark (codes "4800 1940") shades.Unread (codes "unread")

abbrev pub legend : Bool → List ℕ
legend each = if each then first_part_marks ++ last_part_marks else first_group_marks ++ last_group_marks
