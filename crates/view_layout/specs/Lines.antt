-- The map of a file: a line for each part (the library's own).
use Rattle.std.specs.Prelude.{ℕ, List, [], ◌∷◌, ◌++◌, codes, decimal, slice_get, Option, Some, None, if◌then◌else◌}
use Rattle.std.specs.List.{flat_map}
use Rattle.entry_list.specs.Record.{Record}
use Rattle.base_text.specs.Escaped.{escaped}
use Rattle.base_text.specs.Line.{line_end}
use Rattle.base_text.specs.Quoted.{quoted}
use Rattle.base_text.specs.declared.lines.Lines.{Lines}
use Rattle.view_layout.specs.declared.part.Part.{Part}
use Rattle.view_layout.specs.declared.part.What.{What}
use Rattle.view_layout.specs.declared.part.What.TheVariants as whats

abbrev pub path_or_none : Option Record → List ℕ
path_or_none None = []
path_or_none (Some r) = r.path

-- The path of the record at an index; empty if there is none.
abbrev pub record_path : List Record → ℕ → List ℕ
record_path rs place = path_or_none (slice_get rs place)

-- A path in a map: quoted; else escaped, or unchanged if lines end with a NUL.
abbrev pub map_path : Lines → List ℕ → List ℕ
map_path style path = if style.quote then quoted path else if style.nul then path else escaped path

-- What a part is, as text.
abbrev pub what_text : Lines → List Record → What → List ℕ
what_text style rs whats.Header = codes "header"
what_text style rs (whats.Entry number) =
    codes "entry " ++ decimal number ++ codes " " ++ map_path style (record_path rs number)
what_text style rs whats.Padding = codes "padding"
what_text style rs (whats.ExtensionHead signature) = codes "extension " ++ escaped signature ++ codes " head"
what_text style rs (whats.ExtensionContent signature) = codes "extension " ++ escaped signature ++ codes " content"
what_text style rs whats.LeftOver = codes "left over"
what_text style rs whats.Trailer = codes "trailer"
what_text style rs whats.Unread = codes "unread"

-- The offset, a tab, the length, a tab, what the part is, and the end of the line.
abbrev pub map_line : Lines → List Record → Part → List ℕ
map_line style rs p = decimal p.offset ++ (9 ∷ []) ++ decimal p.len ++ (9 ∷ []) ++ what_text style rs p.what
    ++ (line_end style ∷ [])

abbrev pub map_lines : Lines → List Record → List Part → List ℕ
map_lines style rs parts = flat_map (map_line style rs) parts
