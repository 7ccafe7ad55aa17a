-- The colours in a picture of a file (the library's own).
use Rattle.std.specs.Prelude.{ℕ, List, codes}
use Rattle.view_layout.specs.declared.part.What.{What}
use Rattle.view_layout.specs.declared.part.What.TheVariants as whats
use Rattle.view_layout.specs.declared.shade.Shade.{Shade}
use Rattle.view_layout.specs.declared.shade.Shade.TheVariants as shades

abbrev pub shade_of : What → Shade
shade_of whats.Header = shades.Header
shade_of (whats.Entry number) = shades.Entry
shade_of whats.Padding = shades.Padding
shade_of (whats.ExtensionHead signature) = shades.ExtensionHead
shade_of (whats.ExtensionContent signature) = shades.ExtensionContent
shade_of whats.LeftOver = shades.LeftOver
shade_of whats.Trailer = shades.Trailer
shade_of whats.Unread = shades.Unread

-- The colours. Red is for bytes that can't be read.
unfoldable pub ink : Shade → List ℕ
ink shades.Header = codes "#4e79a7"
ink shades.Entry = codes "#f1b84b"
ink shades.Padding = codes "#f8e7c0"
ink shades.ExtensionHead = codes "#3f9b60"
ink shades.ExtensionContent = codes "#a9d8b4"
ink shades.LeftOver = codes "#b07aa1"
ink shades.Trailer = codes "#8d99a6"
ink shades.Unread = codes "#d64550"
