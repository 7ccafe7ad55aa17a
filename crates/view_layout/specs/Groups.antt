-- Parts that are drawn as one box, such as all entries (the library's own).
use Rattle.std.specs.Prelude.{◌+◌, min, Bool, true, false, List, [], ◌∷◌, if◌then◌else◌}
use Rattle.view_layout.specs.declared.part.Part.{Part}
use Rattle.view_layout.specs.declared.part.What.{What}
use Rattle.view_layout.specs.declared.part.What.TheVariants as whats
use Rattle.view_layout.specs.declared.shade.Shade.{Shade}
use Rattle.view_layout.specs.declared.shade.Shade.TheVariants as shades
use Rattle.view_layout.specs.Shade.{shade_of}

-- The shade of the group that a part begins or belongs to.
abbrev pub group_shade : What → Shade
group_shade whats.Padding = shades.Entry
group_shade (whats.ExtensionContent signature) = shades.ExtensionHead
group_shade what = shade_of what

-- Whether a group extends over the part after it: entries over entries and padding, and an extension's head over
-- content.
abbrev pub reaches_over : Shade → What → Bool
reaches_over shades.Entry (whats.Entry number) = true
reaches_over shades.Entry whats.Padding = true
reaches_over shades.ExtensionHead (whats.ExtensionContent signature) = true
reaches_over shade what = false

-- Whether a part and the next one are drawn as one box.
abbrev pub go_together : What → What → Bool
go_together what next = reaches_over (group_shade what) next

-- A part extended over the next one. Lengths are those in memory, below 2^64.
abbrev pub stretched : Part → Part → Part
stretched p q = record { offset = p.offset; len = min (p.len + q.len) 0xffffffffffffffff; what = p.what }

-- A part before groups.
abbrev pub group_before : Part → List Part → List Part
group_before p [] = p ∷ []
group_before p (q ∷ groups) = if go_together p.what q.what then stretched p q ∷ groups else p ∷ q ∷ groups

-- The groups of parts: each run of parts that go together as one.
abbrev pub grouped : List Part → List Part
grouped [] = []
grouped (p ∷ parts) = group_before p (grouped parts)
