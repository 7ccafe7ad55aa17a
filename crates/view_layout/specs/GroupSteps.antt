-- Groups of parts, with one part more after them (the library's own). Public clauses cite none of these.
use Rattle.std.specs.Prelude.{◌≡◌, List, [], ◌∷◌, ◌++◌, if◌then◌else◌}
use Rattle.view_layout.specs.declared.part.Part.{Part}
use Rattle.view_layout.specs.Groups.{go_together, stretched}

-- The last group is extended over the part, or the part is a group after the others.
abbrev pub grown : List Part → Part → List Part
grown [] p = p ∷ []
grown (g ∷ []) p = if go_together g.what p.what then stretched g p ∷ [] else g ∷ p ∷ []
grown (g ∷ h ∷ groups) p = g ∷ grown (h ∷ groups) p

-- `grew` and the group `now` are the groups after the next part.
abbrev pub GrowTo : List Part → (last next : Part) → List Part → Part → Type 0
GrowTo groups last next grew now = grew ++ (now ∷ []) ≡ grown (groups ++ (last ∷ [])) next
