-- The boxes of a bar, one after another (the library's own).
use Rattle.std.specs.Prelude.{◌≡◌, ℕ, ◌+◌, ◌<◌, ◌^◌, List, [], ◌∷◌, map}
use Rattle.view_layout.specs.Piece.{LieBetween}
use Rattle.view_layout.specs.declared.part.Part.{Part}
use Rattle.view_layout.specs.Groups.{grouped}
use Rattle.view_layout.specs.Scale.{bar_width, box_begin, box_width}

-- Boxes without gap or overlap, from a position to an end: the begin and the width of each.
abbrev pub TouchBetween : ℕ → List (ℕ × ℕ) → ℕ → Type 0
TouchBetween place [] end = place ≡ end
TouchBetween place (b ∷ boxes) end = (b.0 ≡ place) × TouchBetween (place + b.1) boxes end

-- The boxes of parts, in a bar for `len` bytes.
abbrev pub boxes_of : ℕ → List Part → List (ℕ × ℕ)
boxes_of len parts = map (λ p. (box_begin len p, box_width len p)) parts

-- The boxes fill the bar.
abbrev pub FillBar : ℕ → List Part → Type 0
FillBar len parts = TouchBetween 0 (boxes_of len parts) bar_width

-- If parts cover a file that isn't empty, their boxes fill the bar.
abbrev pub PartsFillBar : Type 0
PartsFillBar = (parts : List Part) (len : ℕ) → 0 < len → LieBetween 0 parts len → FillBar len parts

-- If parts cover a file that isn't empty and is shorter than 2^64 bytes, the boxes of their groups fill the bar.
abbrev pub GroupsFillBar : Type 0
GroupsFillBar =
    (parts : List Part) (len : ℕ) → 0 < len → len < 2 ^ 64 → LieBetween 0 parts len → FillBar len (grouped parts)
