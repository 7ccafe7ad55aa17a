-- The ranges that are still to be appended, given the current range.
use Rattle.std.specs.Prelude.{ℕ, zero, suc, ◌+◌, ◌==◌, if◌then◌else◌, List, [], ◌∷◌, Option, Some, None}
use Rattle.ext_bitmap.specs.declared.ranges.Range.{Range}

-- the current range, if any, and the ranges of the ascending positions after it
abbrev pub ranges_behind : Option Range → List ℕ → List Range
ranges_behind None [] = []
ranges_behind None (place ∷ ps) = ranges_behind (Some (record { first = place; end = place + 1 })) ps
ranges_behind (Some r) [] = r ∷ []
ranges_behind (Some r) (place ∷ ps) =
    if place == r.end then ranges_behind (Some (record { first = r.first; end = place + 1 })) ps
    else r ∷ ranges_behind (Some (record { first = place; end = place + 1 })) ps

-- `count` adjacent positions, from `first` on
abbrev pub side_by_side : ℕ → ℕ → List ℕ
side_by_side first zero = []
side_by_side first (suc count) = first ∷ side_by_side (first + 1) count
