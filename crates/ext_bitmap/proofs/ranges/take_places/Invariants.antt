use Rattle.std.proofs.Common.{◌≡◌, ◌++◌, None}
use Rattle.ext_bitmap.specs.UnpackingSteps.{items_left}
use Rattle.ext_bitmap.specs.RangeSteps.{ranges_behind}
use Rattle.ext_bitmap.specs.Ranges.{breaks_below, places_below}
use Rattle.ext_bitmap.proofs.ranges.take_places.Given as goal

-- what is there and what is left are all ranges, and a fault is still to come
abbrev pub invariant-loop-position : goal.invariant-loop-position
invariant-loop-position l =
    (goal.iterator-loop-position).can_next l.positions × (goal.iterator-loop-position).is_finite l.positions
    × (l.ranges.items ++ ranges_behind l.begun (places_below l.limit (items_left l.positions))
    ≡ l.fn.ranges.items ++ ranges_behind None (places_below l.limit (items_left l.fn.positions)))
    × (breaks_below l.limit (items_left l.positions) ≡ breaks_below l.limit (items_left l.fn.positions))
