use Rattle.std.proofs.Common.{◌≡◌}
use Rattle.ext_bitmap.specs.UnpackingSteps.{items_left}
use Rattle.ext_encode.specs.MonitorPlaces.{are_below}
use Rattle.ext_encode.proofs.fs_monitor.are_below.Given as goal

-- what is left is below the limit exactly if all is
abbrev pub invariant-loop-position : goal.invariant-loop-position
invariant-loop-position l =
    (goal.iterator-loop-position).can_next l.positions × (goal.iterator-loop-position).is_finite l.positions
    × (are_below l.limit (items_left l.positions) ≡ are_below l.limit (items_left l.fn.positions))
