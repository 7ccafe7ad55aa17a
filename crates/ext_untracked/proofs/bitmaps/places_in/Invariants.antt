use Rattle.std.proofs.Common.{◌++◌, ◌<◌, All, map, Ok}
use Rattle.ext_bitmap.specs.Bitmap.{bitmap}
use Rattle.ext_bitmap.specs.Bits.{ListPlaces}
use Rattle.ext_bitmap.specs.UnpackingSteps.{items_left}
use Rattle.ext_untracked.proofs.bitmaps.places_in.Given as goal

abbrev pub invariant-loop-position : goal.invariant-loop-position
invariant-loop-position l =
    (goal.iterator-loop-position).can_next l.positions × (goal.iterator-loop-position).is_finite l.positions
    × ListPlaces (map Ok l.places.items ++ items_left l.positions) (bitmap l.bitmaps).words
    × All (λ place. place < l.count) l.places.items
