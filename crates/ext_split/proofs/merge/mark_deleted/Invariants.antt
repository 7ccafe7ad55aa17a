use Rattle.ext_bitmap.specs.Bitmap.{bitmap}
use Rattle.ext_bitmap.specs.UnpackingSteps.{items_left}
use Rattle.ext_split.proofs.MergeLoops.{IsMarking}
use Rattle.ext_split.proofs.merge.mark_deleted.Given as goal

abbrev pub invariant-loop-position : goal.invariant-loop-position
invariant-loop-position l =
    (goal.iterator-loop-position).can_next l.positions × (goal.iterator-loop-position).is_finite l.positions
    × IsMarking (bitmap l.delete).words l.fn.entries.items (items_left l.positions) l.entries.items
