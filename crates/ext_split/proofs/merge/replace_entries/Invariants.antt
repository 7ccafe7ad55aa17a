use Rattle.std.proofs.Common.{◌≤◌, length}
use Rattle.ext_bitmap.specs.Bitmap.{bitmap}
use Rattle.ext_bitmap.specs.UnpackingSteps.{items_left}
use Rattle.ext_split.proofs.MergeLoops.{IsReplacing}
use Rattle.entry_list.specs.Record.{records_in}
use Rattle.ext_split.specs.MergeCalls.{StayPlaced}
use Rattle.ext_split.proofs.merge.replace_entries.Given as goal

abbrev pub invariant-loop-position : goal.invariant-loop-position
invariant-loop-position l =
    (goal.iterator-loop-position).can_next l.positions × (goal.iterator-loop-position).is_finite l.positions
    × IsReplacing (bitmap l.replace).words (records_in l.storage l.fn.shared.items) (records_in l.split_storage l.split)
    (items_left l.positions) l.taken (records_in l.storage l.shared.items)
    × StayPlaced l.fn.shared.items l.shared.items
    × (l.taken ≤ length l.split)
