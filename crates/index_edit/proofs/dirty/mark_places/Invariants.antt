use Rattle.std.proofs.Common.{◌≡◌, true, length, map}
use Rattle.std.specs.List.{list_any}
use Rattle.ext_bitmap.specs.Bitmap.{bitmap}
use Rattle.ext_bitmap.specs.Ranges.{set_places}
use Rattle.ext_bitmap.specs.UnpackingSteps.{items_left}
use Rattle.entry_list.specs.Order.{IsStrictlyOrdered}
use Rattle.ext_encode.specs.MonitorPlaces.{are_below}
use Rattle.index_edit.specs.Dirty.{is_at_place}
use Rattle.index_edit.specs.DirtySteps.{either}
use Rattle.index_edit.proofs.dirty.mark_places.Given as goal

-- with the bits of what is left set, those of all places are
abbrev pub invariant-loop-position : goal.invariant-loop-position
invariant-loop-position l = record {
  can_next : (goal.iterator-loop-position).can_next l.positions;
  is_finite : (goal.iterator-loop-position).is_finite l.positions;
  len : length l.bits ≡ length l.initial.bits;
  below : are_below (length l.old) (set_places (bitmap l.places)) ≡ true
      → are_below (length l.old) (items_left l.positions) ≡ true;
  marked : length l.initial.bits ≡ length l.entries → IsStrictlyOrdered l.entries
      → are_below (length l.old) (set_places (bitmap l.places)) ≡ true
      → either l.bits (map (λ r. list_any (is_at_place l.old r) (items_left l.positions)) l.entries)
      ≡ either l.initial.bits (map (λ r. list_any (is_at_place l.old r) (set_places (bitmap l.places))) l.entries);
}
