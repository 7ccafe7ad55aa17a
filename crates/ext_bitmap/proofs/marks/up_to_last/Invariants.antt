use Rattle.std.proofs.Common.{◌≡◌, ◌≤◌, length, map}
use Rattle.ext_bitmap.specs.EncodedBitmap.{up_to_last}
use Rattle.ext_bitmap.proofs.marks.up_to_last.Given as goal

-- no item after the rest has its bit set
abbrev pub invariant-loop-last : goal.invariant-loop-last
invariant-loop-last g l = record {
  kept : up_to_last (map (g.M.Marker.is_marked l.marker) l.rest) ≡ up_to_last (map (g.M.Marker.is_marked l.marker) l.items);
  few : length l.rest ≤ length l.items;
}

abbrev pub decreases-loop-last : goal.decreases-loop-last
decreases-loop-last g l = length l.rest
