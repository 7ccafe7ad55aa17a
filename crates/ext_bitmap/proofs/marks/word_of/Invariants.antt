use Rattle.std.proofs.Common.{◌≡◌, ◌≤◌, length, map, drop}
use Rattle.ext_bitmap.specs.EncodedBitmap.{word_of}
use Rattle.ext_bitmap.proofs.marks.word_of.Given as goal

-- the bits from this place on
abbrev pub invariant-loop-place : goal.invariant-loop-place
invariant-loop-place g l = record {
  inside : l.place ≤ length l.items;
  so_far : l.word ≡ word_of (map (g.M.Marker.is_marked l.marker) (drop l.place l.items));
}

abbrev pub decreases-loop-place : goal.decreases-loop-place
decreases-loop-place g l = l.place
