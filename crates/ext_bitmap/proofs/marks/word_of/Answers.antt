use Rattle.std.proofs.Common.{arith}
use Rattle.ext_bitmap.proofs.MarkedItems.{bit_small, word_small}
use Rattle.ext_bitmap.proofs.marks.word_of.Goals as goal

pub overflow_mul-word : goal.overflow_mul-word
overflow_mul-word g c = omega (
  arith,
  word_small (g.M.Marker.is_marked c.args.marker.now) c.args.items.now c.loop-place.place c.loop-place.word c.loop-place-test.true
      c.requires c.loop-place.invariant.so_far,
)

pub overflow_add-word : goal.overflow_add-word
overflow_add-word g c = omega (
  arith,
  word_small (g.M.Marker.is_marked c.args.marker.now) c.args.items.now c.loop-place.place c.loop-place.word c.loop-place-test.true
      c.requires c.loop-place.invariant.so_far,
  bit_small c.has_bit.result,
  c.from.ensures,
)
