use Rattle.std.proofs.Common.{arith, ◌∙◌, ap, take}
use Rattle.ext_bitmap.proofs.MarkedItems.{marks_at, marks_len}
use Rattle.ext_bitmap.proofs.marks.MarksWords.word.Goals as goal

pub overflow_mul-place : goal.overflow_mul-place
overflow_mul-place g c = omega (
  arith,
  c.requires,
  marks_len (g.M.Marker.is_marked c.args.self.now.marker) c.args.self.now.items.now,
  c.well_formed,
)

pub split_at-requires : goal.split_at-requires
split_at-requires g c = omega (
  arith,
  c.requires,
  marks_len (g.M.Marker.is_marked c.args.self.now.marker) c.args.self.now.items.now,
)

pub returns : goal.returns
returns g c = marks_at (g.M.Marker.is_marked c.args.self.now.marker) c.args.self.now.items.now c.split_at.result.1.now
    c.split_at-2.result.0.now c.args.place c.word_of.result c.requires c.split_at.ensures.back
    (c.split_at-2.ensures.front ∙ ap (λ n. take n c.split_at.result.1.now) c.min.ensures) c.word_of.ensures
