use Rattle.std.proofs.Common.{arith}
use Rattle.view_layout.specs.Scale.{part_end}
use Rattle.view_layout.proofs.Scaled.{scaled_rises}
use Rattle.view_layout.proofs.scale.box_width.Goals as goal

pub overflow_sub-result : goal.overflow_sub-result
overflow_sub-result c = rw (c.box_begin.ensures, c.scaled.ensures.value, c.part_end.ensures.value)
    (scaled_rises c.args.len c.args.part.offset (part_end c.args.part) (omega arith))
