use Rattle.std.proofs.Common.{Ok, take}
use Rattle.std.specs.Prelude.{flat_map}
use Rattle.base_text.specs.Blocks.{PutsBlocks}
use Rattle.view_layout.specs.Picture.{box}
use Rattle.view_layout.proofs.picture.write_boxes.Given as goal

-- the boxes of the parts before this one were written, or wait
abbrev pub invariant-loop-part : goal.invariant-loop-part
invariant-loop-part g l =
    PutsBlocks {T = Unit {0}} g.W.Out l.fn.out l.out (Ok tt) l.lines.items
    (flat_map (box l.each l.entries l.len) (take l.part-index l.boxes))
