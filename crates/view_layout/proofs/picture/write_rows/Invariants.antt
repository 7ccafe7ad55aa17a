use Rattle.std.proofs.Common.{Ok, take}
use Rattle.std.specs.Prelude.{flat_map}
use Rattle.base_text.specs.Blocks.{PutsBlocks}
use Rattle.view_layout.specs.Picture.{row}
use Rattle.view_layout.proofs.picture.write_rows.Given as goal

-- the rows of the parts before this one were written, or wait
abbrev pub invariant-loop-part : goal.invariant-loop-part
invariant-loop-part g l =
    PutsBlocks {T = Unit {0}} g.W.Out l.fn.out l.out (Ok tt) l.lines.items
    (flat_map (row l.each l.entries) (take l.part-index l.boxes))
