use Rattle.std.proofs.Common.{Ok, take}
use Rattle.std.specs.Prelude.{flat_map}
use Rattle.base_text.specs.Blocks.{PutsBlocks}
use Rattle.view_layout.specs.Lines.{map_line}
use Rattle.view_layout.proofs.map.write_map.Given as goal

-- the lines of the parts before this one were written, or wait
abbrev pub invariant-loop-part : goal.invariant-loop-part
invariant-loop-part g l =
    PutsBlocks {T = Unit {0}} g.W.Out l.fn.out l.out (Ok tt) l.lines.items
    (flat_map (map_line l.style l.entries) (take l.part-index l.parts))
