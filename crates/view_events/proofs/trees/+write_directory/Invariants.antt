use Rattle.std.proofs.Common.{◌++◌, Ok, take}
use Rattle.ext_tree.specs.declared.Tree.{Tree}
use Rattle.base_text.specs.Blocks.{PutsBlocks}
use Rattle.view_events.specs.Event.{print}
use Rattle.view_events.specs.Trees.{tree_opened}
use Rattle.view_events.proofs.Listed.{all_shown}
use Rattle.view_events.proofs.TreeEvents.{placed_tree}
use Rattle.view_events.proofs.trees.+write_directory.Given as goal

-- the directory was appended up to its list of directories, and all of these before this one
abbrev pub invariant-loop-place : goal.invariant-loop-place
invariant-loop-place g l = PutsBlocks {T = Unit {0}} g.W.Out l.fn.out l.out (Ok tt) l.text.bytes.items
    ((l.fn.text.bytes.items ++ print g.P.Printer.spell (tree_opened l.fn.at l.fn.depth l.fn.tree))
    ++ all_shown g.P.Printer.spell (placed_tree l.fn.depth) (λ (t : Tree). t) (take l.place l.child-items))
