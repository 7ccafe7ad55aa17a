use Rattle.std.proofs.Common.{◌++◌, Ok, take}
use Rattle.ext_small.specs.ResolveUndo.{path_stages}
use Rattle.view_events.specs.Undo.{path_events}
use Rattle.base_text.specs.Blocks.{PutsBlocks}
use Rattle.view_events.proofs.Listed.{all_shown}
use Rattle.view_events.proofs.undo.write_undo.Given as goal

-- the paths before this one were appended
abbrev pub invariant-loop-place : goal.invariant-loop-place
invariant-loop-place g l = PutsBlocks {T = Unit {0}} g.W.Out l.fn.out l.out (Ok tt) l.text.bytes.items
    (l.initial.text.bytes.items ++ all_shown g.P.Printer.spell path_events path_stages (take l.place l.path-items))
