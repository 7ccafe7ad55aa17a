use Rattle.std.proofs.Common.{◌++◌, Ok, take}
use Rattle.ext_untracked.specs.Blocks.{directory_value}
use Rattle.view_events.specs.Untracked.{cached_events}
use Rattle.base_text.specs.Blocks.{PutsBlocks}
use Rattle.view_events.proofs.Listed.{all_shown}
use Rattle.view_events.proofs.untracked.write_untracked.Given as goal

-- the directories before this one were appended
abbrev pub invariant-loop-place : goal.invariant-loop-place
invariant-loop-place g l = PutsBlocks {T = Unit {0}} g.W.Out l.fn.out l.out (Ok tt) l.text.bytes.items
    (l.initial.text.bytes.items
    ++ all_shown g.P.Printer.spell cached_events directory_value (take l.place l.directory-items))
