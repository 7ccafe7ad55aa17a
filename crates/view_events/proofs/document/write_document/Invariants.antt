use Rattle.std.proofs.Common.{◌++◌, Ok, take}
use Rattle.entry_list.specs.Record.{record_in}
use Rattle.index_state.specs.State.{storage_of}
use Rattle.base_text.specs.Blocks.{PutsBlocks}
use Rattle.view_events.specs.Document.{entry_events}
use Rattle.view_events.proofs.Listed.{all_shown}
use Rattle.view_events.proofs.document.write_document.Given as goal

-- the entries before this one were appended
abbrev pub invariant-loop-place : goal.invariant-loop-place
invariant-loop-place g l = PutsBlocks {T = Unit {0}} g.W.Out l.fn.out l.out (Ok tt) l.text.bytes.items
    (l.initial.text.bytes.items ++ all_shown g.P.Printer.spell entry_events (record_in (storage_of l.fn.state))
    (take l.place l.entry-items))
