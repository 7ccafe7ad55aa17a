use Rattle.std.proofs.Common.{◌≡◌, ◌++◌, take}
use Rattle.ext_small.specs.declared.index_entry_offset_table.Offset.{Offset}
use Rattle.view_events.specs.Marks.{block_events}
use Rattle.view_events.proofs.Listed.{all_shown}
use Rattle.view_events.proofs.marks.append_table.Given as goal

-- the blocks before this one were appended
abbrev pub invariant-loop-place : goal.invariant-loop-place
invariant-loop-place g l = l.text.bytes.items ≡ l.initial.text.bytes.items
    ++ all_shown g.P.Printer.spell block_events (λ (o : Offset). o) (take l.place l.block-items)
