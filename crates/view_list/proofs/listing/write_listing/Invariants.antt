use Rattle.std.proofs.Common.{Ok, take}
use Rattle.std.specs.Prelude.{flat_map}
use Rattle.base_text.specs.Blocks.{PutsBlocks}
use Rattle.view_list.specs.Line.{line_of}
use Rattle.entry_list.specs.Record.{record_in}
use Rattle.index_state.specs.State.{storage_of}
use Rattle.view_list.proofs.listing.write_listing.Given as goal

-- the lines of the entries before this one were written, or wait
abbrev pub invariant-loop-entry : goal.invariant-loop-entry
invariant-loop-entry g l =
    PutsBlocks {T = Unit {0}} g.W.Out l.fn.out l.out (Ok tt) l.lines.items
    (flat_map (λ e. line_of l.style (record_in (storage_of l.state) e)) (take l.entry-index l.entry-items))
