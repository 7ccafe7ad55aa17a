use Rattle.std.proofs.Common.{ℕ, arith}
use Rattle.base_text.proofs.Placed.{placed_more}
use Rattle.view_events.specs.Untracked.{subdirectory_events}
use Rattle.view_events.proofs.Listed.{self_listed, shown}
use Rattle.view_events.proofs.Steps.{one_told}
use Rattle.view_events.proofs.untracked.append_places.Goals as goal

pub loop-index-preserved : goal.loop-index-preserved
loop-index-preserved g c = placed_more (shown g.P.Printer.spell subdirectory_events (λ (n : ℕ). n)) c.args.places.now
    c.loop-index.index _ c.args.text.now.bytes.items c.loop-index.text.bytes.items c.put.new.text.bytes.items
    (omega (arith, c.loop-index-test.true)) c.loop-index.invariant
    (one_told g.P.Printer.spell _ _ c.in_ok-put.ensures)

pub returns : goal.returns
returns g c = self_listed g.P.Printer.spell subdirectory_events c.args.text.now.bytes.items
    c.loop-index.text.bytes.items c.args.places.now c.loop-index.index (omega (arith, c.loop-index-test.false))
    c.loop-index.invariant
