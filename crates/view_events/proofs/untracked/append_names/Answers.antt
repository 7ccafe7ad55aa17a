use Rattle.std.proofs.Common.{arith, ◌∙◌, ap}
use Rattle.bstr.specs.Owned.{bstring_bytes}
use Rattle.base_text.proofs.Placed.{placed_more}
use Rattle.view_events.specs.Untracked.{name_events}
use Rattle.view_events.proofs.Listed.{all_listed, shown}
use Rattle.view_events.proofs.Steps.{three_told}
use Rattle.view_events.proofs.untracked.append_names.Goals as goal

pub loop-place-preserved : goal.loop-place-preserved
unfolding name_events
loop-place-preserved g c =
    placed_more (shown g.P.Printer.spell name_events bstring_bytes) c.args.names.now c.loop-place.place
    c.index-names-place.result c.args.text.now.bytes.items c.loop-place.text.bytes.items
    c.put-in-loop-place-2.new.text.bytes.items (omega (arith, c.loop-place-test.true)) c.loop-place.invariant
    (three_told g.P.Printer.spell _ _ _ _ c.in_ok-put.ensures
    (rw (c.as_bytes.ensures ∙ ap bstring_bytes c.index-names-place.is) at c.in_ok-put-2.ensures)
    c.in_ok-put-3.ensures)

pub returns : goal.returns
returns g c = all_listed g.P.Printer.spell name_events bstring_bytes c.args.text.now.bytes.items
    c.loop-place.text.bytes.items c.args.names.now c.loop-place.place (omega (arith, c.loop-place-test.false))
    c.loop-place.invariant
