use Rattle.std.proofs.Common.{◌++◌, ◌∙◌, List, ℕ, ap, arith, sym}
use Rattle.std.proofs.lemmas.List.{take_all}
use Rattle.std.proofs.lemmas.List.Folds.{flat_map-map}
use Rattle.std.specs.List.{flat_map}
use Rattle.view_events.specs.Event.{event_of}
use Rattle.view_events.proofs.printer.Text.put_all.Goals as goal

pub returns : goal.returns
returns g c =
    let spell = g.P.Printer.spell in
    c.loop-event.invariant
    ∙ ap (λ es. c.args.self.now.bytes.items ++ flat_map (λ e. spell (event_of e)) es)
    (take_all c.loop-event.event-index c.args.events.now (omega (arith, c.loop-event-test.false)))
    ∙ ap (λ (l : List ℕ). c.args.self.now.bytes.items ++ l) (sym (flat_map-map spell event_of c.args.events.now))
