use Rattle.std.proofs.Common.{◌≡◌, ◌++◌, take}
use Rattle.std.specs.List.{flat_map}
use Rattle.view_events.specs.Event.{event_of}
use Rattle.view_events.proofs.printer.Text.put_all.Given as goal

-- the events before this one were put
abbrev pub invariant-loop-event : goal.invariant-loop-event
invariant-loop-event g l = l.self.bytes.items
    ≡ l.fn.self.bytes.items ++ flat_map (λ e. g.P.Printer.spell (event_of e)) (take l.event-index l.events)
