use Rattle.std.proofs.Common.{Some}
use Rattle.view_events.specs.Marks.{end_events, marker_events}
use Rattle.view_events.proofs.Steps.{end_all, end_one, then_one}
use Rattle.view_events.proofs.marks.append_end.Goals as goal

pub returns-then-not-had : goal.returns-then-not-had
unfolding end_events
returns-then-not-had g c =
    let spell = g.P.Printer.spell in
    let r = c.put-then-not-had.result in
    let new = c.put-then-not-had.new.text.bytes.items in
    rw c.if-not-had.true (then_one spell r new (rw c.if-not-had.true at c.in_ok-put.ensures)
    (end_one spell r new _ _ c.put-then-not-had.ensures)).is

pub returns-in_default : goal.returns-in_default
unfolding end_events marker_events
returns-in_default g c =
    let spell = g.P.Printer.spell in
    let r = c.put-in_default.result in
    let new = c.put-in_default.new.text.bytes.items in
    rw (c.if-not-had.false, c.in_default.is) (then_one spell r new (rw c.if-not-had.false at c.in_ok-put.ensures)
    (end_one spell r new _ _ c.put-in_default.ensures)).is

pub returns : goal.returns
unfolding end_events marker_events
returns g c =
    let spell = g.P.Printer.spell in
    let r = c.put_all.result in
    let new = c.put_all.new.self.bytes.items in
    rw (c.if-not-had.false, c.in-Some.is) (then_one spell r new (rw c.if-not-had.false at c.in_ok-put.ensures)
    (end_all spell r new _ (marker_events (Some c.in-Some.mark)) (rw c.from.ensures at c.put_all.ensures))).is
