use Rattle.view_events.specs.Bitmaps.{bitmap_events}
use Rattle.view_events.proofs.Steps.{end_one, then_one}
use Rattle.view_events.proofs.bitmaps.append_bitmap.Goals as goal

pub returns : goal.returns
unfolding bitmap_events
returns g c =
    let spell = g.P.Printer.spell in
    let r = c.put-5.result in
    let new = c.put-5.new.text.bytes.items in
    (then_one spell r new c.in_ok-put.ensures
    (then_one spell r new (rw (c.from.ensures, c.num_bits.ensures) at c.in_ok-put-2.ensures)
    (then_one spell r new (rw (c.deref.ensures.value, c.in_ok-bits.ensures.ranges) at c.in_ok-put-3.ensures)
    (then_one spell r new (rw c.in_ok-bits.ensures.malformed at c.in_ok-put-4.ensures)
    (end_one spell r new _ _ c.put-5.ensures))))).is
