use Rattle.std.proofs.Common.{arith, sym, ◌∙◌}
use Rattle.ext_small.specs.declared.index_entry_offset_table.Offset.{Offset}
use Rattle.base_text.proofs.Placed.{placed_more}
use Rattle.view_events.specs.Event.{listed}
use Rattle.view_events.specs.Marks.{block_events, blocks_events, table_events}
use Rattle.view_events.proofs.Listed.{self_listed, shown}
use Rattle.view_events.proofs.Steps.{end_one, one_told, then_all, then_one}
use Rattle.view_events.proofs.marks.append_table.Goals as goal

pub returns-then-not-had : goal.returns-then-not-had
unfolding table_events
returns-then-not-had g c =
    let spell = g.P.Printer.spell in
    let r = c.put-then-not-had.result in
    let new = c.put-then-not-had.new.text.bytes.items in
    rw c.if-not-had.true (then_one spell r new (rw c.if-not-had.true at c.in_ok-put.ensures)
    (end_one spell r new _ _ c.put-then-not-had.ensures)).is

pub returns-in_default : goal.returns-in_default
unfolding table_events blocks_events
returns-in_default g c =
    let spell = g.P.Printer.spell in
    let r = c.put-in_default.result in
    let new = c.put-in_default.new.text.bytes.items in
    rw (c.if-not-had.false, c.in_default.is) (then_one spell r new (rw c.if-not-had.false at c.in_ok-put.ensures)
    (end_one spell r new _ _ c.put-in_default.ensures)).is

pub loop-place-preserved : goal.loop-place-preserved
loop-place-preserved g c = placed_more (shown g.P.Printer.spell block_events (λ (o : Offset). o))
    c.deref-block-items.result.now c.loop-place.place _ c.put-2.new.text.bytes.items c.loop-place.text.bytes.items
    c.put-in-loop-place.new.text.bytes.items (omega (arith, c.loop-place-test.true)) c.loop-place.invariant
    (one_told g.P.Printer.spell _ _ c.in_ok-put-3.ensures)

pub returns : goal.returns
unfolding table_events blocks_events
returns g c =
    let spell = g.P.Printer.spell in
    let r = c.put-3.result in
    let new = c.put-3.new.text.bytes.items in
    let mid = c.put-2.new.text.bytes.items in
    let blocks = c.deref-block-items.result.now in
    rw (c.if-not-had.false, c.in-Some.is, sym c.deref-block-items.ensures.value)
    (then_one spell r new (rw c.if-not-had.false at c.in_ok-put.ensures)
    (then_one spell r new (rw (c.len.ensures ∙ sym c.deref-block-items.ensures.len) at c.in_ok-put-2.ensures)
    (then_all spell r new (listed block_events blocks)
    (self_listed spell block_events mid c.loop-place.text.bytes.items blocks c.loop-place.place
    (omega (arith, c.loop-place-test.false)) c.loop-place.invariant)
    (end_one spell r new _ _ c.put-3.ensures)))).is
