use Rattle.std.proofs.Common.{Some, drop, take}
use Rattle.ext_small.specs.FsMonitor.{monitor_of}
use Rattle.view_events.specs.Bitmaps.{bitmap_events, monitor_events}
use Rattle.view_events.proofs.Steps.{end_one, then_all}
use Rattle.view_events.proofs.bitmaps.append_monitor.Goals as goal

pub returns-in_default : goal.returns-in_default
unfolding monitor_events
returns-in_default g c =
    rw c.in_default.is (end_one g.P.Printer.spell c.put.result c.put.new.text.bytes.items _ _ c.put.ensures).is

pub returns : goal.returns
unfolding monitor_events bitmap_events
returns g c =
    let spell = g.P.Printer.spell in
    let r = c.put-2.result in
    let new = c.put-2.new.text.bytes.items in
    rw c.in-Some.is (then_all spell r new (take 2 (monitor_events (Some (monitor_of c.in-Some.monitor.now))))
    (rw (c.event_of_token.ensures, c.token.ensures) at c.in_ok-put_all.ensures)
    (then_all spell r new (drop 2 (take 7 (monitor_events (Some (monitor_of c.in-Some.monitor.now)))))
    (rw c.entry_dirty.ensures at c.in_ok-append_bitmap.ensures)
    (end_one spell r new _ _ c.put-2.ensures))).is
