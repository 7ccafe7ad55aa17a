use Rattle.std.proofs.Common.{ap, arith}
use Rattle.ext_bitmap.specs.Bitmap.{bitmap}
use Rattle.ext_small.specs.FsMonitor.{monitor_of}
use Rattle.ext_encode.proofs.MonitorPlaces.{all_below}
use Rattle.ext_encode.proofs.fs_monitor.is_within.Goals as goal

pub returns-then-from-count : goal.returns-then-from-count
returns-then-from-count c =
    all_below (monitor_of c.args.monitor.now) (bitmap c.entry_dirty-dirty.result.now) c.args.count _
    c.are_below.result (ap bitmap c.entry_dirty-dirty.ensures)
    (omega (arith, c.from.ensures, c.num_bits.ensures, c.if-from-count.true)) c.positions.ensures.places
    c.are_below.ensures
