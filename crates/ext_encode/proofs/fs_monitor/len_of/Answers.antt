use Rattle.std.proofs.Common.{◌≡◌, ◌+◌, length, arith, sym, ap, ◌∙◌}
use Rattle.index_parts.specs.Numbers.{within_32}
use Rattle.ext_bitmap.specs.BitmapImage.{bitmap_bytes}
use Rattle.ext_encode.specs.MonitorImage.{borrowed_monitor, monitor_bytes}
use Rattle.ext_bitmap.proofs.Lengths.{none_within, some_within, within_none, within_some}
use Rattle.ext_encode.proofs.WrittenMonitors.{monitor_len}
use Rattle.ext_encode.proofs.fs_monitor.len_of.Goals as goal

pub returns-in_err-size : goal.returns-in_err-size
returns-in_err-size c =
    let m = borrowed_monitor c.args.token.now c.args.dirty in
    let long = none_within (length (bitmap_bytes m.dirty)) c.in_err-size.ensures in
    c.from_residual.ensures ∙ sym (within_none (length (monitor_bytes m)) (omega (arith, monitor_len m, long)))

pub returns-then-len-from : goal.returns-then-len-from
returns-then-len-from c =
    let m = borrowed_monitor c.args.token.now c.args.dirty in
    let size = some_within (length (bitmap_bytes m.dirty)) c.in_ok-size.size c.in_ok-size.ensures in
    sym (within_none (length (monitor_bytes m)) (omega (
      arith,
      monitor_len m,
      size.0,
      c.from.ensures,
      c.from-2.ensures,
      c.token_len.ensures.len,
      c.if-len-from.true,
    )))

pub returns : goal.returns
returns c =
    let m = borrowed_monitor c.args.token.now c.args.dirty in
    let size = some_within (length (bitmap_bytes m.dirty)) c.in_ok-size.size c.in_ok-size.ensures in
    let len : 8 + c.token_len.result + c.from.result ≡ length (monitor_bytes m) =
    omega (arith, monitor_len m, size.0, c.from.ensures, c.token_len.ensures.len) in
    sym (ap within_32 (sym len)
    ∙ within_some (8 + c.token_len.result + c.from.result) (omega (arith, c.if-len-from.false, c.from-2.ensures)))
