use Rattle.std.proofs.Common.{◌++◌, refl, arith}
use Rattle.index_parts.proofs.Puts.{puts_after, puts_is, puts_stopped}
use Rattle.index_parts.specs.Numbers.{be32}
use Rattle.ext_bitmap.specs.BitmapImage.{bitmap_bytes}
use Rattle.ext_bitmap.proofs.WrittenBitmaps.{bitmap_len}
use Rattle.ext_encode.specs.MonitorImage.{borrowed_monitor, token_bytes}
use Rattle.ext_encode.proofs.WrittenMonitors.{monitor_pieces}
use Rattle.ext_encode.proofs.fs_monitor.put_content.Goals as goal

pub returns-in_err-put_number : goal.returns-in_err-put_number
returns-in_err-put_number g c =
    let m = borrowed_monitor c.args.token.now c.args.dirty in
    let r = c.from_residual.result in
    puts_is r (monitor_pieces m c.version_of.result c.args.size c.version_of.ensures c.requires.size)
    (puts_stopped r (token_bytes m.token ++ (be32 c.args.size ++ bitmap_bytes m.dirty)) c.from_residual.ensures.0 refl
    c.in_err-put_number.ensures)

pub returns-in_err-put_token : goal.returns-in_err-put_token
returns-in_err-put_token g c =
    let m = borrowed_monitor c.args.token.now c.args.dirty in
    let r = c.from_residual-in_err-put_token.result in
    puts_is r (monitor_pieces m c.version_of.result c.args.size c.version_of.ensures c.requires.size)
    (puts_after r c.in_ok-put_number.ensures
    (puts_stopped r (be32 c.args.size ++ bitmap_bytes m.dirty) c.from_residual-in_err-put_token.ensures.0 refl
    c.in_err-put_token.ensures))

pub returns-in_err-put_number-2 : goal.returns-in_err-put_number-2
returns-in_err-put_number-2 g c =
    let m = borrowed_monitor c.args.token.now c.args.dirty in
    let r = c.from_residual-in_err-put_number-2.result in
    puts_is r (monitor_pieces m c.version_of.result c.args.size c.version_of.ensures c.requires.size)
    (puts_after r c.in_ok-put_number.ensures (puts_after r c.in_ok-put_token.ensures
    (puts_stopped r (bitmap_bytes m.dirty) c.from_residual-in_err-put_number-2.ensures.0 refl
    c.in_err-put_number-2.ensures)))

pub put-requires : goal.put-requires
put-requires g c = record {
  count = omega (
    arith,
    bitmap_len (borrowed_monitor c.args.token.now c.args.dirty).dirty,
    c.requires.size,
    c.ranges.size.fits,
  );
}

pub returns : goal.returns
returns g c =
    let m = borrowed_monitor c.args.token.now c.args.dirty in
    let r = c.put.result in
    puts_is r (monitor_pieces m c.version_of.result c.args.size c.version_of.ensures c.requires.size)
    (puts_after r c.in_ok-put_number.ensures (puts_after r c.in_ok-put_token.ensures
    (puts_after r c.in_ok-put_number-2.ensures c.put.ensures.written)))
