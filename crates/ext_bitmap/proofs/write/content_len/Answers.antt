use Rattle.std.proofs.Common.{◌+◌, ◌*◌, length, arith, sym, ap, ◌∙◌}
use Rattle.index_parts.specs.Numbers.{within_32}
use Rattle.ext_bitmap.specs.BitmapImage.{bitmap_bytes, borrowed_bitmap}
use Rattle.ext_bitmap.proofs.Lengths.{within_none, within_some}
use Rattle.ext_bitmap.proofs.WrittenBitmaps.{bitmap_len}
use Rattle.ext_bitmap.proofs.write.content_len.Goals as goal

pub returns-then-count-from : goal.returns-then-count-from
returns-then-count-from c =
    let b = borrowed_bitmap c.args.bitmap in
    sym (within_none (length (bitmap_bytes b)) (omega (arith, bitmap_len b, c.if-count-from.true, c.from.ensures)))

pub returns-then-len-from : goal.returns-then-len-from
returns-then-len-from c =
    let b = borrowed_bitmap c.args.bitmap in
    sym (within_none (length (bitmap_bytes b)) (omega (arith, bitmap_len b, c.if-len-from.true, c.from-2.ensures)))

pub returns : goal.returns
returns c =
    let b = borrowed_bitmap c.args.bitmap in
    sym (ap within_32 (bitmap_len b)
    ∙ within_some (12 + 8 * length b.words) (omega (arith, c.if-len-from.false, c.from-2.ensures)))
