use Rattle.std.proofs.Common.{◌++◌, ◌∙◌, ap, length, refl}
use Rattle.std.specs.List.{flat_map}
use Rattle.index_parts.proofs.Puts.{puts_after, puts_is, puts_stopped}
use Rattle.index_parts.specs.Numbers.{be32}
use Rattle.ext_bitmap.specs.BitmapImage.{be64, last_run, borrowed_bitmap}
use Rattle.ext_bitmap.proofs.WrittenBitmaps.{bitmap_parts}
use Rattle.ext_bitmap.proofs.write.put.Goals as goal

pub returns-in_err-put_number : goal.returns-in_err-put_number
returns-in_err-put_number g c =
    let b = borrowed_bitmap c.args.bitmap in
    record {
      written = puts_stopped c.from_residual.result
          (be32 (length b.words) ++ (flat_map be64 b.words ++ be32 (last_run b.words)))
          c.from_residual.ensures.0 (bitmap_parts b) c.in_err-put_number.ensures;
    }

pub returns-in_err-put_number-2 : goal.returns-in_err-put_number-2
returns-in_err-put_number-2 g c =
    let b = borrowed_bitmap c.args.bitmap in
    let r = c.from_residual-in_err-put_number-2.result in
    record {
      written = puts_is r (bitmap_parts b) (puts_after r c.in_ok-put_number.ensures
          (puts_stopped r (flat_map be64 b.words ++ be32 (last_run b.words))
          c.from_residual-in_err-put_number-2.ensures.0 refl c.in_err-put_number-2.ensures));
    }

pub returns-in_err-put_words : goal.returns-in_err-put_words
returns-in_err-put_words g c =
    let b = borrowed_bitmap c.args.bitmap in
    let r = c.from_residual-in_err-put_words.result in
    record {
      written = puts_is r (bitmap_parts b) (puts_after r c.in_ok-put_number.ensures
          (puts_after r c.in_ok-put_number-2.ensures (puts_stopped r (be32 (last_run b.words))
          c.from_residual-in_err-put_words.ensures.0 refl c.in_err-put_words.ensures)));
    }

pub returns : goal.returns
returns g c =
    let b = borrowed_bitmap c.args.bitmap in
    let r = c.put_number-3.result in
    let whole = ap (λ n. be32 b.num_bits ++ (be32 (length b.words) ++ (flat_map be64 b.words ++ be32 n)))
    c.last_run.ensures ∙ bitmap_parts b in
    record {
      written = puts_is r whole (puts_after r c.in_ok-put_number.ensures (puts_after r c.in_ok-put_number-2.ensures
          (puts_after r c.in_ok-put_words.ensures c.put_number-3.ensures)));
    }
