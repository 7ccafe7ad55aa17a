use Rattle.std.proofs.Common.{◌∙◌, ap, sym, arith}
use Rattle.std.specs.List.{flat_map}
use Rattle.index_parts.proofs.Puts.{puts_is}
use Rattle.ext_bitmap.specs.BitmapImage.{be64}
use Rattle.ext_bitmap.proofs.EncodedForms.{encoded_none, encoded_some}
use Rattle.ext_bitmap.proofs.encoding.put_words.Goals as goal

pub returns-then-count-eq0 : goal.returns-then-count-eq0
returns-then-count-eq0 g c =
    let words = g.B.Words.words c.args.bits.now in
    let none = encoded_none words (omega (arith, c.count.ensures.count, c.if-count-eq0.true)) in
    puts_is c.put_word.result (ap (flat_map be64) (sym none)) c.put_word.ensures

pub returns : goal.returns
returns g c =
    let words = g.B.Words.words c.args.bits.now in
    let some = encoded_some words (λ e. c.if-count-eq0.false (c.count.ensures.count ∙ e)) in
    puts_is c.put_chunks.result (ap (flat_map be64) some) c.put_chunks.ensures
