use Rattle.std.proofs.Common.{◌++◌}
use Rattle.std.specs.List.{flat_map}
use Rattle.index_parts.proofs.Puts.{puts_after, puts_is, puts_stopped}
use Rattle.index_parts.specs.Numbers.{be32}
use Rattle.ext_bitmap.specs.BitmapImage.{be64}
use Rattle.ext_bitmap.specs.EncodedBitmap.{encoded_words}
use Rattle.ext_bitmap.proofs.WrittenForms.{form_parts, stopped_behind}
use Rattle.ext_bitmap.proofs.encoding.put.Goals as goal

pub returns-in_err-put_number : goal.returns-in_err-put_number
returns-in_err-put_number g c =
    let words = g.B.Words.words c.args.bits.now in
    let form = c.form_of-words.result in
    let whole = form_parts c.args.num_bits words form.words form.last_run c.form_of-words.ensures.words
    c.form_of-words.ensures.last in
    record {
      written = puts_stopped c.from_residual.result
          (be32 form.words ++ (flat_map be64 (encoded_words words) ++ be32 form.last_run))
          c.from_residual.ensures.0 whole c.in_err-put_number.ensures;
    }

pub returns-in_err-put_number-2 : goal.returns-in_err-put_number-2
returns-in_err-put_number-2 g c =
    let words = g.B.Words.words c.args.bits.now in
    let form = c.form_of-words.result in
    let whole = form_parts c.args.num_bits words form.words form.last_run c.form_of-words.ensures.words
    c.form_of-words.ensures.last in
    record {
      written = stopped_behind c.from_residual-in_err-put_number-2.result
          (flat_map be64 (encoded_words words) ++ be32 form.last_run) c.from_residual-in_err-put_number-2.ensures.0 whole
          c.in_ok-put_number.ensures c.in_err-put_number-2.ensures;
    }

pub returns-in_err-put_words : goal.returns-in_err-put_words
returns-in_err-put_words g c =
    let words = g.B.Words.words c.args.bits.now in
    let form = c.form_of-words.result in
    let whole = form_parts c.args.num_bits words form.words form.last_run c.form_of-words.ensures.words
    c.form_of-words.ensures.last in
    record {
      written = stopped_behind c.from_residual-in_err-put_words.result (be32 form.last_run) c.from_residual-in_err-put_words.ensures.0 whole
          (puts_after _ c.in_ok-put_number.ensures c.in_ok-put_number-2.ensures) c.in_err-put_words.ensures;
    }

pub returns : goal.returns
returns g c =
    let words = g.B.Words.words c.args.bits.now in
    let form = c.form_of-words.result in
    let whole = form_parts c.args.num_bits words form.words form.last_run c.form_of-words.ensures.words
    c.form_of-words.ensures.last in
    record {
      written = puts_is c.put_number-3.result whole (puts_after c.put_number-3.result c.in_ok-put_number.ensures
          (puts_after c.put_number-3.result c.in_ok-put_number-2.ensures
          (puts_after c.put_number-3.result c.in_ok-put_words.ensures c.put_number-3.ensures)));
    }
