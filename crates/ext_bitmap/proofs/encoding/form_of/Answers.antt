use Rattle.std.proofs.Common.{◌∙◌, ap, sym, length, arith}
use Rattle.ext_bitmap.specs.BitmapImage.{last_run}
use Rattle.ext_bitmap.proofs.EncodedForms.{encoded_none, encoded_some, last_there, one_run}
use Rattle.ext_bitmap.proofs.encoding.form_of.Goals as goal

pub returns-then-count-eq0-clause-words : goal.returns-then-count-eq0-clause-words
returns-then-count-eq0-clause-words g c =
    let words = g.B.Words.words c.args.bits.now in
    omega (arith, ap length (encoded_none words (omega (arith, c.count.ensures.count, c.if-count-eq0.true))))

pub returns-then-count-eq0-clause-last : goal.returns-then-count-eq0-clause-last
returns-then-count-eq0-clause-last g c =
    let words = g.B.Words.words c.args.bits.now in
    let none = encoded_none words (omega (arith, c.count.ensures.count, c.if-count-eq0.true)) in
    sym (ap last_run none ∙ one_run)

pub returns-clause-words : goal.returns-clause-words
returns-clause-words g c =
    let words = g.B.Words.words c.args.bits.now in
    let some = encoded_some words (λ e. c.if-count-eq0.false (c.count.ensures.count ∙ e)) in
    c.form_of_chunks.ensures.words ∙ ap length some

pub returns-clause-last : goal.returns-clause-last
returns-clause-last g c =
    let words = g.B.Words.words c.args.bits.now in
    c.form_of_chunks.ensures.last
    ∙ last_there words (omega (arith, c.count.ensures.count, c.count.ensures.few))
    (λ e. c.if-count-eq0.false (c.count.ensures.count ∙ e))
