use Rattle.std.proofs.Common.{◌∙◌, ap, sym, length, drop, arith}
use Rattle.std.specs.List.{flat_map}
use Rattle.std.proofs.lemmas.List.{drop_all}
use Rattle.ext_bitmap.specs.EncodedBitmap.{marked_words}
use Rattle.ext_bitmap.specs.EncodingSteps.{last_behind}
use Rattle.ext_bitmap.proofs.EncodedForms.{none_left}
use Rattle.ext_bitmap.proofs.encoding.form_of_chunks.Goals as goal

pub returns-clause-words : goal.returns-clause-words
returns-clause-words g c =
    let words = g.B.Words.words c.args.bits.now in
    let none = none_left (drop c.loop-place.place words)
    (drop_all c.loop-place.place words (omega (arith, c.loop-place-test.false, c.count-count.ensures.count))) in
    omega (arith, c.loop-place.invariant.words, ap (λ l. length (flat_map marked_words l)) none)

pub returns-clause-last : goal.returns-clause-last
returns-clause-last g c =
    let words = g.B.Words.words c.args.bits.now in
    let none = none_left (drop c.loop-place.place words)
    (drop_all c.loop-place.place words (omega (arith, c.loop-place-test.false, c.count-count.ensures.count))) in
    sym (ap (last_behind c.loop-place.words c.loop-place.last_run) none) ∙ c.loop-place.invariant.last
