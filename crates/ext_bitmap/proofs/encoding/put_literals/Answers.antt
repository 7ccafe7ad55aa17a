use Rattle.std.proofs.Common.{◌∙◌, subst}
use Rattle.index_parts.proofs.Puts.{puts_stopped_after}
use Rattle.index_parts.proofs.Taking.{Took-trans}
use Rattle.index_parts.specs.Taking.{Took}
use Rattle.ext_bitmap.proofs.WrittenForms.{between_rest, words_taken}
use Rattle.ext_bitmap.proofs.encoding.put_literals.Goals as goal

pub returns-in_err-put_word : goal.returns-in_err-put_word
returns-in_err-put_word g c =
    let words = g.B.Words.words c.args.bits.now in
    let place = c.loop-place.place in
    puts_stopped_after c.from_residual.result _ c.from_residual.ensures.0
    (between_rest words c.args.first place c.args.end c.word.result c.loop-place.auto.place c.loop-place-test.true
    c.word.ensures) c.loop-place.invariant.so_far c.loop-place.invariant.loan c.in_err-put_word.ensures

pub loop-place-preserved : goal.loop-place-preserved
loop-place-preserved g c =
    let words = g.B.Words.words c.args.bits.now in
    let place = c.loop-place.place in
    let h = c.loop-place.invariant in
    record {
      going = c.in_ok-put_word.ensures.failed ∙ h.going;
      loan = c.in_ok-put_word.ensures.loan ∙ h.loan;
      so_far = subst (Took g.W.Out.taken g.W.Out.hashed c.args.out.now c.put_word.new.out)
          (words_taken words c.args.first place c.word.result _ c.loop-place.auto.place c.word.ensures)
          (Took-trans h.so_far c.in_ok-put_word.ensures.takes);
    }
