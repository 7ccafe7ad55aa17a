use Rattle.std.proofs.Common.{◌∷◌, [], All, sym, subst, arith}
use Rattle.std.proofs.lemmas.List.Elements.{All-nil, All-cons, All-append}
use Rattle.ext_bitmap.specs.EncodingSteps.{IsLiteral, words_between}
use Rattle.ext_bitmap.proofs.MarkedWords.{between_next}
use Rattle.ext_bitmap.proofs.encoding.literals_end.Goals as goal

pub loop-end-preserved : goal.loop-end-preserved
loop-end-preserved g c =
    let words = g.B.Words.words c.args.bits.now in
    let h = c.loop-end.invariant in
    let word = c.word-word.result in
    record {
      behind = omega (arith, h.behind);
      inside = λ h. omega (arith, c.loop-end-test.true, c.count-count.ensures.count);
      so_far = subst (All IsLiteral)
          (sym (between_next words c.args.place c.loop-end.end word _ h.behind c.word-word.ensures))
          (All-append IsLiteral (words_between c.args.place c.loop-end.end words) (word ∷ []) h.so_far
          (All-cons IsLiteral word [] (c.if-word-eq0.false, c.if-word.false) (All-nil IsLiteral)));
    }
