use Rattle.std.proofs.Common.{◌≡◌, ◌∙◌, sym, arith, []}
use Rattle.std.proofs.lemmas.List.{nil_from_length}
use Rattle.ext_bitmap.specs.UnpackingSteps.{next_place, items_left}
use Rattle.ext_bitmap.proofs.Places.{step_literal, step_end}
use Rattle.ext_bitmap.proofs.ewah.iter.PositionsIterator.next.Goals as goal

pub returns-in_err-word-clause-steps : goal.returns-in_err-word-clause-steps
returns-in_err-word-clause-steps c =
    let s = c.loop-self.self in
    let no_run : s.ones ≡ 0 = omega arith in
    let no_bits : s.bits ≡ 0 = omega arith in
    let over : items_left s ≡ [] =
    step_end s.ones s.bits s.literals no_run no_bits s.is_broken c.if-self.false s.word (next_place s.place)
    s.words.now (nil_from_length _ c.in_err-word.ensures.cases) in
    rw c.from_residual.ensures (sym c.loop-self.invariant ∙ over, over)

pub loop-self-preserved-then-self-gt0-3 : goal.loop-self-preserved-then-self-gt0-3
loop-self-preserved-then-self-gt0-3 c =
    let s = c.loop-self.self in
    let no_run : s.ones ≡ 0 = omega arith in
    let no_bits : s.bits ≡ 0 = omega arith in
    step_literal s.ones s.bits s.literals no_run no_bits s.is_broken c.if-self.false s.word (next_place s.place)
    s.words.now c.in_ok-word.rest.now c.in_ok-word.word.now c.if-self-gt0-3.true c.in_ok-word.ensures.cases.0
    ∙ c.loop-self.invariant
