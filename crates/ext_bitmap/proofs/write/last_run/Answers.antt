use Rattle.std.proofs.Common.{◌/◌, refl, ap, arith, ◌∙◌}
use Rattle.std.proofs.lemmas.List.{nil_from_length}
use Rattle.ext_bitmap.specs.BitmapImage.{last_run}
use Rattle.ext_bitmap.proofs.WrittenBitmaps.{no_run, run_at, run_ends}
use Rattle.ext_bitmap.proofs.write.last_run.Goals as goal

pub loop-run_word-preserved : goal.loop-run_word-preserved
loop-run_word-preserved c =
    let s = run_at c.in-Some.run_word.now (c.in-Some.run_word.now / 8589934592) c.loop-run_word.rest.now
    c.in-Some.behind.now c.split_at.result.1.now c.in-Some.ensures.cases.0 refl c.if-behind-literals.false
    c.split_at.ensures.back in
    let h = c.loop-run_word.invariant in
    record { inside = omega (arith, h.inside, s.1); so_far = omega (arith, h.so_far, s.0) }

pub returns-then-behind-literals : goal.returns-then-behind-literals
returns-then-behind-literals c =
    let rest = c.loop-run_word.rest.now in
    let none = ap last_run c.in-Some.ensures.cases.0
    ∙ run_ends c.in-Some.run_word.now c.in-Some.behind.now c.if-behind-literals.true in
    omega (arith, c.loop-run_word.invariant.so_far, none)

pub returns-in_default : goal.returns-in_default
returns-in_default c =
    let none = ap last_run (nil_from_length c.loop-run_word.rest.now c.in_default.ensures.cases) ∙ no_run in
    omega (arith, c.loop-run_word.invariant.so_far, none)
