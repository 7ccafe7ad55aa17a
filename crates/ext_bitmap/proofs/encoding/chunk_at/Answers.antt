use Rattle.std.proofs.Common.{◌≡◌, ◌⊎◌, inl, inr, arith}
use Rattle.ext_bitmap.proofs.MarkedWords.{literals_at, run_at}
use Rattle.ext_bitmap.proofs.encoding.chunk_at.Goals as goal
use Rattle.ext_bitmap.proofs.encoding.chunk_at.Goals.{else-first-ne0-via-then-first-ne0+else-first, else-first-ne0-via-else-first-ne0}

pub returns-then-first-clause-chunk : goal.returns-then-first-clause-chunk
returns-then-first-clause-chunk g c =
    let words = g.B.Words.words c.args.bits.now in
    (literals_at words c.args.place c.literals_end.result c.word-first.result _ c.word-first.ensures
    (c.if-first-ne0.true, c.if-first.true) c.literals_end.ensures.behind c.literals_end.ensures.literal
    c.literals_end.ensures.ends).1

pub returns-clause-chunk : goal.returns-clause-chunk
returns-clause-chunk g c =
    let words = g.B.Words.words c.args.bits.now in
    let alike : (c.word-first.result ≡ 0) ⊎ (c.word-first.result ≡ 18446744073709551615) =
    elim c.else-first-ne0.branch [
      | else-first-ne0-via-then-first-ne0+else-first w ↦ inr w.if-first.false
      | else-first-ne0-via-else-first-ne0 w ↦ inl w.if-first-ne0.false
    ] in
    (run_at words c.args.place c.run_end-literals.result c.literals_end-2.result c.word-first.result _
    c.word-first.ensures alike c.run_end-literals.ensures.behind c.literals_end-2.ensures.behind
    c.run_end-literals.ensures.run c.run_end-literals.ensures.ends c.literals_end-2.ensures.literal
    c.literals_end-2.ensures.ends).1

pub returns-then-first-clause-inside : goal.returns-then-first-clause-inside
returns-then-first-clause-inside g c = c.literals_end.ensures.inside (omega (arith, c.requires))

pub returns-clause-inside : goal.returns-clause-inside
returns-clause-inside g c =
    c.literals_end-2.ensures.inside (c.run_end-literals.ensures.inside (omega (arith, c.requires)))
