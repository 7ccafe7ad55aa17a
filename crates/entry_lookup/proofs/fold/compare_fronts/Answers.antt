use Rattle.std.proofs.Common.{arith, sym, true, ◌∙◌, ◌-◌}
use Rattle.entry_lookup.specs.Folded.{folded}
use Rattle.entry_lookup.proofs.Fronts.{last_decides, same_front, word_decides, word_same}
use Rattle.entry_lookup.proofs.fold.compare_fronts.Goals as goal

pub returns-then-is_ne : goal.returns-then-is_ne
returns-then-is_ne c = word_decides c.args.a.now c.args.b.now c.loop-at.at c.compare_words-order.result (omega arith)
    (omega arith) c.compare_words-order.ensures c.loop-at.invariant.same (sym c.is_ne.ensures ∙ c.if-is_ne.true)

pub loop-at-preserved : goal.loop-at-preserved
loop-at-preserved c = record {
  within = omega arith;
  same = word_same c.args.a.now c.args.b.now c.loop-at.at c.compare_words-order.result (omega arith)
      (omega arith) c.compare_words-order.ensures c.loop-at.invariant.same (sym c.is_ne.ensures ∙ c.if-is_ne.false);
}

pub returns : goal.returns
returns c =
    let last = c.min-end.result - 8 in
    last_decides c.args.a.now c.args.b.now last c.compare_words.result (omega arith)
    (omega arith) c.compare_words.ensures (same_front last c.loop-at.at (folded true c.args.a.now)
    (folded true c.args.b.now) (omega arith) c.loop-at.invariant.same) (omega arith)
