use Rattle.std.proofs.Common.{arith, ◌-◌, sym, ap, ◌∙◌}
use Rattle.std.proofs.lemmas.Bool.{false≢true}
use Rattle.std.specs.Ordering.{is_lt}
use Rattle.entry_list.proofs.Falls.{isnt_ordered, rises_before}
use Rattle.entry_list.proofs.slice.EntrySlice.is_ordered.Goals as goal

pub returns-then-is_lt : goal.returns-then-is_lt
returns-then-is_lt c = (
  λ f. absurd (false≢true f),
  λ s. absurd (isnt_ordered c.args.self.now (c.loop-i.i - 1)
      (omega arith) (omega arith) (λ d. ap is_lt (c.compare.ensures d) ∙ sym c.is_lt.ensures ∙ c.if-is_lt.true) s),
)

pub loop-i-preserved : goal.loop-i-preserved
loop-i-preserved c = rises_before c.args.self.now c.loop-i.i c.loop-i-test.true c.loop-i.invariant
    (λ d. ap is_lt (c.compare.ensures d) ∙ sym c.is_lt.ensures ∙ c.if-is_lt.false)
