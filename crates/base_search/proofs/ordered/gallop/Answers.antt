use Rattle.std.proofs.Common.{arith, ◌≡◌, ℕ, ◌+◌, true, false, sym, ◌∙◌}
use Rattle.base_search.specs.Halving.{is_before}
use Rattle.base_search.proofs.Parting.{before_middle, behind_middle}
use Rattle.base_search.proofs.ordered.gallop.Goals as goal

pub returns-then-not-passes-clause-around : goal.returns-then-not-passes-clause-around
returns-then-not-passes-clause-around g c =
    let last : ℕ = c.loop-low.low + c.min-step.result in
    let told : is_before true c.compare.result ≡ false = sym c.passes.ensures ∙ c.if-not-passes.true in
    λ rising front. record {
      before = c.loop-low.invariant.before rising front;
      behind = behind_middle true (g.R.Ordered.answers c.args.places.now) last c.compare.result
          (omega arith) c.compare.ensures told rising;
    }

pub loop-low-preserved : goal.loop-low-preserved
loop-low-preserved g c =
    let last : ℕ = c.loop-low.low + c.min-step.result in
    let told : is_before true c.compare.result ≡ true = sym c.passes.ensures ∙ c.if-not-passes.false in
    record {
      from = omega arith;
      in_range = omega arith;
      whole = c.loop-low.invariant.whole;
      before = λ rising front. before_middle true (g.R.Ordered.answers c.args.places.now) last c.compare.result
          (omega arith) c.compare.ensures told rising;
    }
