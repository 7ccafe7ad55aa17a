use Rattle.std.proofs.Common.{arith, rules, ◌≡◌, ℕ, ◌-◌, true, false, sym, ◌∙◌}
use Rattle.base_search.specs.Halving.{is_before}
use Rattle.base_search.proofs.Parting.{before_middle, behind_middle}
use Rattle.entry_edit.proofs.near_end.gallop_back.Goals as goal

pub returns-then-is_lt : goal.returns-then-is_lt
returns-then-is_lt g c =
    let first : ℕ = c.loop-high.high - 1 - c.min-step.result in
    let told : is_before false c.compare.result ≡ true = sym c.is_lt.ensures ∙ c.if-is_lt.true in
    record {
      in_order = search rules;
      inside = search rules;
      around = λ rising. record {
        before = before_middle false (g.R.Ordered.answers c.args.places.now) first c.compare.result
            (omega (arith, c.loop-high-test.true, c.loop-high.invariant.in_range, c.loop-high.invariant.whole))
            c.compare.ensures told rising;
        behind = c.loop-high.invariant.behind rising;
      };
    }

pub loop-high-preserved : goal.loop-high-preserved
loop-high-preserved g c =
    let first : ℕ = c.loop-high.high - 1 - c.min-step.result in
    let told : is_before false c.compare.result ≡ false = sym c.is_lt.ensures ∙ c.if-is_lt.false in
    record {
      in_range = omega (arith, c.loop-high.invariant.in_range);
      whole = c.loop-high.invariant.whole;
      behind = behind_middle false (g.R.Ordered.answers c.args.places.now) first c.compare.result
          (omega (arith, c.loop-high-test.true, c.loop-high.invariant.in_range, c.loop-high.invariant.whole))
          c.compare.ensures told;
    }
