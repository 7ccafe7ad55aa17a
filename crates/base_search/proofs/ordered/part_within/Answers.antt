use Rattle.std.proofs.Common.{arith, ◌≡◌, ℕ, ◌+◌, ◌-◌, ◌/◌, true, false, sym, ◌∙◌}
use Rattle.base_search.proofs.Digits.{digits_left, digits_small}
use Rattle.base_search.specs.Halving.{is_before}
use Rattle.base_search.proofs.Parting.{before_middle, behind_middle}
use Rattle.base_search.proofs.ordered.part_within.Goals as goal

pub loop-low-init : goal.loop-low-init
loop-low-init g c = record {
  from = omega arith;
  in_order = c.requires.in_order;
  in_range = omega arith;
  cost = omega arith;
  some = λ h. omega arith;
  before = λ rising around. around.before;
  behind = λ rising around. around.behind;
}

pub overflow_add-count : goal.overflow_add-count
overflow_add-count g c = omega (
  arith,
  digits_left 0 (c.loop-low.high - c.loop-low.low) (omega arith) (omega arith),
  digits_small (c.args.end - c.args.start),
)

pub loop-low-preserved-then-passes : goal.loop-low-preserved-then-passes
loop-low-preserved-then-passes g c =
    let middle : ℕ = c.loop-low.low + (c.loop-low.high - c.loop-low.low) / 2 in
    let told : is_before c.args.after c.compare.result ≡ true = sym c.passes.ensures ∙ c.if-passes.true in
    record {
      from = omega arith;
      in_order = omega arith;
      in_range = omega arith;
      cost = omega (
        arith,
        digits_left (c.loop-low.high - (middle + 1)) (c.loop-low.high - c.loop-low.low) (omega arith) (omega arith),
      );
      some = λ h. omega arith;
      before = λ rising around. before_middle c.args.after
          (g.R.Ordered.answers c.args.places.now) middle c.compare.result (omega arith) c.compare.ensures told rising;
      behind = c.loop-low.invariant.behind;
    }

pub loop-low-preserved : goal.loop-low-preserved
loop-low-preserved g c =
    let middle : ℕ = c.loop-low.low + (c.loop-low.high - c.loop-low.low) / 2 in
    let told : is_before c.args.after c.compare.result ≡ false = sym c.passes.ensures ∙ c.if-passes.false in
    record {
      from = omega arith;
      in_order = omega arith;
      in_range = omega arith;
      cost = omega (
        arith,
        digits_left (middle - c.loop-low.low) (c.loop-low.high - c.loop-low.low) (omega arith) (omega arith),
      );
      some = λ h. omega arith;
      before = c.loop-low.invariant.before;
      behind = λ rising around. behind_middle c.args.after
          (g.R.Ordered.answers c.args.places.now) middle c.compare.result (omega arith) c.compare.ensures told rising;
    }
