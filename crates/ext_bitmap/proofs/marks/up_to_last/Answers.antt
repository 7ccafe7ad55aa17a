use Rattle.std.proofs.Common.{sym, ◌∙◌, arith}
use Rattle.ext_bitmap.proofs.MarkedItems.{marked_last, unmarked_last, none_marked, one_less}
use Rattle.ext_bitmap.proofs.marks.up_to_last.Goals as goal

pub returns-then-has_bit-clause-kept : goal.returns-then-has_bit-clause-kept
returns-then-has_bit-clause-kept g c =
    sym (marked_last (g.M.Marker.is_marked c.args.marker.now) c.loop-last.rest.now c.in-Some.before.now c.in-Some.last.now
    c.in-Some.ensures.cases.0 (sym c.has_bit.ensures ∙ c.if-has_bit.true)) ∙ c.loop-last.invariant.kept

pub loop-last-preserved : goal.loop-last-preserved
loop-last-preserved g c = record {
  kept = sym (unmarked_last (g.M.Marker.is_marked c.args.marker.now) c.loop-last.rest.now c.in-Some.before.now c.in-Some.last.now
      c.in-Some.ensures.cases.0 (sym c.has_bit.ensures ∙ c.if-has_bit.false)) ∙ c.loop-last.invariant.kept;
  few = omega (
    arith,
    one_less c.loop-last.rest.now c.in-Some.before.now c.in-Some.last.now c.in-Some.ensures.cases.0,
    c.loop-last.invariant.few,
  );
}

pub returns-clause-kept : goal.returns-clause-kept
returns-clause-kept g c =
    sym (none_marked (g.M.Marker.is_marked c.args.marker.now) c.loop-last.rest.now c.in_default.ensures.cases) ∙ c.loop-last.invariant.kept
