use Rattle.std.proofs.Common.{arith, false, refl, sym, ◌∙◌, ◌-◌}
use Rattle.base_search.proofs.Parting.{bracket_around, gap_behind, gap_other}
use Rattle.base_search.proofs.Digits.{count_small}
use Rattle.base_search.proofs.ordered.search_within.Goals as goal

pub returns-then-low-end-clause-absent : goal.returns-then-low-end-clause-absent
returns-then-low-end-clause-absent g c = λ rising bracket. gap_behind (g.R.Ordered.answers c.args.places.now)
    c.args.start c.args.end c.part_within-low.result.0 bracket (c.part_within-low.ensures.parts rising
    (bracket_around false (g.R.Ordered.answers c.args.places.now) c.args.start c.args.end bracket)) c.if-low-end.true

pub overflow_add-result : goal.overflow_add-result
overflow_add-result g c =
    omega (
      arith,
      c.if-low-end.false,
      count_small (c.args.end - c.args.start) (c.args.end - c.args.start)
          c.part_within-low.result.1 refl (omega (arith, c.if-low-end.false)) c.part_within-low.ensures.count,
    )

pub overflow_add-result-2 : goal.overflow_add-result-2
overflow_add-result-2 g c =
    omega (
      arith,
      c.if-low-end.false,
      count_small (c.args.end - c.args.start) (c.args.end - c.args.start)
          c.part_within-low.result.1 refl (omega (arith, c.if-low-end.false)) c.part_within-low.ensures.count,
    )

pub returns-clause-absent : goal.returns-clause-absent
returns-clause-absent g c = λ rising bracket. gap_other (g.R.Ordered.answers c.args.places.now)
    c.part_within-low.result.0 c.compare.result rising (c.part_within-low.ensures.parts rising
    (bracket_around false (g.R.Ordered.answers c.args.places.now) c.args.start c.args.end bracket))
    (omega (arith, c.if-low-end.false)) c.compare.ensures (sym c.is_eq.ensures ∙ c.if-is_eq.false)
