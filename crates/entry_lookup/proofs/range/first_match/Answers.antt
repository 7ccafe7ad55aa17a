use Rattle.std.proofs.Common.{arith, sym, ◌∙◌, false, true}
use Rattle.entry_lookup.specs.RangeSteps.{is_wanted_at}
use Rattle.entry_lookup.proofs.Wanted.{first_end, first_other, first_some, other_at, wanted_at, within_more}
use Rattle.entry_lookup.proofs.range.first_match.Goals as goal

pub returns-then-is_ne-clause-answer : goal.returns-then-is_ne-clause-answer
returns-then-is_ne-clause-answer c = λ o parted enough.
    let rs = c.args.entries.now in
    first_other c.args.path.now c.args.wanted rs c.args.low parted c.loop-place.place c.loop-place.invariant o
    (omega arith) (omega (arith, c.loop-place-test.true, c.min-place-end.ensures, c.len.ensures))
    (other_at c.args.path.now c.args.entries.now c.loop-place.place c.path.result.now c.cmp_filepaths.result
    c.path.ensures c.cmp_filepaths.ensures.order (sym c.is_ne.ensures ∙ c.if-is_ne.true))

pub returns-then-is_wanted-clause-found : goal.returns-then-is_wanted-clause-found
returns-then-is_wanted-clause-found c = (
  omega (arith, c.loop-place-test.true, c.min-place-end.ensures, c.len.ensures),
  wanted_at c.args.path.now c.args.entries.now c.loop-place.place c.path.result.now c.cmp_filepaths.result
      c.path.ensures c.cmp_filepaths.ensures.order c.args.wanted true c.entry.result.now c.entry.ensures
      (sym c.is_ne.ensures ∙ c.if-is_ne.false) (sym c.if-is_wanted.true ∙ c.is_wanted.ensures),
)

pub returns-then-is_wanted-clause-answer : goal.returns-then-is_wanted-clause-answer
returns-then-is_wanted-clause-answer c = λ o parted enough.
    let rs = c.args.entries.now in
    first_some c.args.path.now c.args.wanted rs c.args.low parted c.loop-place.place c.loop-place.invariant
    (omega (arith, c.loop-place-test.true, c.min-place-end.ensures, c.len.ensures))
    (wanted_at c.args.path.now c.args.entries.now c.loop-place.place c.path.result.now c.cmp_filepaths.result
    c.path.ensures c.cmp_filepaths.ensures.order c.args.wanted true c.entry.result.now c.entry.ensures
    (sym c.is_ne.ensures ∙ c.if-is_ne.false) (sym c.if-is_wanted.true ∙ c.is_wanted.ensures))

pub loop-place-preserved : goal.loop-place-preserved
loop-place-preserved c =
    let rs = c.args.entries.now in
    within_more (is_wanted_at c.args.path.now c.args.wanted) rs c.args.low c.loop-place.place c.loop-place.invariant
    (wanted_at c.args.path.now c.args.entries.now c.loop-place.place c.path.result.now c.cmp_filepaths.result
    c.path.ensures c.cmp_filepaths.ensures.order c.args.wanted false c.entry.result.now c.entry.ensures
    (sym c.is_ne.ensures ∙ c.if-is_ne.false) (sym c.if-is_wanted.false ∙ c.is_wanted.ensures))

pub returns-clause-answer : goal.returns-clause-answer
returns-clause-answer c = λ o parted enough.
    let rs = c.args.entries.now in
    first_end c.args.path.now c.args.wanted rs c.args.low parted c.loop-place.place c.loop-place.invariant c.args.end
    (omega arith) (omega (arith, c.loop-place-test.false, c.min-place-end.ensures, c.len.ensures)) enough
