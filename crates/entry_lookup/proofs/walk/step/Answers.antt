use Rattle.std.proofs.Common.{List, length, map, subst, suc, ◌-◌, ◌<◌, ◌≡◌, arith}
use Rattle.std.specs.List.{HoldsAt}
use Rattle.std.specs.Prelude.{min}
use Rattle.std.proofs.lemmas.List.{length-map}
use Rattle.entry_lookup.specs.NameSteps.{named_value}
use Rattle.entry_lookup.specs.WalkSteps.{span_value}
use Rattle.entry_lookup.specs.declared.walk.Span.{Span}
use Rattle.entry_lookup.proofs.OpenSpans.{ok_so, step_is}
use Rattle.entry_lookup.proofs.walk.step.Goals as goal

pub returns : goal.returns
returns c =
    let visit = c.args.visit in
    let mid : List Span = c.close.new.live.items in
    let from = c.behind_last-from.result in
    let none : length mid ≡ 0 → from ≡ 0 =
    subst (λ (xs : List Span). length xs ≡ 0 → from ≡ 0) c.deref.ensures.value c.behind_last-from.ensures.none in
    let last : 0 < length mid → HoldsAt (λ s. from ≡ suc (min (length s.name) (length visit.name.now)))
    (map span_value mid) (length mid - 1) = subst (λ (xs : List Span). 0 < length xs
    → HoldsAt (λ s. from ≡ suc (min (length s.name) (length visit.name.now))) (map span_value xs) (length xs - 1))
    c.deref.ensures.value c.behind_last-from.ensures.last in
    let len : length (map span_value mid) ≡ length mid = length-map mid span_value in
    ok_so c.open_fronts.result _ _
    (λ opens. step_is c.args.own (named_value visit) c.args.shared from (map span_value c.args.live.now.items)
    (map span_value c.args.closed.now.items) (map span_value mid) (map span_value c.extend.new.live.items)
    (map span_value c.open_fronts.new.live.items) (map span_value c.close.new.closed.items)
    c.in_ok-close.ensures (λ e. none (omega arith)) (rw (← len) at last) c.extend.ensures opens)
    c.open_fronts.ensures
