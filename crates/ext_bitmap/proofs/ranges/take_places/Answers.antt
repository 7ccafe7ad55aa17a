use Rattle.std.proofs.Common.{rules, arith, ◌<◌, ◌≤◌, ◌∷◌, sym, ap, ◌∙◌, Result, ℕ}
use Rattle.ext_bitmap.specs.UnpackingSteps.{items_left}
use Rattle.ext_bitmap.specs.declared.ewah.iter.Malformed.{Malformed}
use Rattle.ext_bitmap.proofs.RangeLoops.{broken, ended_broken, ended_past, ended_whole, fault_left, no_fault_left}
use Rattle.ext_bitmap.proofs.RangeLoops.{no_fault_past, place_taken}
use Rattle.ext_bitmap.proofs.RunLoops.{after_last, after_run, run_ends, run_kept}
use Rattle.ext_bitmap.proofs.ranges.take_places.Goals as goal
use Rattle.ext_bitmap.proofs.ranges.take_places.Goals.{else-first-end-via-then-first-end+else-limit-end}
use Rattle.ext_bitmap.proofs.ranges.take_places.Goals.{else-first-end-via-else-first-end}

pub loop-position-preserved : goal.loop-position-preserved
loop-position-preserved c =
    let rest = items_left c.next.new.self in
    let items = items_left c.pass_run-first.new.self in
    let first = c.pass_run-first.result.first in
    let end = c.pass_run-first.result.end in
    let step = c.in-Some.ensures.steps ∙ ap (λ (x : Result ℕ Malformed). x ∷ rest) c.in-Ok.is in
    let fits : first < end → end ≤ c.args.limit
    = elim c.else-first-end.branch [
      | else-first-end-via-then-first-end+else-limit-end w ↦ (λ lt. omega arith)
      | else-first-end-via-else-first-end w ↦ (λ lt. absurd (omega arith))
    ] in
    let kept = run_kept c.args.limit first end c.min.result rest items c.pass_run-first.ensures.passed c.min.ensures
    fits in
    let before = place_taken c.args.limit c.in-Ok.place _ rest c.loop-position.begun c.in_ok-range.range
    c.loop-position.ranges.items c.take_place.new.ranges.items _ step (omega arith) c.in_ok-range.ensures
    c.loop-position.invariant.2 in (
      search rules,
      search rules,
      after_run c.args.limit first c.min.result c.in_ok-range.range c.in_ok-take_run.field-0
          c.take_place.new.ranges.items
          c.take_run.new.ranges.items _ rest items kept c.in_ok-take_run.ensures before,
      sym kept.1 ∙ fault_left c.args.limit c.in-Ok.place _ rest _ step (omega arith) c.loop-position.invariant.3,
    )

pub returns-then-limit-end-clause-ranges : goal.returns-then-limit-end-clause-ranges
returns-then-limit-end-clause-ranges c =
    let rest = items_left c.next.new.self in
    let items = items_left c.pass_run-first.new.self in
    let first = c.pass_run-first.result.first in
    let end = c.pass_run-first.result.end in
    let step = c.in-Some.ensures.steps ∙ ap (λ (x : Result ℕ Malformed). x ∷ rest) c.in-Ok.is in
    let last = run_ends c.args.limit first end c.min.result rest items c.pass_run-first.ensures.passed c.min.ensures
    (omega arith) (omega arith) in
    let before = place_taken c.args.limit c.in-Ok.place _ rest c.loop-position.begun c.in_ok-range.range
    c.loop-position.ranges.items c.take_place.new.ranges.items _ step (omega arith) c.in_ok-range.ensures
    c.loop-position.invariant.2 in
    after_last c.args.limit first c.min.result c.in_ok-range.range c.in_ok-take_run.field-0
    c.take_place.new.ranges.items
    c.take_run.new.ranges.items c.end_range-then-limit-end.new.ranges.items _ rest last c.in_ok-take_run.ensures
    before c.in_ok-end_range-3.ensures

pub returns-then-limit-end-clause-malformed : goal.returns-then-limit-end-clause-malformed
returns-then-limit-end-clause-malformed c =
    let rest = items_left c.next.new.self in
    let items = items_left c.pass_run-first.new.self in
    let first = c.pass_run-first.result.first in
    let end = c.pass_run-first.result.end in
    let step = c.in-Some.ensures.steps ∙ ap (λ (x : Result ℕ Malformed). x ∷ rest) c.in-Ok.is in
    let last = run_ends c.args.limit first end c.min.result rest items c.pass_run-first.ensures.passed c.min.ensures
    (omega arith) (omega arith) in
    sym last.1 ∙ fault_left c.args.limit c.in-Ok.place _ rest _ step (omega arith) c.loop-position.invariant.3

pub returns-in_default-position-clause-ranges : goal.returns-in_default-position-clause-ranges
returns-in_default-position-clause-ranges c =
    let rest = items_left c.next.new.self in
    let step = c.in-Some.ensures.steps ∙ ap (λ (x : Result ℕ Malformed). x ∷ rest) c.in_default-position.is in
    ended_broken c.args.limit _ _ rest c.loop-position.begun c.loop-position.ranges.items
    c.end_range.new.ranges.items _ step c.in_ok-end_range.ensures c.loop-position.invariant.2

pub returns-in_default-position-clause-malformed : goal.returns-in_default-position-clause-malformed
returns-in_default-position-clause-malformed c =
    let rest = items_left c.next.new.self in
    let step = c.in-Some.ensures.steps ∙ ap (λ (x : Result ℕ Malformed). x ∷ rest) c.in_default-position.is in
    broken c.args.limit _ _ rest _ step c.loop-position.invariant.3

pub returns-then-place-limit-clause-ranges : goal.returns-then-place-limit-clause-ranges
returns-then-place-limit-clause-ranges c =
    let rest = items_left c.next.new.self in
    let step = c.in-Some.ensures.steps ∙ ap (λ (x : Result ℕ Malformed). x ∷ rest) c.in-Ok.is in
    ended_past c.args.limit c.in-Ok.place _ rest c.loop-position.begun c.loop-position.ranges.items
    c.end_range-then-place-limit.new.ranges.items _ step (omega arith) c.in_ok-end_range-2.ensures
    c.loop-position.invariant.2

pub returns-then-place-limit-clause-malformed : goal.returns-then-place-limit-clause-malformed
returns-then-place-limit-clause-malformed c =
    let rest = items_left c.next.new.self in
    let step = c.in-Some.ensures.steps ∙ ap (λ (x : Result ℕ Malformed). x ∷ rest) c.in-Ok.is in
    no_fault_past c.args.limit c.in-Ok.place _ rest _ step (omega arith) c.loop-position.invariant.3

pub returns-clause-ranges : goal.returns-clause-ranges
returns-clause-ranges c =
    ended_whole c.args.limit _ c.loop-position.begun c.loop-position.ranges.items c.end_range-2.new.ranges.items _
    c.in_default.ensures.steps.0 c.in_ok-end_range-4.ensures c.loop-position.invariant.2

pub returns-clause-malformed : goal.returns-clause-malformed
returns-clause-malformed c = no_fault_left c.args.limit _ _ c.in_default.ensures.steps.0 c.loop-position.invariant.3
