use Rattle.std.proofs.Common.{rules, arith, ◌<◌, ◌≤◌, ◌∷◌, sym, ap, ◌∙◌, Result, ℕ}
use Rattle.ext_bitmap.specs.UnpackingSteps.{items_left}
use Rattle.ext_bitmap.specs.declared.ewah.iter.Malformed.{Malformed}
use Rattle.ext_encode.proofs.MonitorPlaces.{broken, none_left, past, run_ends, run_kept, taken}
use Rattle.ext_encode.proofs.fs_monitor.are_below.Goals as goal
use Rattle.ext_encode.proofs.fs_monitor.are_below.Goals.{else-first-end-via-then-first-end+else-limit-end}
use Rattle.ext_encode.proofs.fs_monitor.are_below.Goals.{else-first-end-via-else-first-end}

pub returns-in_default-position : goal.returns-in_default-position
returns-in_default-position c =
    let rest = items_left c.next.new.self in
    let step = c.in-Some.ensures.steps ∙ ap (λ (x : Result ℕ Malformed). x ∷ rest) c.in_default-position.is in
    sym (broken c.args.limit _ _ rest step) ∙ c.loop-position.invariant.2

pub returns-then-place-limit : goal.returns-then-place-limit
returns-then-place-limit c =
    let rest = items_left c.next.new.self in
    let step = c.in-Some.ensures.steps ∙ ap (λ (x : Result ℕ Malformed). x ∷ rest) c.in-Ok.is in
    sym (past c.args.limit c.in-Ok.place _ rest step c.if-place-limit.true) ∙ c.loop-position.invariant.2

pub returns-then-limit-end : goal.returns-then-limit-end
returns-then-limit-end c =
    let rest = items_left c.next.new.self in
    let run = c.pass_run-first.result in
    let step = c.in-Some.ensures.steps ∙ ap (λ (x : Result ℕ Malformed). x ∷ rest) c.in-Ok.is in
    sym (run_ends c.args.limit run.first run.end rest _ c.pass_run-first.ensures.passed c.if-first-end.true
    c.if-limit-end.true)
    ∙ sym (taken c.args.limit c.in-Ok.place _ rest step c.if-place-limit.false) ∙ c.loop-position.invariant.2

pub loop-position-preserved : goal.loop-position-preserved
loop-position-preserved c =
    let rest = items_left c.next.new.self in
    let run = c.pass_run-first.result in
    let step = c.in-Some.ensures.steps ∙ ap (λ (x : Result ℕ Malformed). x ∷ rest) c.in-Ok.is in
    let fits : run.first < run.end → run.end ≤ c.args.limit
    = elim c.else-first-end.branch [
      | else-first-end-via-then-first-end+else-limit-end w ↦ (λ lt. omega arith)
      | else-first-end-via-else-first-end w ↦ (λ lt. absurd (omega arith))
    ] in (
      search rules,
      search rules,
      sym (run_kept c.args.limit run.first run.end rest _ c.pass_run-first.ensures.passed fits)
          ∙ sym (taken c.args.limit c.in-Ok.place _ rest step c.if-place-limit.false) ∙ c.loop-position.invariant.2,
    )

pub returns : goal.returns
returns c = sym (none_left c.args.limit _ c.in_default.ensures.steps.0) ∙ c.loop-position.invariant.2
