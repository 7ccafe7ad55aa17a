use Rattle.std.proofs.Common.{◌++◌, ◌∙◌, [], ◌∷◌, List, ap, append_assoc, arith}
use Rattle.ext_bitmap.specs.RangeSteps.{ranges_behind}
use Rattle.ext_bitmap.specs.declared.ranges.Range.{Range}
use Rattle.std.specs.Prelude.{Some}
use Rattle.ext_bitmap.proofs.RunLoops.{run_apart, run_joins}
use Rattle.ext_bitmap.proofs.ranges.take_run.Goals as goal

pub returns-then-run-begun : goal.returns-then-run-begun
returns-then-run-begun c = λ rest.
    ap (λ (l : List Range). c.args.ranges.now.items ++ l)
    (run_joins c.args.begun c.args.run rest (omega arith) c.if-run-begun.true)

pub returns : goal.returns
returns c = λ rest.
    let old = c.args.ranges.now.items in
    ap (λ (l : List Range). l ++ ranges_behind (Some c.args.run) rest) c.in_ok-push.ensures.items
    ∙ append_assoc old (c.args.begun ∷ []) (ranges_behind (Some c.args.run) rest)
    ∙ ap (λ (l : List Range). old ++ l) (run_apart c.args.begun c.args.run rest (omega arith) c.if-run-begun.false)
