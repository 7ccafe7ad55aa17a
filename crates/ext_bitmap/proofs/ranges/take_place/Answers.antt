use Rattle.std.proofs.Common.{◌++◌, ◌∙◌, ℕ, List, ap}
use Rattle.std.proofs.lemmas.Result.{IfOk-weaker}
use Rattle.std.specs.Prelude.{Some}
use Rattle.ext_bitmap.specs.RangeSteps.{ranges_behind}
use Rattle.ext_bitmap.proofs.RunLoops.{one_place}
use Rattle.ext_bitmap.proofs.ranges.take_place.Goals as goal

pub returns-in-Some : goal.returns-in-Some
returns-in-Some c = rw c.in-Some.is (IfOk-weaker c.take_run.result _ _
    (λ next h rest. h rest ∙ ap (λ (ps : List ℕ). c.args.ranges.now.items ++ ranges_behind (Some c.in-Some.range) ps)
    (one_place c.args.place rest))
    c.take_run.ensures)
