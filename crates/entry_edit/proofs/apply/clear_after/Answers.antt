use Rattle.std.proofs.Common.{arith}
use Rattle.entry_edit.proofs.Clears.{clear_shared}
use Rattle.entry_edit.proofs.apply.clear_after.Goals as goal

pub returns-in-Stage-Stage : goal.returns-in-Stage-Stage
returns-in-Stage-Stage c = λ rs. rw (c.in-Stage-Stage.is-0, c.in-Stage-Stage.is-1) (
    clear_shared c.in-Stage-Stage.front.now c.in-Stage-Stage.path.now _ _ rs c.shared_len.result
    c.shared_len.ensures.value (omega arith))
