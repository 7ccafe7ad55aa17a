use Rattle.std.proofs.Common.{◌≡◌, drop}
use Rattle.entry_edit.specs.Changes.{refusal_from}
use Rattle.entry_edit.proofs.change.check_each.Given as goal

abbrev pub invariant-loop-at : goal.invariant-loop-at
invariant-loop-at g l = refusal_from (g.C.ComponentCheck.refusal l.check) l.kind l.len 0 l.changes
    ≡ refusal_from (g.C.ComponentCheck.refusal l.check) l.kind l.grown l.at (drop l.at l.changes)
