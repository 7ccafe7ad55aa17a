use Rattle.std.proofs.Common.{◌≡◌, length}
use Rattle.entry_edit.specs.Refusals.{names_fault, names_of}
use Rattle.entry_edit.proofs.refusals.check_names.Given as goal

abbrev pub invariant-loop-at : goal.invariant-loop-at
invariant-loop-at g l = names_fault (g.C.ComponentCheck.refusal l.check) l.fn.kind (names_of l.fn.path)
    ≡ names_fault (g.C.ComponentCheck.refusal l.check) l.fn.kind (names_of l.rest)

abbrev pub decreases-loop-at : goal.decreases-loop-at
decreases-loop-at g l = length l.rest
