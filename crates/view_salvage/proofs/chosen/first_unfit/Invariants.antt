use Rattle.std.proofs.Common.{take}
use Rattle.view_salvage.specs.Accepted.{AreAcceptable}
use Rattle.view_salvage.proofs.chosen.first_unfit.Given as goal

abbrev pub invariant-loop-place : goal.invariant-loop-place
invariant-loop-place l = AreAcceptable l.kind (take l.place l.entries)
