use Rattle.std.proofs.Common.{take}
use Rattle.view_salvage.specs.Laws.{AreWhole}
use Rattle.view_salvage.proofs.salvage.are_whole.Given as goal

abbrev pub invariant-loop-place : goal.invariant-loop-place
invariant-loop-place l = AreWhole (take l.place l.entries)
