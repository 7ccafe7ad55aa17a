use Rattle.std.specs.List.{AllWithin}
use Rattle.tool_errors.specs.Nuls.{LacksNul}
use Rattle.tool_errors.proofs.nul.first_with_nul.Given as goal

abbrev pub invariant-loop-place : goal.invariant-loop-place
invariant-loop-place l = AllWithin LacksNul l.entries 0 l.place
