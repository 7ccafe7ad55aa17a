use Rattle.std.specs.List.{AllWithin}
use Rattle.view_strict.specs.Strict.{IsSoundIn}
use Rattle.view_strict.proofs.verify.verify_strict.Given as goal

abbrev pub invariant-loop-place : goal.invariant-loop-place
invariant-loop-place l = AllWithin (IsSoundIn l.kind l.entries) l.entries 0 l.place
