use Rattle.std.proofs.Common.{◌≡◌, false}
use Rattle.std.specs.List.{AllWithin}
use Rattle.view_strict.specs.Beside.{lies_in}
use Rattle.view_strict.proofs.beside.first_in.Given as goal

abbrev pub invariant-loop-place : goal.invariant-loop-place
invariant-loop-place l = AllWithin (λ r. lies_in l.whole l.path l.stage r ≡ false) l.entries 0 l.place
