use Rattle.std.proofs.Common.{◌≡◌, false}
use Rattle.std.specs.List.{AllWithin}
use Rattle.entry_edit.specs.Changes.{change_path}
use Rattle.entry_edit.specs.Reorders.{has_within}
use Rattle.entry_edit.proofs.order.are_nested.Given as goal

abbrev pub invariant-loop-place : goal.invariant-loop-place
invariant-loop-place l = AllWithin (λ c. has_within l.changes (change_path c) ≡ false) l.changes 0 l.place
