use Rattle.std.proofs.Common.{◌≡◌, false}
use Rattle.std.specs.List.{AllWithin}
use Rattle.entry_list.specs.Order.{IsStrictlyOrdered}
use Rattle.entry_edit.specs.Changes.{change_path}
use Rattle.entry_edit.specs.Wholes.{lies_in_whole}
use Rattle.entry_edit.proofs.wholes.first_in_whole.Given as goal

abbrev pub invariant-loop-at : goal.invariant-loop-at
invariant-loop-at l =
    IsStrictlyOrdered l.entries → AllWithin (λ c. lies_in_whole (change_path c) l.entries ≡ false) l.changes 0 l.at
