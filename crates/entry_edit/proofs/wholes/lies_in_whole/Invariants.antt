use Rattle.std.proofs.Common.{◌≡◌, ℕ, ◌-◌, ◌<◌, ◌≤◌, false, get_or, take}
use Rattle.std.specs.List.{list_any}
use Rattle.entry_list.specs.Order.{IsStrictlyOrdered}
use Rattle.entry_edit.proofs.Arounds.{is_whole_at}
use Rattle.entry_edit.proofs.wholes.lies_in_whole.Given as goal

abbrev pub invariant-loop-at : goal.invariant-loop-at
invariant-loop-at l = (k : ℕ) → 1 ≤ k → k < l.at → get_or l.path (k - 1) 0 ≡ 47 → IsStrictlyOrdered l.entries
    → list_any (is_whole_at (take k l.path)) l.entries ≡ false
