use Rattle.std.proofs.Common.{◌≡◌, length, map, take}
use Rattle.std.specs.List.{list_any}
use Rattle.entry_list.specs.Order.{IsStrictlyOrdered}
use Rattle.index_edit.specs.Dirty.{is_replaced}
use Rattle.index_edit.specs.DirtySteps.{either}
use Rattle.index_edit.proofs.dirty.mark_changes.Given as goal

-- the bits of the entries that the changes so far stage are set
abbrev pub invariant-loop-change : goal.invariant-loop-change
invariant-loop-change l = record {
  len : length l.bits ≡ length l.initial.bits;
  marked : length l.initial.bits ≡ length l.entries → IsStrictlyOrdered l.entries → l.bits ≡ either l.initial.bits
      (map (λ r. list_any (λ c. is_replaced c r) (take l.change-index l.changes)) l.entries);
}
