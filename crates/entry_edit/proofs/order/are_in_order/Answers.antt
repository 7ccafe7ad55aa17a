use Rattle.std.proofs.Common.{rules}
use Rattle.entry_edit.proofs.Orderings.{rising_changes}
use Rattle.entry_edit.proofs.order.are_in_order.Goals as goal

pub returns : goal.returns
returns c = λ t. rising_changes _ _ (λ a r f' k. search rules) c.args.changes.now c.is_sorted_by.result c.is_sorted_by.ensures.cases t
