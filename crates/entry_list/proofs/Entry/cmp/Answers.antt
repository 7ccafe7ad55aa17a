use Rattle.entry_list.proofs.Orders.{records_total}
use Rattle.entry_list.proofs.Entry.cmp.Goals as goal

pub returns-clause-total : goal.returns-clause-total
returns-clause-total g c = records_total
