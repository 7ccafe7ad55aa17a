use Rattle.entry_list.proofs.Orders.{paths_total, same_path}
use Rattle.entry_list.proofs.Entry.cmp_filepaths.Goals as goal

pub returns-clause-equal : goal.returns-clause-equal
returns-clause-equal c = rw c.cmp.ensures (same_path c.args.a.now c.args.b.now)

pub returns-clause-total : goal.returns-clause-total
returns-clause-total c = paths_total
