use Rattle.index_edit_laws.proofs.Counts.{counts_within}
use Rattle.index_edit_laws.proofs.RightTrees.{right_stays}
use Rattle.index_edit_laws.proofs.tree_stays_right.Goals as goal

pub returns-clause-right : goal.returns-clause-right
returns-clause-right c = right_stays

pub returns-clause-counts : goal.returns-clause-counts
returns-clause-counts c = counts_within
