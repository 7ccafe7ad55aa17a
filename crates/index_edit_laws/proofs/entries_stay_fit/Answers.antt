use Rattle.index_edit_laws.proofs.EntriesStayFit.{any_fit, checked_fit, entries_ordered}
use Rattle.index_edit_laws.proofs.MergedCounts.{merged_more}
use Rattle.index_edit_laws.proofs.entries_stay_fit.Goals as goal

pub returns-clause-ordered : goal.returns-clause-ordered
returns-clause-ordered c = entries_ordered

pub returns-clause-any : goal.returns-clause-any
returns-clause-any c = any_fit

pub returns-clause-checked : goal.returns-clause-checked
returns-clause-checked c = checked_fit

pub returns-clause-few : goal.returns-clause-few
returns-clause-few c = merged_more
