use Rattle.index_laws.proofs.Passing.{fit_names}
use Rattle.index_laws.proofs.ReadBack.{reads_back, stored_read_back}
use Rattle.index_laws.proofs.written_trees_read_back.Goals as goal

pub returns-clause-read : goal.returns-clause-read
returns-clause-read c = reads_back

pub returns-clause-names : goal.returns-clause-names
returns-clause-names c = fit_names

pub returns-clause-stored : goal.returns-clause-stored
returns-clause-stored c = stored_read_back
