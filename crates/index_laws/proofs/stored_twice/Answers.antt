use Rattle.index_model.proofs.Twice.{stored_twice}
use Rattle.index_laws.proofs.stored_twice.Goals as goal

pub returns : goal.returns
returns c = stored_twice
