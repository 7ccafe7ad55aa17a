use Rattle.index_model.proofs.ReadValues.{answer_read}
use Rattle.index_laws.proofs.read_extensions_are_keepable.Goals as goal

pub returns : goal.returns
returns c = λ kind time options bytes v id are read. (answer_read kind time options bytes v id read).keepable are
