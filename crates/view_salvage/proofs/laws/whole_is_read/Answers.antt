use Rattle.view_salvage.proofs.Readable.{read_whole}
use Rattle.view_salvage.proofs.laws.whole_is_read.Goals as goal

pub returns : goal.returns
returns c = read_whole
