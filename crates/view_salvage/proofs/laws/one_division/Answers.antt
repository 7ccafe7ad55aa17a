use Rattle.view_salvage.proofs.OneDivision.{one_division}
use Rattle.view_salvage.proofs.laws.one_division.Goals as goal

pub returns : goal.returns
returns c = one_division
