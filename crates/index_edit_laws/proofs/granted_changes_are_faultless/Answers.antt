use Rattle.index_edit_laws.proofs.Granted.{granted}
use Rattle.index_edit_laws.proofs.granted_changes_are_faultless.Goals as goal

pub returns : goal.returns
returns c = granted
