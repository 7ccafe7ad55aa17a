use Rattle.tree_decode.proofs.OneListing.{leaves_some, leaves_one}
use Rattle.index_laws.proofs.one_listing.Goals as goal

pub returns-clause-some : goal.returns-clause-some
returns-clause-some c = leaves_some

pub returns-clause-one : goal.returns-clause-one
returns-clause-one c = leaves_one
