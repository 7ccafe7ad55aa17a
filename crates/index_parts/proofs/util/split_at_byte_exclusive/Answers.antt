use Rattle.index_parts.proofs.Splits.{found_split, no_split}
use Rattle.index_parts.proofs.util.split_at_byte_exclusive.Goals as goal

pub returns-clause-found : goal.returns-clause-found
returns-clause-found c = found_split (λ x. (x.0.now, x.1.now)) _ _ _ c.up_to.ensures

pub returns-clause-none : goal.returns-clause-none
returns-clause-none c = no_split (λ x. (x.0.now, x.1.now)) _ _ _ c.up_to.ensures
