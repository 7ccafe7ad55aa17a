use Rattle.index_parts.proofs.Offsets.{found_offset, no_offset}
use Rattle.index_parts.proofs.util.var_int.Goals as goal

pub returns-clause-found : goal.returns-clause-found
returns-clause-found c = found_offset (λ x. (x.0, x.1.now)) _ _ c.offset.ensures

pub returns-clause-none : goal.returns-clause-none
returns-clause-none c = no_offset (λ x. (x.0, x.1.now)) _ _ c.offset.ensures
