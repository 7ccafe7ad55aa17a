use Rattle.std.proofs.Common.{refl, subst}
use Rattle.gix_index.specs.SoundState.{OrderCause}
use Rattle.gix_index.specs.State.{contents}
use Rattle.gix_index.specs.StateType.{State}
use Rattle.tool_edit.proofs.trees.tree_of.Goals as goal

pub returns-in-Err-clause-fault : goal.returns-in-Err-clause-fault
returns-in-Err-clause-fault c = (
  refl,
  subst (λ (s : State). OrderCause (contents s).records c.in-Err.fault) c.deref.ensures c.in-Err.ensures.fault,
)
