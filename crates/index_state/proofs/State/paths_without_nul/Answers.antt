use Rattle.index_state.proofs.State.paths_without_nul.Goals as goal

pub returns : goal.returns
returns c = rw (c.deref.ensures.value, c.deref-2.ensures.value) at c.paths_without_nul.ensures
