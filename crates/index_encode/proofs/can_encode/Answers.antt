use Rattle.index_encode.proofs.can_encode.Goals as goal

pub returns-in-V4 : goal.returns-in-V4
returns-in-V4 c = rw c.in-V4.is (rw (c.deref.ensures.value, c.deref-in-V4.ensures.value) at c.paths_without_nul.ensures)
