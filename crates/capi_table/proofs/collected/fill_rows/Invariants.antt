use Rattle.capi_table.proofs.Cuts.{Filled}
use Rattle.capi_table.proofs.collected.fill_rows.Given as goal

abbrev pub invariant-loop-place : goal.invariant-loop-place
invariant-loop-place l = Filled l.pieces l.fn.trees l.place l.start l.trees
