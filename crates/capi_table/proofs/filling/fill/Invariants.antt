use Rattle.capi_table.proofs.CopiedTables.{Copied}
use Rattle.capi_table.proofs.filling.fill.Given as goal

abbrev pub invariant-loop-place : goal.invariant-loop-place
invariant-loop-place l = Copied l.entries l.storage l.fn.rows l.fn.paths l.place l.start l.rows l.paths
