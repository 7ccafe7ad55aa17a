use Rattle.capi_table.proofs.FilledTables.{Progress}
use Rattle.capi_table.proofs.filling.fill_entries.Given as goal

abbrev pub invariant-loop-place : goal.invariant-loop-place
invariant-loop-place l =
    Progress l.fn.version l.fn.kind l.fn.count l.fn.bytes l.fn.rows l.fn.paths l.reader l.place l.earlier l.start l.rows
    l.paths
