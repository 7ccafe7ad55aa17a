use Rattle.std.proofs.Common.{take}
use Rattle.capi_table.specs.Updating.{AreSaidBy}
use Rattle.capi_table.proofs.update.changes_of.Given as goal

-- the changes so far are those of the rows so far
abbrev pub invariant-loop-row : goal.invariant-loop-row
invariant-loop-row l = record { so_far : AreSaidBy l.paths (take l.row-index l.rows) l.changes.items }
