use Rattle.std.specs.List.{AllWithin}
use Rattle.capi_table.specs.Fitting.{IsFitRow}
use Rattle.capi_table.proofs.spell.first_unfit.Given as goal

abbrev pub invariant-loop-place : goal.invariant-loop-place
invariant-loop-place l = AllWithin (IsFitRow l.kind l.is_sparse l.paths) l.rows 0 l.place
