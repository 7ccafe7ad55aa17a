use Rattle.std.proofs.Common.{◌≡◌, false}
use Rattle.std.specs.List.{AllWithin}
use Rattle.entry_list.specs.Order.{record_stage}
use Rattle.entry_edit.specs.EditSteps.{is_of_stage}
use Rattle.entry_edit.proofs.df_conflicts.has_stage.Given as goal

abbrev pub invariant-loop-place : goal.invariant-loop-place
invariant-loop-place l =
    AllWithin (λ r. is_of_stage l.same l.stage (record_stage r) ≡ false) l.entries l.initial.place l.place
