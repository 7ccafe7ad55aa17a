use Rattle.std.specs.Prelude.{not}
use Rattle.std.proofs.lemmas.List.Filters.{FiltersInPlace}
use Rattle.entry_list.specs.Record.{record_in, with_path}
use Rattle.entry_edit.specs.EditSteps.{is_other}
use Rattle.entry_edit.proofs.others.gather.Given as goal

-- those of the entries so far that stay are in front
abbrev pub invariant-loop-place : goal.invariant-loop-place
invariant-loop-place l = FiltersInPlace (λ e. not (is_other (with_path l.path l.entry) (record_in l.storage e)))
    l.initial.entries l.entries l.kept l.place
