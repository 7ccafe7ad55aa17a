use Rattle.std.proofs.Common.{◌∙◌, ap, arith, sym}
use Rattle.entry_list.specs.Record.{with_path}
use Rattle.entry_lookup.proofs.Lookup.{ordered_by_path}
use Rattle.entry_fields.specs.Flags.{stage_code}
use Rattle.entry_edit.specs.EditSteps.{stands_above}
use Rattle.std.specs.Prelude.{position}
use Rattle.entry_edit.proofs.Clears.{clear_none}
use Rattle.entry_edit.proofs.Firsts.{other_from, other_none}
use Rattle.entry_edit.proofs.Stages.{stage_is}
use Rattle.entry_edit.proofs.others.first_other.Goals as goal

pub returns-in-Some-clause-front : goal.returns-in-Some-clause-front
returns-in-Some-clause-front c = λ o.
    let path = c.args.path.now in
    let rs = c.args.entries.now in
    let code = ap stage_code c.stage.ensures ∙ stage_is c.args.entry.flags.0 in
    other_from (with_path path c.args.entry) rs c.path_start-start.result c.in-Some.place
    (c.path_start-start.ensures.before (ordered_by_path rs o))
    (ap (λ n. position (stands_above path n) rs) (sym code)
    ∙ sym (c.first_above.ensures.first o (clear_none (stage_code c.stage.result) rs)) ∙ c.in-Some.is)
    c.min.result (omega (arith, c.min.ensures)) (omega (arith, c.min.ensures))

pub returns-in-None-clause-front : goal.returns-in-None-clause-front
returns-in-None-clause-front c = λ o.
    let path = c.args.path.now in
    let rs = c.args.entries.now in
    let code = ap stage_code c.stage.ensures ∙ stage_is c.args.entry.flags.0 in
    other_none (with_path path c.args.entry) rs c.path_start-start.result c.path_start-start.ensures.in_range
    (c.path_start-start.ensures.before (ordered_by_path rs o))
    (ap (λ n. position (stands_above path n) rs) (sym code)
    ∙ sym (c.first_above.ensures.first o (clear_none (stage_code c.stage.result) rs)) ∙ c.in-None.is)
