use Rattle.std.proofs.Common.{◌∙◌, sym, ap, arith}
use Rattle.entry_list.specs.Order.{record_stage}
use Rattle.entry_list.specs.Record.{Record}
use Rattle.entry_fields.specs.Flags.{stage_number}
use Rattle.entry_edit.specs.EditSteps.{is_of_stage}
use Rattle.entry_edit.proofs.Anys.{any_part, none_part}
use Rattle.entry_edit.proofs.df_conflicts.has_stage.Goals as goal

pub returns-then-is_of_stage : goal.returns-then-is_of_stage
returns-then-is_of_stage c =
    let rs = c.args.entries.now in
    let inside = rw c.in-Some.is at c.requires in
    let test = λ (r : Record). is_of_stage c.args.same c.args.stage (record_stage r) in
    rw c.in-Some.is (sym (any_part test rs c.in-Some.places.start c.in-Some.places.end c.loop-place.place
    c.loop-place.auto.place (omega (arith, c.loop-place-test.true)) inside.1
    (λ d. ap (λ n. is_of_stage c.args.same c.args.stage (stage_number n)) (c.entry.ensures d).flags
    ∙ sym c.is_of_stage.ensures ∙ c.if-is_of_stage.true)))

pub returns : goal.returns
returns c =
    let rs = c.args.entries.now in
    let inside = rw c.in-Some.is at c.requires in
    let test = λ (r : Record). is_of_stage c.args.same c.args.stage (record_stage r) in
    rw c.in-Some.is (sym (none_part test rs c.in-Some.places.start c.in-Some.places.end inside.1
    (λ k d low high. c.loop-place.invariant k d low (omega (arith, c.loop-place-test.false)))))
