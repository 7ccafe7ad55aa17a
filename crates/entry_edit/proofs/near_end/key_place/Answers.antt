use Rattle.std.proofs.Common.{Some, arith, sym, ◌∙◌}
use Rattle.std.proofs.lemmas.List.{length-map}
use Rattle.entry_lookup.specs.SearchSteps.{asked_cmp}
use Rattle.entry_fields.specs.Flags.{stage_code}
use Rattle.entry_edit.proofs.NearEnds.{end_told, gap_told, key_there, key_told}
use Rattle.entry_edit.proofs.near_end.key_place.Goals as goal

pub returns-then-low-len-clause-answer : goal.returns-then-low-len-clause-answer
returns-then-low-len-clause-answer c =
    end_told c.args.path.now (stage_code c.args.stage) c.args.entries.now c.first_near_end-low.result
    c.first_near_end-low.ensures.parts (omega (arith, c.if-low-len.true, c.len.ensures))
    (c.if-low-len.true ∙ c.len.ensures)

pub returns-then-is_eq-clause-found : goal.returns-then-is_eq-clause-found
returns-then-is_eq-clause-found c =
    let asked = asked_cmp c.args.path.now (Some c.args.stage) in
    key_there c.args.path.now (stage_code c.args.stage) c.args.entries.now c.first_near_end-low.result c.compare.result
    (omega (
      arith,
      c.if-low-len.false,
      c.len.ensures,
      c.first_near_end-low.ensures.in_range,
      length-map c.args.entries.now asked,
    ))
    c.compare.ensures (sym c.is_eq.ensures ∙ c.if-is_eq.true)

pub returns-then-is_eq-clause-answer : goal.returns-then-is_eq-clause-answer
returns-then-is_eq-clause-answer c =
    let asked = asked_cmp c.args.path.now (Some c.args.stage) in
    key_told c.args.path.now (stage_code c.args.stage) c.args.entries.now c.first_near_end-low.result c.compare.result
    (omega (
      arith,
      c.if-low-len.false,
      c.len.ensures,
      c.first_near_end-low.ensures.in_range,
      length-map c.args.entries.now asked,
    ))
    c.compare.ensures (sym c.is_eq.ensures ∙ c.if-is_eq.true)

pub returns-clause-answer : goal.returns-clause-answer
returns-clause-answer c =
    let asked = asked_cmp c.args.path.now (Some c.args.stage) in
    gap_told c.args.path.now (stage_code c.args.stage) c.args.entries.now c.first_near_end-low.result
    c.first_near_end-low.ensures.parts
    (omega (arith, c.len.ensures, c.first_near_end-low.ensures.in_range, length-map c.args.entries.now asked))
    (λ e. c.if-low-len.false (e ∙ sym c.len.ensures)) c.compare.result c.compare.ensures
    (sym c.is_eq.ensures ∙ c.if-is_eq.false)
