use Rattle.std.proofs.Common.{◌==◌, ◌∙◌, length, rules, sym}
use Rattle.std.proofs.lemmas.Iterator.Consumers.{YieldsList-end, YieldsList-turn}
use Rattle.std.proofs.lemmas.Iterator.Splits.{YieldsList-from_slice_split}
use Rattle.std.proofs.lemmas.List.{length_push}
use Rattle.std.specs.Str.{byte}
use Rattle.tool_defaults.proofs.Formats.{ended, passed, taken}
use Rattle.tool_defaults.proofs.config.format_of.Goals as goal

pub loop-line-preserved-in-Some-line_value : goal.loop-line-preserved-in-Some-line_value
loop-line-preserved-in-Some-line_value c =
    let t = YieldsList-turn (YieldsList-from_slice_split _ (λ b. b == byte "\n") c.args.text.now (cc) (cc) (cc)
    (λ x b q k. search rules)) c.loop-line.yielded _ c.loop-line.yielded_by _ _ c.in-Some.line c.in-Some.is
    c.next.ensures.steps in
    let e = taken c.loop-line.kind c.loop-line.in_extensions _ (length c.loop-line.yielded) c.in-Some.line.now
    c.in-Some-line_value.value.now t (sym c.in-Some-line_value.ensures.value) in
    record {
      comes = rw (
        length_push c.loop-line.yielded c.in-Some.line,
        c.kind_named-kind.ensures,
        c.line_value.ensures.section,
      ) (sym e ∙ c.loop-line.invariant.comes);
    }

pub loop-line-preserved : goal.loop-line-preserved
loop-line-preserved c =
    let t = YieldsList-turn (YieldsList-from_slice_split _ (λ b. b == byte "\n") c.args.text.now (cc) (cc) (cc)
    (λ x b q k. search rules)) c.loop-line.yielded _ c.loop-line.yielded_by _ _ c.in-Some.line c.in-Some.is
    c.next.ensures.steps in
    let e = passed c.loop-line.kind c.loop-line.in_extensions _ (length c.loop-line.yielded) c.in-Some.line.now t
    (search rules) in
    record {
      comes = rw (length_push c.loop-line.yielded c.in-Some.line, c.line_value.ensures.section)
          (sym e ∙ c.loop-line.invariant.comes);
    }

pub returns : goal.returns
returns c =
    let t = YieldsList-end (YieldsList-from_slice_split _ (λ b. b == byte "\n") c.args.text.now (cc) (cc) (cc)
    (λ x b q k. search rules)) c.loop-line.yielded _ c.loop-line.yielded_by _ _ c.in-None.is c.next.ensures.steps in
    sym (ended c.loop-line.kind c.loop-line.in_extensions _ (length c.loop-line.yielded) t.1)
    ∙ c.loop-line.invariant.comes
