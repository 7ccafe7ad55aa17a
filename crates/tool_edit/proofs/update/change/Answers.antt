use Rattle.std.proofs.Common.{◌≡◌, ◌∙◌, List, ap, arith, map, refl, subst, sym}
use Rattle.std.proofs.lemmas.Grind.{common_steps}
use Rattle.gix_index.specs.Changing.Change.{Change}
use Rattle.gix_index.specs.State.{contents}
use Rattle.entry_info.specs.Line.{ChangeValue}
use Rattle.entry_info.specs.Text.{AreSaid, change_value, line_value}
use Rattle.entry_info.specs.declared.line.Line.{Line}
use Rattle.tool_edit.specs.Updated.{IsTimed}
use Rattle.tool_edit.proofs.Updated.{granted_among, refused_among}
use Rattle.tool_edit.proofs.update.change.Goals as goal

pub returns-in-Ok-apply : goal.returns-in-Ok-apply
returns-in-Ok-apply c =
    let same : map change_value c.deref-2.result.now ≡ map line_value c.in-Ok.lines.items =
    ap (λ (cs : List Change). map change_value cs) c.deref-2.ensures.value ∙ c.in-Ok-changes.ensures
    ∙ ap (λ (ls : List Line). map line_value ls) c.deref.ensures.value in
    record {
      updated = λ placed. record {
        ordered = c.requires;
        changes = c.deref-2.result.now;
        said = subst (λ (vs : List ChangeValue). AreSaid c.args.nul c.args.kind c.args.text.now vs) (sym same)
            c.in-Ok.ensures.said;
        changed = contents c.apply.new.self;
        granted = granted_among _ c.deref-2.result.now (contents c.args.state.now).records c.requires _
            c.in-Ok-apply.ensures.reason;
        is = c.in-Ok-apply.ensures.updated placed c.requires;
        applied = c.in-Ok-apply.ensures.applied placed c.requires;
        timed = subst (λ (cs : List Change). IsTimed cs (contents c.apply.new.self) (contents c.renew.new.state))
            (c.deref-in-Ok-apply.ensures.value ∙ sym c.deref-2.ensures.value) c.renew.ensures.timed;
      };
      placed = λ placed. c.renew.ensures.placed (c.in-Ok-apply.ensures.placed placed);
      fault = tt;
    }

pub returns-in-Err-Refused : goal.returns-in-Err-Refused
returns-in-Err-Refused c =
    let same : map change_value c.deref-2.result.now ≡ map line_value c.in-Ok.lines.items =
    ap (λ (cs : List Change). map change_value cs) c.deref-2.ensures.value ∙ c.in-Ok-changes.ensures
    ∙ ap (λ (ls : List Line). map line_value ls) c.deref.ensures.value in
    let reason = rw c.in-Err-Refused.field-0-is at c.in-Err-Refused.ensures.reason in
    record {
      updated = tt;
      placed = grind (arith, common_steps);
      fault = (
        refl,
        record {
          changes = c.deref-2.result.now;
          said = subst (λ (vs : List ChangeValue). AreSaid c.args.nul c.args.kind c.args.text.now vs) (sym same)
              c.in-Ok.ensures.said;
          is = refused_among _ c.deref-2.result.now (contents c.args.state.now).records c.requires c.in-Err-Refused.at
              c.in-Err-Refused.cause reason;
        },
      );
    }
