use Rattle.std.proofs.Common.{◌∙◌, ap, arith}
use Rattle.std.proofs.lemmas.List.{drop_all}
use Rattle.entry_edit.specs.Changes.{refusal_from}
use Rattle.entry_edit.proofs.Checks.{none_left, passed_at, refused_at}
use Rattle.entry_edit.proofs.change.check_each.Goals as goal

pub returns-in-Err : goal.returns-in-Err
returns-in-Err g c =
    c.loop-at.invariant ∙ refused_at (g.C.ComponentCheck.refusal c.args.check.now) c.args.kind c.loop-at.grown c.loop-at.at
    c.args.changes.now _ (omega (arith, c.loop-at-test.true)) c.in-Err.cause c.in-Err.ensures.fault

pub loop-at-preserved : goal.loop-at-preserved
loop-at-preserved g c =
    c.loop-at.invariant ∙ passed_at (g.C.ComponentCheck.refusal c.args.check.now) c.args.kind c.loop-at.grown c.loop-at.at
    c.args.changes.now _ (omega (arith, c.loop-at-test.true)) c.in-Ok.more c.in-Ok.ensures.fault c.in-Ok.ensures.grown

pub returns : goal.returns
returns g c =
    let check = g.C.ComponentCheck.refusal c.args.check.now in
    let at = c.loop-at.at in
    c.loop-at.invariant
    ∙ ap (refusal_from check c.args.kind c.loop-at.grown at)
    (drop_all at c.args.changes.now (omega (arith, c.loop-at-test.false)))
    ∙ none_left check c.args.kind c.loop-at.grown at
