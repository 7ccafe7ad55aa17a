use Rattle.std.proofs.Common.{arith, ap, length, map, suc, ◌++◌, ◌∙◌}
use Rattle.entry_lookup.specs.WalkSteps.{span_value}
use Rattle.entry_lookup.proofs.OpenSpans.{opened_upto}
use Rattle.entry_lookup.proofs.walk.open_fronts.Goals as goal

pub returns : goal.returns
returns c =
    let path = c.args.path.now in
    c.loop-len.invariant.opens
    ∙ ap (λ (ss : _). map span_value c.args.live.now.items ++ ss) (opened_upto c.args.own path c.args.place c.args.from
    c.loop-len.len (suc (length path)) (omega (arith, c.loop-len-test.false))
    (λ h. omega (arith, c.loop-len.auto.len-end, h)) (λ h. c.loop-len.invariant.past (omega (arith, h))))
