use Rattle.std.proofs.Common.{arith}
use Rattle.view_salvage.proofs.Choosing.{fit_all, fit_more, fit_none}
use Rattle.view_salvage.proofs.chosen.first_unfit.Goals as goal

pub loop-place-init : goal.loop-place-init
loop-place-init c = fit_none c.args.kind

pub loop-place-preserved : goal.loop-place-preserved
loop-place-preserved c = fit_more c.args.kind c.args.entries.now c.loop-place.place (omega arith)
    c.in-Ok.ensures.fit c.loop-place.invariant

pub returns-in-Err : goal.returns-in-Err
returns-in-Err c = record {
  count = omega arith;
  front = c.loop-place.invariant;
  fault = c.in-Err.ensures.unfit;
}

pub returns : goal.returns
returns c = fit_all c.args.kind c.args.entries.now c.loop-place.place (omega arith) c.loop-place.invariant
