use Rattle.std.proofs.Common.{subst, sym}
use Rattle.std.proofs.lemmas.Result.{IfErr-weaker, IfOk-weaker}
use Rattle.gix_index.specs.State.{records}
use Rattle.view_salvage.specs.Accepted.{AreAcceptable}
use Rattle.view_salvage.proofs.Choosing.{front_fit, saved_fit}
use Rattle.view_salvage.proofs.chosen.chosen.Goals as goal

pub returns-in-Front-clause-acceptable : goal.returns-in-Front-clause-acceptable
returns-in-Front-clause-acceptable c = subst (AreAcceptable c.args.kind) (sym c.front_of.ensures.front)
    (front_fit c.args.kind (records c.args.state) c.args.first.now c.requires)

pub returns-in-All-clause-acceptable : goal.returns-in-All-clause-acceptable
returns-in-All-clause-acceptable c = IfOk-weaker c.all_fit.result _ _
    (λ s h. saved_fit c.args.kind (records c.args.state) (records s) h) c.all_fit.ensures.kept

pub returns-in-All-clause-memory : goal.returns-in-All-clause-memory
returns-in-All-clause-memory c = IfErr-weaker c.all_fit.result _ _ (λ e unordered. (c.in-All.is, unordered))
    c.all_fit.ensures.memory
