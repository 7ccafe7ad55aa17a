use Rattle.std.proofs.lemmas.Result.{IfErr-weaker, IfOk-weaker}
use Rattle.gix_index.specs.State.{records}
use Rattle.view_salvage.proofs.Choosing.{filter_ordered}
use Rattle.view_salvage.proofs.Saved.{stays_then}
use Rattle.view_salvage.proofs.chosen.all_fit.Goals as goal

pub returns-clause-kept : goal.returns-clause-kept
returns-clause-kept c = rw c.keep_fit.ensures.fit at c.salvaged_state.ensures.saved

pub returns-clause-index : goal.returns-clause-index
returns-clause-index c = IfOk-weaker c.salvaged_state.result _ _
    (λ s h. stays_then c.args.state c.keep_fit.new.state s c.keep_fit.ensures.index h) c.salvaged_state.ensures.index

pub returns-clause-memory : goal.returns-clause-memory
returns-clause-memory c = IfErr-weaker c.salvaged_state.result _ _
    (λ e unordered up. unordered (rw c.keep_fit.ensures.fit (filter_ordered _ (records c.args.state) up)))
    c.salvaged_state.ensures.memory
