use Rattle.std.proofs.Common.{subst}
use Rattle.gix_index.specs.Kind.{Kind}
use Rattle.gix_index.specs.State.{records}
use Rattle.view_salvage.specs.Laws.{AreWhole}
use Rattle.view_salvage.specs.SalvageSteps.{IsIndexOf}
use Rattle.view_salvage.proofs.Sameness.{saved_itself}
use Rattle.view_salvage.proofs.Saved.{index_itself, index_sorted, kind_is}
use Rattle.view_salvage.proofs.Saving.{saved_sorted}
use Rattle.view_salvage.proofs.salvage.salvaged_state.Goals as goal

pub returns-then-are_whole-clause-saved : goal.returns-then-are_whole-clause-saved
returns-then-are_whole-clause-saved c =
    let own = records c.args.state in
    let whole : AreWhole own = rw c.path_backing.ensures at (rw c.entries.ensures at (rw c.new.ensures at
    (c.are_whole.ensures.0 c.if-are_whole.true))) in
    saved_itself own whole.ordered whole.named

pub returns-then-are_whole-clause-index : goal.returns-then-are_whole-clause-index
returns-then-are_whole-clause-index c = λ h. h

pub returns-clause-saved : goal.returns-clause-saved
returns-clause-saved c = saved_sorted (records c.args.state) (records c.sort_entries.new.self) (records c.firsts.result)
    c.in_ok-sort_entries.ensures.stable (c.firsts.ensures.saved c.in_ok-sort_entries.ensures.ordered)

pub returns-clause-index : goal.returns-clause-index
returns-clause-index c = λ h.
    let e = c.in_ok-sort_entries.ensures in
    let sorted = index_sorted _ _ c.args.state c.sort_entries.new.self h e.others (e.placed h.placed) e.storable in
    subst (λ (k : Kind). IsIndexOf k (records c.firsts.result) c.firsts.result) (kind_is _ _ _ sorted)
    (c.firsts.ensures.index e.ordered (index_itself _ _ _ sorted))
