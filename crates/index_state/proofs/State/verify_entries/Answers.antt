use Rattle.std.proofs.Common.{Some}
use Rattle.std.proofs.lemmas.Bool.{false≢true}
use Rattle.std.proofs.lemmas.Result.{err_from_is_err_and}
use Rattle.entry_list.specs.Sorted.{IsFirstFall}
use Rattle.index_state.specs.State.{records}
use Rattle.index_state.proofs.Verified.{not_ordered}
use Rattle.index_state.proofs.State.verify_entries.Goals as goal

pub returns-in_err-out_of_order-clause-ok : goal.returns-in_err-out_of_order-clause-ok
returns-in_err-out_of_order-clause-ok c =
    let fall : IsFirstFall (records c.args.self.now) (Some c.in-Some.place) =
    rw c.slice-entries.ensures at c.in-Some.ensures in
    let p = err_from_is_err_and c.from_residual.result c.from_residual.ensures.1 in
    rw p.1 (λ e. absurd (false≢true e), λ o. absurd (not_ordered (records c.args.self.now) c.in-Some.place fall.0 o))

pub returns-clause-ok : goal.returns-clause-ok
returns-clause-ok c =
    let fall : IsFirstFall (records c.args.self.now) (Some c.in-Some.place) =
    rw c.slice-entries.ensures at c.in-Some.ensures in
    (λ e. absurd (false≢true e), λ o. absurd (not_ordered (records c.args.self.now) c.in-Some.place fall.0 o))
