use Rattle.index_state.specs.State.{records}
use Rattle.index_state.proofs.Verified.{order_told}
use Rattle.index_state.proofs.State.is_in_order.Goals as goal

pub returns : goal.returns
returns c = order_told (records c.args.self.now) c.first_fall.result c.is_none.result
    (rw c.slice.ensures at c.first_fall.ensures) c.is_none.ensures
