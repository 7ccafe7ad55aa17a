-- What is guaranteed of a state whose entries are in order (gitformat-index, "Index entry").
use Rattle.entry_list.specs.Order.{IsStrictlyOrdered}
use Rattle.index_state.specs.State.{PathsInStorage, records}
use Rattle.index_state.specs.declared.State.{State}

-- the fact, if all paths are in the storage, and the entries strictly increase by path, then stage
abbrev pub WhenOrdered : State → Type 0 → Type 0
WhenOrdered s P = PathsInStorage s → IsStrictlyOrdered (records s) → P
