use Rattle.index_state.specs.State.{contents}
use Rattle.index_state.proofs.Storables.{each_storable, parts_storable}
use Rattle.index_state.proofs.State.is_storable.Goals as goal

pub returns-then-are_storable : goal.returns-then-are_storable
returns-then-are_storable c =
    let entries = rw (c.deref.ensures.value, c.deref-2.ensures.value) at c.are_storable.ensures in
    let v = contents c.args.self.now in
    let tree = c.is_tree_storable.ensures in
    (λ t. parts_storable v (entries.0 c.if-are_storable.true) (tree.0 t), λ h. tree.1 h.tree)

pub returns-else-are_storable : goal.returns-else-are_storable
returns-else-are_storable c =
    let entries = rw (c.deref.ensures.value, c.deref-2.ensures.value) at c.are_storable.ensures in
    (λ t. absurd cc, λ h. entries.1 (each_storable (contents c.args.self.now) h))
