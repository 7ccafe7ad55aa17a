use Rattle.index_laws.proofs.TreesInOrder.{read_in_order}
use Rattle.index_laws.proofs.read_trees_are_in_order.Goals as goal

pub returns : goal.returns
returns c = λ kind time options bytes v id h. read_in_order kind time options bytes v id h
