use Rattle.std.proofs.Common.{drop}
use Rattle.std.specs.Prelude.{◌↔◌}
use Rattle.ext_tree.specs.StoredTree.{IsApartFrom}
use Rattle.ext_tree.specs.Tree.{node_of}
use Rattle.ext_tree.proofs.Sounds.{row_of_trees}
use Rattle.ext_tree.proofs.storable.is_apart.Given as goal

-- the node's name differs from all if it differs from those from here on
abbrev pub invariant-loop-other : goal.invariant-loop-other
invariant-loop-other l = IsApartFrom (node_of l.tree) (row_of_trees l.others) ↔ IsApartFrom (node_of l.tree)
    (row_of_trees (drop l.other-index l.others))
