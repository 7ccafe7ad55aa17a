use Rattle.std.proofs.Common.{drop, None}
use Rattle.std.specs.Prelude.{◌↔◌}
use Rattle.std.specs.Option.{option_map}
use Rattle.ext_tree.specs.Sound.{RiseFrom}
use Rattle.ext_tree.specs.Tree.{node_of}
use Rattle.ext_tree.proofs.Sounds.{row_of_trees}
use Rattle.ext_tree.proofs.storable.names_rise.Given as goal

-- all names increase if those from here on do
abbrev pub invariant-loop-tree : goal.invariant-loop-tree
invariant-loop-tree l = RiseFrom None (row_of_trees l.trees) ↔ RiseFrom (option_map (λ t. node_of t.now) l.before)
    (row_of_trees (drop l.tree-index l.trees))
