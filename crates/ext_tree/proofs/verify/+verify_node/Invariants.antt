use Rattle.std.proofs.Common.{◌≡◌, drop, Option}
use Rattle.std.specs.Option.{option_map}
use Rattle.ext_tree.specs.Agreement.{Trees}
use Rattle.ext_tree.specs.ObjectSteps.{AreLooked}
use Rattle.ext_tree.specs.TreeFaults.{nodes_fault}
use Rattle.ext_tree.proofs.Sounds.{row_of_trees}
use Rattle.ext_tree.proofs.verify.+verify_node.Given as goal

-- the first fault of the children is that of those from here on
abbrev pub invariant-loop-child : goal.invariant-loop-child
invariant-loop-child g l = (trees : Option Trees) → AreLooked (option_map (λ o. g.F.Find.found o.now) l.objects) trees
    → nodes_fault trees (row_of_trees l.children) ≡ nodes_fault trees (row_of_trees (drop l.child-index l.children))
