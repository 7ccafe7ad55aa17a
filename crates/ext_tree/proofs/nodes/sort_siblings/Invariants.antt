use Rattle.std.proofs.Common.{◌≡◌, map}
use Rattle.std.specs.List.{AllAdjacentBelow}
use Rattle.std.specs.declared.cmp.Ordering.TheVariants.{Less}
use Rattle.ext_tree.specs.Tree.{node_of, name_cmp}
use Rattle.ext_tree.proofs.nodes.sort_siblings.Given as goal

abbrev pub invariant-loop-i : goal.invariant-loop-i
invariant-loop-i l = AllAdjacentBelow (λ t u. name_cmp t u ≡ Less) (map node_of l.sorted) l.i
