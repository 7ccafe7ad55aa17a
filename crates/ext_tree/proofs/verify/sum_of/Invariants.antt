use Rattle.std.proofs.Common.{◌≡◌, ◌+◌, drop, None}
use Rattle.std.specs.Option.{option_map}
use Rattle.ext_tree.specs.Sound.{entries_sum}
use Rattle.ext_tree.specs.Tree.{node_of}
use Rattle.ext_tree.specs.TreeFaults.{row_fault}
use Rattle.ext_tree.proofs.Sounds.{row_of_trees}
use Rattle.ext_tree.proofs.verify.sum_of.Given as goal

-- the siblings before this one count so much, and the first fault of all is that of those from here on
abbrev pub invariant-loop-tree : goal.invariant-loop-tree
invariant-loop-tree l = record {
  counted : l.sum + entries_sum (row_of_trees (drop l.tree-index l.siblings)) ≡ entries_sum (row_of_trees l.siblings);
  so_far : row_fault l.parent_id 0 None (row_of_trees l.siblings) ≡ row_fault l.parent_id l.sum
      (option_map (λ t. node_of t.now) l.before) (row_of_trees (drop l.tree-index l.siblings));
}
