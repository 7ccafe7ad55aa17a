use Rattle.std.proofs.Common.{◌≤◌, All, take}
use Rattle.ext_tree.specs.GitOrder.{name_len}
use Rattle.ext_tree.specs.Tree.{node_of}
use Rattle.ext_tree.proofs.git_order.next_len.Given as goal

-- the least length so far
abbrev pub invariant-loop-tree : goal.invariant-loop-tree
invariant-loop-tree l = record {
  least : l.least ≤ l.next;
  most : l.next ≤ 257;
  none_between : All (λ t. l.least ≤ name_len (node_of t) → l.next ≤ name_len (node_of t)) (take l.tree-index l.trees);
}
