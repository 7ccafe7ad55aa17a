use Rattle.std.proofs.Common.{◌≡◌, ◌+◌, ◌-◌, take}
use Rattle.std.specs.List.{flat_map}
use Rattle.index_parts.specs.Taking.{Took}
use Rattle.ext_tree.specs.GitOrder.{bytes_of_len}
use Rattle.ext_tree.specs.Tree.{node_of}
use Rattle.ext_tree.proofs.GitOrders.{ordered, shorter}
use Rattle.ext_tree.proofs.write.+nodes.Given as goal

-- the trees before this one were written, if their names have this length
abbrev pub invariant-put_nodes-loop-tree : goal.invariant-put_nodes-loop-tree
invariant-put_nodes-loop-tree g l = record {
  going : g.W.Out.failed l.out ≡ g.W.Out.failed l.fn.out;
  loan : g.W.Out.loan l.out ≡ g.W.Out.loan l.fn.out;
  so_far : Took g.W.Out.taken g.W.Out.hashed l.fn.out l.out
      (flat_map (λ t. bytes_of_len l.len (node_of t)) (take l.tree-index l.trees));
}

-- those with shorter names were taken
abbrev pub invariant-put_by_length-loop-len : goal.invariant-put_by_length-loop-len
invariant-put_by_length-loop-len g l = record {
  going : g.W.Out.failed l.out ≡ g.W.Out.failed l.fn.out;
  loan : g.W.Out.loan l.out ≡ g.W.Out.loan l.fn.out;
  so_far : Took g.W.Out.taken g.W.Out.hashed l.fn.out l.out (shorter l.len (ordered l.trees));
}

abbrev pub decreases-put_by_length-loop-len : goal.decreases-put_by_length-loop-len
decreases-put_by_length-loop-len g l = 256 + 1 - l.len
