use Rattle.std.proofs.Common.{◌≡◌, drop}
use Rattle.ext_tree.specs.TreeFaults.{excess_among}
use Rattle.ext_tree.proofs.Sounds.{row_of_trees}
use Rattle.ext_tree.proofs.verify.+check_counts.Given as goal

-- the first excess among the children is that among those from here on
abbrev pub invariant-loop-child : goal.invariant-loop-child
invariant-loop-child l = excess_among l.entries (row_of_trees l.child-items)
    ≡ excess_among l.entries (row_of_trees (drop l.child-index l.child-items))
