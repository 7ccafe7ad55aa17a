use Rattle.std.proofs.Common.{ℕ, List, take}
use Rattle.std.specs.List.{AllZip}
use Rattle.std.specs.Option.{option_map}
use Rattle.ext_tree.specs.Tree.{node_of}
use Rattle.ext_tree.specs.declared.Tree.TheViews.{out-Tree}
use Rattle.tree_encode.specs.Kept.{Becomes}
use Rattle.tree_encode.specs.TreeIds.{spots_below}
use Rattle.tree_encode.proofs.Spots.{row}
use Rattle.tree_encode.proofs.kept.+keep_counts.Given as goal

-- the children so far have become what the old tree leaves of them, and the others are as they were
abbrev pub invariant-loop-child : goal.invariant-loop-child
invariant-loop-child l = record {
  unvisited : goal.unvisited-loop-child l;
  kept : (names : List (List ℕ)) → AllZip (Becomes l.fn.kind names (option_map (λ t. node_of t.now) l.fn.old))
      (spots_below names (row (take l.child-index (out-Tree l.fn.made).children.items)))
      (spots_below names (row (take l.child-index l.child-items)));
}
