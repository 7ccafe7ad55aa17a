use Rattle.std.proofs.Common.{◌≡◌, ℕ, take}
use Rattle.ext_tree.specs.Sound.{CountsAtMost}
use Rattle.ext_tree.specs.Tree.{node_of}
use Rattle.index_edit.specs.Invalidated.{all_invalidated}
use Rattle.index_edit.proofs.invalidating.invalidate_each.Given as goal

-- the paths of the changes so far are invalidated
abbrev pub invariant-loop-change : goal.invariant-loop-change
invariant-loop-change l = record {
  is : node_of l.tree ≡ all_invalidated (take l.change-index l.changes) (node_of l.initial.tree);
  counts : (most : ℕ) → CountsAtMost most (node_of l.initial.tree) → CountsAtMost most (node_of l.tree);
}
