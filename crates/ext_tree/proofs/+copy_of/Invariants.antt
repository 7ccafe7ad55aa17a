use Rattle.std.proofs.Common.{◌≡◌, map, take}
use Rattle.ext_tree.specs.Tree.{node_of}
use Rattle.ext_tree.proofs.+copy_of.Given as goal

-- the copies so far are of the children so far
abbrev pub invariant-loop-child : goal.invariant-loop-child
invariant-loop-child l = map node_of l.children.items ≡ map node_of (take l.child-index l.child-items)
