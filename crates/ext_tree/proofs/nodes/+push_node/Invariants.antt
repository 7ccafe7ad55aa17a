use Rattle.std.proofs.Common.{ℕ, ◌-◌, List, map}
use Rattle.ext_tree.specs.Tree.{Node, node_of}
use Rattle.ext_tree.proofs.Rows.{IsRow}
use Rattle.ext_tree.proofs.nodes.+push_node.Given as goal

abbrev pub decreases-push_node : goal.decreases-push_node
decreases-push_node l = l.levels

-- the children so far are a row, and each row of all children goes on from here
abbrev pub invariant-loop-i : goal.invariant-loop-i
invariant-loop-i l =
    IsRow l.kind l.limit l.levels l.i l.initial.rest (map node_of l.children.items) l.rest
    × ((ts : List Node) (end : List ℕ) → IsRow l.kind l.limit l.levels l.head.number l.initial.rest ts end
    → (us : List Node) × IsRow l.kind l.limit l.levels (l.head.number - l.i) l.rest us end)
