use Rattle.std.proofs.Common.{◌≡◌, length, take, Some}
use Rattle.std.specs.List.{flat_map}
use Rattle.ext_tree.specs.Tree.{node_of}
use Rattle.ext_tree.specs.TreeImage.{node_bytes}
use Rattle.ext_tree.specs.TreeWriting.{room_left}
use Rattle.ext_tree.proofs.write.+sizes.Given as goal

-- the room that is left after the trees before this one
abbrev pub invariant-room_behind_all-loop-tree : goal.invariant-room_behind_all-loop-tree
invariant-room_behind_all-loop-tree l =
    room_left l.room (length (flat_map (λ t. node_bytes (node_of t)) (take l.tree-index l.trees))) ≡ Some l.left
