use Rattle.std.proofs.Common.{◌≡◌, ◌+◌, ◌-◌, sym, ap, ◌∙◌, length, arith}
use Rattle.std.specs.List.{flat_map}
use Rattle.ext_tree.specs.Tree.{node_of}
use Rattle.ext_tree.specs.TreeImage.{node_bytes}
use Rattle.ext_tree.specs.TreeWriting.{room_left}
use Rattle.ext_tree.proofs.TreeLengths.{own_head, below, length_node, no_room, some_room, room_behind_both}
use Rattle.ext_tree.proofs.TreeLengths.{no_room_at}
use Rattle.ext_tree.proofs.write.+sizes.Goals as goal

pub room_behind-returns-then-room-len : goal.room_behind-returns-then-room-len
room_behind-returns-then-room-len t c =
    let n = c.args.tree.now in
    sym (no_room c.args.room (length (node_bytes (node_of n)))
    (omega (arith, length_node n, c.node_head_len-len.ensures, c.if-room-len.true)))

pub room_behind-returns : goal.room_behind-returns
room_behind-returns t c =
    let n = c.args.tree.now in
    let a = length (own_head n) in
    let len : c.node_head_len-len.result ≡ a = c.node_head_len-len.ensures in
    let first : room_left c.args.room a ≡ _ = some_room c.args.room a (omega (arith, len, c.if-room-len.false)) in
    let both : room_left c.args.room (a + length (below n)) ≡ room_left (c.args.room - a) (length (below n)) =
    room_behind_both c.args.room a (length (below n)) (c.args.room - a) first in
    c.room_behind_all.ensures
    ∙ ap (λ k. room_left (c.args.room - k) (length (flat_map (λ u. node_bytes (node_of u)) c.deref.result.now))) len
    ∙ ap (λ ts. room_left (c.args.room - a) (length (flat_map (λ u. node_bytes (node_of u)) ts)))
    c.deref.ensures.value ∙ sym both ∙ ap (room_left c.args.room) (sym (length_node n))

pub room_behind_all-returns-in_default : goal.room_behind_all-returns-in_default
room_behind_all-returns-in_default t c =
    sym (no_room_at (λ u. node_bytes (node_of u)) c.args.trees.now c.loop-tree.tree-index c.tree-item.result c.args.room
    c.loop-tree.left c.loop-tree-test.true c.loop-tree.invariant (ap (λ x.
    room_left c.loop-tree.left (length (node_bytes (node_of x)))) (sym c.tree-item.is) ∙ sym c.in_default.ensures))
