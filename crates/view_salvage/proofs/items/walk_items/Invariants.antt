use Rattle.std.proofs.Common.{◌≡◌, ◌+◌, List, ◌++◌, length}
use Rattle.gix_index.specs.Outcome.{AreSound}
use Rattle.gix_index.specs.Walk.{Item, AreItems, unread}
use Rattle.view_layout.specs.Piece.{item_pieces, laid}
use Rattle.view_salvage.proofs.items.walk_items.Given as goal

-- so many extensions, without a fault, have their parts, and the bytes before those that are left are counted
abbrev pub invariant-loop-item : goal.invariant-loop-item
invariant-loop-item l = (items : List Item) × AreItems l.extensions items (unread l.items) × AreSound l.kind items
    × (l.parts.items ≡ l.fn.parts.items ++ laid l.offset (item_pieces items))
    × (l.items.consumed + length (unread l.items) ≡ length l.extensions)
    × (l.end + length (unread l.items) ≡ l.offset + length l.extensions)
