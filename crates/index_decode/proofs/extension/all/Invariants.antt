use Rattle.std.proofs.Common.{◌≡◌, ◌+◌, List, length}
use Rattle.index_extensions.specs.Walk.{Item, AreItems, unread}
use Rattle.index_model.specs.Outcome.{outcome_of, AreSound, IsOutcome}
use Rattle.index_decode.proofs.extension.all.Given as goal

-- so many extensions, without a fault, came to this, and the bytes before those that are left are counted
abbrev pub invariant-loop-item : goal.invariant-loop-item
invariant-loop-item l = (items : List Item) × AreItems l.extensions items (unread l.items)
    × AreSound l.object_hash items × IsOutcome l.object_hash l.alloc_limit_bytes items (outcome_of l.outcome)
    × (l.items.consumed + length (unread l.items) ≡ length l.extensions)
