use Rattle.std.proofs.Common.{length}
use Rattle.tree_decode.specs.LeafSteps.{IsSoundWalk}
use Rattle.tree_decode.proofs.Walks.{ComesFrom}
use Rattle.tree_decode.proofs.walk.Walk.next_tree.Given as goal

-- what is left of the walk comes to what it came to at first
abbrev pub invariant-loop-level : goal.invariant-loop-level
invariant-loop-level g l = record {
  sound : IsSoundWalk l.fn.kind l.self;
  comes : ComesFrom (g.C.ComponentCheck.refusal l.check) l.fn.kind l.initial.self l.self;
}

abbrev pub decreases-loop-level : goal.decreases-loop-level
decreases-loop-level g l = length l.self.levels.items
