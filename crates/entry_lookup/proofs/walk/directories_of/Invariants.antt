use Rattle.std.proofs.Common.{map}
use Rattle.entry_lookup.specs.NameSteps.{visits}
use Rattle.entry_lookup.specs.WalkSteps.{span_value}
use Rattle.entry_lookup.proofs.WalkTurns.{AtTurn}
use Rattle.entry_lookup.proofs.walk.directories_of.Given as goal

abbrev pub invariant-loop-turn : goal.invariant-loop-turn
invariant-loop-turn l = AtTurn l.own l.ignore_case l.entries (visits l.sorted l.entries) l.turn l.last
    (map span_value l.closed.items) (map span_value l.live.items)
