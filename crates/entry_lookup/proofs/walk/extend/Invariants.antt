use Rattle.std.proofs.Common.{◌≡◌, ◌++◌, drop, map, take}
use Rattle.entry_lookup.specs.WalkSteps.{extended, span_value}
use Rattle.entry_lookup.proofs.walk.extend.Given as goal

abbrev pub invariant-loop-i : goal.invariant-loop-i
invariant-loop-i l =
    map span_value l.live.items ≡ map (extended l.own l.path l.place) (take l.i (map span_value l.initial.live.items))
    ++ drop l.i (map span_value l.initial.live.items)
