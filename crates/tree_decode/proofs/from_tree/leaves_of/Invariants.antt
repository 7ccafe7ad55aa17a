use Rattle.std.proofs.Common.{◌-◌, ◌≤◌}
use Rattle.tree_decode.proofs.WalkLoops.{IsUnderWay}
use Rattle.tree_decode.proofs.from_tree.leaves_of.Given as goal

-- as many objects are read as the loop counts
abbrev pub invariant-loop : goal.invariant-loop
invariant-loop g l = record {
  within : l.counter ≤ l.max_objects;
  way : IsUnderWay (g.F.Find.found l.objects) (g.C.ComponentCheck.refusal l.check) l.kind l.tree l.max_objects
      (l.max_objects - l.counter) l.walk l.next;
}
