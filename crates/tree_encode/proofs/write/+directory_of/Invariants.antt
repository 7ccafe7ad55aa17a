use Rattle.std.proofs.Common.{◌≤◌, ◌-◌}
use Rattle.std.specs.Prelude.{slice_range}
use Rattle.tree_encode.specs.WritingSteps.{IsBegunDirectory, staged_below}
use Rattle.tree_encode.proofs.write.+directory_of.Given as goal

abbrev pub decreases-directory_of : goal.decreases-directory_of
decreases-directory_of g l = l.levels

-- the directory is begun with the entries so far
abbrev pub invariant-loop-at : goal.invariant-loop-at
invariant-loop-at g l = record {
  low : l.run.start ≤ l.at;
  high : l.at ≤ l.run.end;
  begun : IsBegunDirectory l.kind (staged_below l.run.prefix_len (slice_range l.entries l.run.start l.at))
      (staged_below l.run.prefix_len (slice_range l.entries l.at l.run.end)) l.made (g.S.Sink.stored l.initial.sink)
      (g.S.Sink.stored l.sink);
}

abbrev pub decreases-loop-at : goal.decreases-loop-at
decreases-loop-at g l = l.run.end - l.at
