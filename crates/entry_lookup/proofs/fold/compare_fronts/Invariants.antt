use Rattle.std.proofs.Common.{◌≡◌, ◌+◌, ◌-◌, ◌≤◌, take, true}
use Rattle.entry_lookup.specs.Folded.{folded}
use Rattle.entry_lookup.proofs.fold.compare_fronts.Given as goal

-- so many bytes are the same, with case ignored
abbrev pub invariant-loop-at : goal.invariant-loop-at
invariant-loop-at l = record {
  within : l.at ≤ l.last + 8;
  same : take l.at (folded true l.a) ≡ take l.at (folded true l.b);
}

abbrev pub decreases-loop-at : goal.decreases-loop-at
decreases-loop-at l = l.last - l.at
