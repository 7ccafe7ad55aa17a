use Rattle.std.proofs.Common.{◌-◌, ◌≡◌, ◌≤◌, length, true}
use Rattle.std.specs.List.{AllWithin}
use Rattle.base_search.specs.Halving.{IsRising, is_before}
use Rattle.base_search.proofs.ordered.gallop.Given as goal

abbrev pub invariant-loop-low : goal.invariant-loop-low
invariant-loop-low g l = record {
  from : l.start ≤ l.low;
  in_range : l.low ≤ l.end;
  whole : l.end ≡ length (g.R.Ordered.answers l.places);
  before : IsRising (g.R.Ordered.answers l.places)
      → AllWithin (λ o. is_before true o ≡ true) (g.R.Ordered.answers l.places) 0 l.start
      → AllWithin (λ o. is_before true o ≡ true) (g.R.Ordered.answers l.places) 0 l.low;
}

abbrev pub decreases-loop-low : goal.decreases-loop-low
decreases-loop-low g l = l.end - l.low
