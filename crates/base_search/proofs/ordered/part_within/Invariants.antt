use Rattle.std.proofs.Common.{◌+◌, ◌-◌, ◌<◌, ◌≤◌, ◌≡◌, length, true, false}
use Rattle.std.specs.List.{AllWithin}
use Rattle.base_search.specs.Digits.{digits}
use Rattle.base_search.specs.Halving.{IsAround, IsRising, is_before}
use Rattle.base_search.proofs.ordered.part_within.Given as goal

abbrev pub invariant-loop-low : goal.invariant-loop-low
invariant-loop-low g l = record {
  from : l.start ≤ l.low;
  in_order : l.low ≤ l.high;
  in_range : l.high ≤ l.end;
  cost : l.count + digits (l.high - l.low) ≤ digits (l.end - l.start);
  some : l.start < l.end → 1 ≤ l.count + (l.high - l.low);
  before : IsRising (g.R.Ordered.answers l.places) → IsAround l.after (g.R.Ordered.answers l.places) l.start l.end
      → AllWithin (λ o. is_before l.after o ≡ true) (g.R.Ordered.answers l.places) 0 l.low;
  behind : IsRising (g.R.Ordered.answers l.places) → IsAround l.after (g.R.Ordered.answers l.places) l.start l.end
      → AllWithin (λ o. is_before l.after o ≡ false) (g.R.Ordered.answers l.places) l.high
      (length (g.R.Ordered.answers l.places));
}

abbrev pub decreases-loop-low : goal.decreases-loop-low
decreases-loop-low g l = l.high - l.low
