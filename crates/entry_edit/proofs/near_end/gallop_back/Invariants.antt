use Rattle.std.proofs.Common.{◌≡◌, ◌≤◌, length, false}
use Rattle.std.specs.List.{AllWithin}
use Rattle.base_search.specs.Halving.{IsRising, is_before}
use Rattle.entry_edit.proofs.near_end.gallop_back.Given as goal

abbrev pub invariant-loop-high : goal.invariant-loop-high
invariant-loop-high g l = record {
  in_range : l.high ≤ l.len;
  whole : l.len ≡ length (g.R.Ordered.answers l.places);
  behind : IsRising (g.R.Ordered.answers l.places)
      → AllWithin (λ o. is_before false o ≡ false) (g.R.Ordered.answers l.places) l.high
      (length (g.R.Ordered.answers l.places));
}

abbrev pub decreases-loop-high : goal.decreases-loop-high
decreases-loop-high g l = l.high
