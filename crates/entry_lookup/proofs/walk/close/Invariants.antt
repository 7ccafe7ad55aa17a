use Rattle.std.proofs.Common.{◌≡◌, ◌≤◌, ◌++◌, All, drop, length, map, reverse, take}
use Rattle.entry_lookup.specs.WalkSteps.{span_value}
use Rattle.entry_lookup.proofs.walk.close.Given as goal

-- the last ones were moved, from the last on
abbrev pub invariant-loop-live : goal.invariant-loop-live
invariant-loop-live l = record {
  within : length l.live.items ≤ length l.fn.live.items;
  left : map span_value l.live.items ≡ take (length l.live.items) (map span_value l.fn.live.items);
  moved : map span_value l.closed.items
      ≡ map span_value l.fn.closed.items ++ reverse (drop (length l.live.items) (map span_value l.fn.live.items));
  long : All (λ s. l.len ≤ length s.name) (drop (length l.live.items) (map span_value l.fn.live.items));
}

abbrev pub decreases-loop-live : goal.decreases-loop-live
decreases-loop-live l = length l.live.items
