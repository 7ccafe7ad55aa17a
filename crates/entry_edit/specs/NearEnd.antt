-- The results of steps of a search that begins near the end of a list (the library's own). Public clauses don't use
-- these definitions.
use Rattle.std.specs.Prelude.{ℕ, ◌≤◌, false, List, length}
use Rattle.std.specs.declared.cmp.Ordering.{Ordering}
use Rattle.base_search.specs.Halving.{IsAround, IsPartedAt, IsRising}

-- between these indices is the first that isn't less than the target
pub record ClosesIn (os : List Ordering) (p : ℕ × ℕ) : Type 0 where
  pub in_order : p.0 ≤ p.1
  pub inside : p.1 ≤ length os
  pub around : IsRising os → IsAround false os p.0 p.1

-- this is the first index that isn't less than the target
pub record IsPartitionPoint (os : List Ordering) (place : ℕ) : Type 0 where
  pub in_range : place ≤ length os
  pub parts : IsRising os → IsPartedAt false os place
