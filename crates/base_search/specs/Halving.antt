-- Results of comparisons with a target, and the results of a binary search over them (the library's own).
use Rattle.std.specs.Prelude.{◌≡◌, ℕ, ◌<◌, ◌≤◌, Bool, true, false, List, length}
use Rattle.std.specs.List.{AllPairs, AllWithin, HoldsAt}
use Rattle.std.specs.Ordering.{is_lt, is_le}
use Rattle.std.specs.declared.cmp.Ordering.{Ordering}
use Rattle.std.specs.declared.cmp.Ordering.TheVariants.{Less, Equal, Greater}

-- elements that are less come before all others, and elements that are greater come after all others
pub record IsSplitBy {X : Type 0} (cmp : X → Ordering) (xs : List X) : Type 0 where
  pub below : AllPairs (λ x y. cmp y ≡ Less → cmp x ≡ Less) xs
  pub above : AllPairs (λ x y. cmp x ≡ Greater → cmp y ≡ Greater) xs

-- the element at i is equal to the target
pub record IsEqualAt {X : Type 0} (cmp : X → Ordering) (xs : List X) (i : ℕ) : Type 0 where
  pub in_range : i < length xs
  pub here : HoldsAt (λ x. cmp x ≡ Equal) xs i

-- the elements before i are less than the target, those from i on are greater
pub record IsGapAt {X : Type 0} (cmp : X → Ordering) (xs : List X) (i : ℕ) : Type 0 where
  pub below : AllWithin (λ x. cmp x ≡ Less) xs 0 i
  pub above : AllWithin (λ x. cmp x ≡ Greater) xs i (length xs)

-- the results of comparisons rise: first all Less, then all Equal, then all Greater
abbrev pub IsRising : List Ordering → Type 0
IsRising os = IsSplitBy (λ o. o) os

-- the result is Less or, with `after`, not Greater
abbrev pub is_before : Bool → Ordering → Bool
is_before false o = is_lt o
is_before true o = is_le o

-- the results before i are before (`is_before`), and those from i on aren't
pub record IsPartedAt (after : Bool) (os : List Ordering) (i : ℕ) : Type 0 where
  pub in_range : i ≤ length os
  pub before : AllWithin (λ o. is_before after o ≡ true) os 0 i
  pub behind : AllWithin (λ o. is_before after o ≡ false) os i (length os)

-- the results before `start` are before (`is_before`), and those from `end` on aren't
pub record IsAround (after : Bool) (os : List Ordering) (start end : ℕ) : Type 0 where
  pub before : AllWithin (λ o. is_before after o ≡ true) os 0 start
  pub behind : AllWithin (λ o. is_before after o ≡ false) os end (length os)

-- the results before `start` are Less, and those from `end` on are Greater
pub record IsBracket (os : List Ordering) (start end : ℕ) : Type 0 where
  pub below : AllWithin (λ o. o ≡ Less) os 0 start
  pub above : AllWithin (λ o. o ≡ Greater) os end (length os)
