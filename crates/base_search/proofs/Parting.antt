-- The consequences of one result in the middle of rising results for the others.
use Rattle.std.proofs.Common.{◌≡◌, ℕ, ◌+◌, ◌<◌, ◌≤◌, ◌⊎◌, inl, inr, Bool, true, false, List, length, get_or, refl, sym}
use Rattle.std.proofs.Common.{ap, ◌∙◌, arith}
use Rattle.std.specs.List.{AllPairs, AllWithin, HoldsAt}
use Rattle.std.specs.Ordering.{is_lt, is_le, is_eq}
use Rattle.std.specs.declared.cmp.Ordering.{Ordering}
use Rattle.std.specs.declared.cmp.Ordering.TheVariants.{Less, Equal, Greater}
use Rattle.std.proofs.lemmas.Bool.{cases_lt}
use Rattle.base_search.specs.Halving.{is_before, IsRising, IsPartedAt, IsAround, IsBracket, IsGapAt}

-- the results before one that is before are so too
pub less_from : (o : Ordering) → is_lt o ≡ true → o ≡ Less
less_from Less e = refl
less_from Equal e = cc
less_from Greater e = cc

pub greater_from : (o : Ordering) → is_le o ≡ false → o ≡ Greater
greater_from Less e = cc
greater_from Equal e = cc
greater_from Greater e = refl

either : (b : Bool) → (b ≡ true) ⊎ (b ≡ false)
either true = inl refl
either false = inr refl

pub rises : (after : Bool) (os : List Ordering) → IsRising os
    → AllPairs (λ o q. is_before after q ≡ true → is_before after o ≡ true) os
rises false os rising i j d before within h = ap is_lt (rising.below i j d before within (less_from (get_or os j d) h))
rises true os rising i j d before within h = by (either (is_le (get_or os i d)))
  where
    by : (is_le (get_or os i d) ≡ true) ⊎ (is_le (get_or os i d) ≡ false) → is_le (get_or os i d) ≡ true
    by (inl e) = e
    by (inr e) =
        let above : is_le (get_or os j d) ≡ false =
        ap is_le (rising.above i j d before within (greater_from (get_or os i d) e)) in
        cc

module _ (after : Bool) (os : List Ordering) (middle : ℕ) (o : Ordering) (within : middle < length os)
    (read : HoldsAt (λ q. q ≡ o) os middle) where
  pub before_middle : is_before after o ≡ true → IsRising os
      → AllWithin (λ q. is_before after q ≡ true) os 0 (middle + 1)
  before_middle h rising k d low high = by (cases_lt k middle)
    where
      by : (k < middle) ⊎ (middle ≤ k) → is_before after (get_or os k d) ≡ true
      by (inl front) = rises after os rising k middle d front within (ap (is_before after) (read d) ∙ h)
      by (inr back) =
          let same : k ≡ middle = omega arith in
          ap (λ (i : ℕ). is_before after (get_or os i d)) same ∙ ap (is_before after) (read d) ∙ h

  pub behind_middle : is_before after o ≡ false → IsRising os
      → AllWithin (λ q. is_before after q ≡ false) os middle (length os)
  behind_middle h rising k d low high = by (cases_lt middle k)
    where
      here : (b : Bool) → is_before after (get_or os k d) ≡ b → middle < k → is_before after (get_or os k d) ≡ false
      here true e front =
          let told : is_before after (get_or os middle d) ≡ true = rises after os rising middle k d front high e in
          let other : is_before after (get_or os middle d) ≡ false = ap (is_before after) (read d) ∙ h in
          cc
      here false e front = e

      by : (middle < k) ⊎ (k ≤ middle) → is_before after (get_or os k d) ≡ false
      by (inl front) = here (is_before after (get_or os k d)) (λ i. is_before after (get_or os k d)) front
      by (inr back) =
          let same : k ≡ middle = omega arith in
          ap (λ (i : ℕ). is_before after (get_or os i d)) same ∙ ap (is_before after) (read d) ∙ h

-- ---- what is known around a window

less_is : (after : Bool) (o : Ordering) → o ≡ Less → is_before after o ≡ true
less_is false o e = ap is_lt e
less_is true o e = ap is_le e

greater_is : (after : Bool) (o : Ordering) → o ≡ Greater → is_before after o ≡ false
greater_is false o e = ap is_lt e
greater_is true o e = ap is_le e

pub bracket_before : (after : Bool) (os : List Ordering) (start end : ℕ) → IsBracket os start end
    → AllWithin (λ q. is_before after q ≡ true) os 0 start
bracket_before after os start end h k d low high = less_is after (get_or os k d) (h.below k d low high)

pub bracket_behind : (after : Bool) (os : List Ordering) (start end : ℕ) → IsBracket os start end
    → AllWithin (λ q. is_before after q ≡ false) os end (length os)
bracket_behind after os start end h k d low high = greater_is after (get_or os k d) (h.above k d low high)

pub bracket_around : (after : Bool) (os : List Ordering) (start end : ℕ) → IsBracket os start end
    → IsAround after os start end
bracket_around after os start end h =
    record { before = bracket_before after os start end h; behind = bracket_behind after os start end h }

pub around_whole : (after : Bool) (os : List Ordering) (end : ℕ) → end ≡ length os → IsAround after os 0 end
around_whole after os end e =
    record { before = λ k d low high. absurd (omega arith); behind = λ k d low high. absurd (omega (arith, e)) }

pub bracket_whole : (os : List Ordering) (end : ℕ) → end ≡ length os → IsBracket os 0 end
bracket_whole os end e =
    record { below = λ k d low high. absurd (omega arith); above = λ k d low high. absurd (omega (arith, e)) }

-- ---- the consequences of the index that a binary search returns

other_above : (o : Ordering) → is_lt o ≡ false → is_eq o ≡ false → is_le o ≡ false
other_above Less e f = cc
other_above Equal e f = cc
other_above Greater e f = refl

pub equal_from : (o : Ordering) → is_eq o ≡ true → o ≡ Equal
equal_from Less e = cc
equal_from Equal e = refl
equal_from Greater e = cc

pub gap_behind : (os : List Ordering) (start end low : ℕ) → IsBracket os start end → IsPartedAt false os low → low ≡ end
    → IsGapAt (λ o. o) os low
gap_behind os start end low bracket parted same = record {
  below = λ k d l u. less_from (get_or os k d) (parted.before k d l u);
  above = λ k d l u. bracket.above k d (omega (arith, same)) u;
}

pub gap_other : (os : List Ordering) (low : ℕ) (o : Ordering) → IsRising os → IsPartedAt false os low → low < length os
    → HoldsAt (λ q. q ≡ o) os low → is_eq o ≡ false → IsGapAt (λ o. o) os low
gap_other os low o rising parted within read other = record {
  below = λ k d l u. less_from (get_or os k d) (parted.before k d l u);
  above = λ k d l u. greater_from (get_or os k d)
      (behind_middle true os low o within read (above (λ d. parted.behind low d (omega arith) within)) rising k d l u);
}
  where
    above : HoldsAt (λ q. is_lt q ≡ false) os low → is_le o ≡ false
    above h = other_above o (sym (ap is_lt (read o)) ∙ h o) other

-- no result before the first that isn't Less is Greater
pub parted_before : (os : List Ordering) (low : ℕ) → IsPartedAt false os low → AllWithin (λ q. is_le q ≡ true) os 0 low
parted_before os low p k d l u = less_is true (get_or os k d) (less_from (get_or os k d) (p.before k d l u))

-- the first result that is Greater is not before the first that isn't Less
pub parted_around : (os : List Ordering) (low end : ℕ) → IsPartedAt false os low → end ≡ length os
    → IsAround true os low end
parted_around os low end p e =
    record { before = parted_before os low p; behind = λ k d l u. absurd (omega (arith, e)) }

-- if none is Equal, all results after the gap are Greater
pub gap_parted : (os : List Ordering) (i : ℕ) → i ≤ length os → IsGapAt (λ o. o) os i → IsPartedAt false os i
gap_parted os i fits gap = record {
  in_range = fits;
  before = λ k d l u. ap is_lt (gap.below k d l u);
  behind = λ k d l u. ap is_lt (gap.above k d l u);
}
