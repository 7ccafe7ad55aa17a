-- The results of comparisons over a list, and their consequences for the list.
use Rattle.std.proofs.Common.{◌≡◌, ℕ, List, [], ◌∷◌, length, get_or, map, sym, ◌∙◌, subst, arith, Result, Ok, Err}
use Rattle.std.proofs.Common.{IfOk, IfErr}
use Rattle.std.proofs.Math.ListN.{get_or-map as shift}
use Rattle.std.specs.List.{AllPairs}
use Rattle.std.specs.declared.cmp.Ordering.{Ordering}
use Rattle.std.specs.declared.cmp.Ordering.TheVariants.{Less, Greater}
use Rattle.std.proofs.lemmas.List.{length-map, get_or-map as at_map}
use Rattle.base_search.specs.Halving.{IsBracket, IsEqualAt, IsGapAt, IsRising, IsSplitBy}

-- ---- what holds of a list holds of the row of its answers

pub pairs_map : {X Y : Type 0} (R : Y → Y → Type 0) (f : X → Y) (xs : List X) → AllPairs (λ x y. R (f x) (f y)) xs
    → AllPairs R (map f xs)
pairs_map R f [] h i j d before within = absurd (omega arith)
pairs_map {Y} R f (x ∷ xs) h i j d before within =
    let n : length (map f (x ∷ xs)) ≡ length (x ∷ xs) = length-map (x ∷ xs) f in
    let a : get_or (map f (x ∷ xs)) i d ≡ f (get_or (x ∷ xs) i x) = at_map f (x ∷ xs) i x d (omega arith) in
    let b : get_or (map f (x ∷ xs)) j d ≡ f (get_or (x ∷ xs) j x) = at_map f (x ∷ xs) j x d (omega arith) in
    let P : Y → Type 0 = λ u. R u (get_or (map f (x ∷ xs)) j d) in
    let Q : Y → Type 0 = λ v. R (f (get_or (x ∷ xs) i x)) v in
    subst P (sym a) (subst Q (sym b) (h i j x before (omega arith)))

-- a list that is split by an order gives a rising row
pub rising_of : {X : Type 0} (cmp : X → Ordering) (xs : List X) → IsSplitBy cmp xs → IsRising (map cmp xs)
rising_of cmp xs split = record {
  below = pairs_map (λ o q. q ≡ Less → o ≡ Less) cmp xs split.below;
  above = pairs_map (λ o q. o ≡ Greater → q ≡ Greater) cmp xs split.above;
}

-- ---- the consequences of a search of the results for the list

pub equal_at : {X : Type 0} (cmp : X → Ordering) (xs : List X) (r : Result ℕ ℕ)
    → IfOk r (IsEqualAt (λ o. o) (map cmp xs)) → IfOk r (IsEqualAt cmp xs)
equal_at cmp xs (Ok i) h = record {
  in_range = omega (arith, h.in_range, length-map xs cmp);
  here = λ d. sym (shift cmp xs i d) ∙ h.here (cmp d);
}
equal_at cmp xs (Err i) h = tt

pub gap_of : {X : Type 0} (cmp : X → Ordering) (xs : List X) (i : ℕ) → IsGapAt (λ o. o) (map cmp xs) i
    → IsGapAt cmp xs i
gap_of cmp xs i gap =
    let n : length (map cmp xs) ≡ length xs = length-map xs cmp in
    record {
      below = λ k d l u. sym (shift cmp xs k d) ∙ gap.below k (cmp d) l u;
      above = λ k d l u. sym (shift cmp xs k d) ∙ gap.above k (cmp d) l (omega (arith, n));
    }

pub gap_at : {X : Type 0} (cmp : X → Ordering) (xs : List X) (start end : ℕ) (r : Result ℕ ℕ)
    → IsBracket (map cmp xs) start end
    → (IsRising (map cmp xs) → IsBracket (map cmp xs) start end → IfErr r (IsGapAt (λ o. o) (map cmp xs)))
    → IsSplitBy cmp xs → IfErr r (IsGapAt cmp xs)
gap_at cmp xs start end (Ok i) bracket h split = tt
gap_at cmp xs start end (Err i) bracket h split = gap_of cmp xs i (h (rising_of cmp xs split) bracket)
