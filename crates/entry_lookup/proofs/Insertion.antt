-- The consequences of an insertion index for the records before and after it.
use Rattle.std.proofs.Common.{◌≡◌, ◌≢◌, ℕ, false, List, length, get_or, refl, ap}
use Rattle.std.specs.List.{AllWithin, count_by}
use Rattle.std.specs.Ordering.{is_lt}
use Rattle.std.specs.declared.cmp.Ordering.{Ordering}
use Rattle.std.specs.declared.cmp.Ordering.TheVariants.{Less, Equal, Greater}
use Rattle.entry_lookup.specs.Lookup.{IsPathGap, insertion_of, insertion_of_path}
use Rattle.entry_list.specs.Order.{path_cmp, key_cmp, IsStrictlyOrdered, IsOrderedByPath}
use Rattle.entry_list.specs.Record.{Record}
use Rattle.base_search.specs.Halving.{IsSplitBy, IsGapAt}
use Rattle.base_search.proofs.Halving.{count_splits}
use Rattle.base_search.proofs.Parting.{less_from}
use Rattle.entry_lookup.proofs.Lookup.{split_by_key, split_by_path}
use Rattle.entry_list.proofs.Orders.{same_path}

not_less_from : (o : Ordering) → is_lt o ≡ false → o ≢ Less
not_less_from Less e h = cc
not_less_from Equal e h = cc
not_less_from Greater e h = cc

greater_from : (o : Ordering) → o ≢ Less → o ≢ Equal → o ≡ Greater
greater_from Less a b = absurd (a refl)
greater_from Equal a b = absurd (b refl)
greater_from Greater a b = refl

below_splits : (cmp : Record → Ordering) (rs : List Record) → IsSplitBy cmp rs
    → AllWithin (λ r. cmp r ≡ Less) rs 0 (count_by (λ r. is_lt (cmp r)) rs)
    × AllWithin (λ r. cmp r ≢ Less) rs (count_by (λ r. is_lt (cmp r)) rs) (length rs)
below_splits cmp rs split =
    let h = count_splits (λ (r : Record). is_lt (cmp r)) rs
    (λ i j d before within e. ap is_lt (split.below i j d before within (less_from _ e))) in
    (λ k d low high. less_from _ (h.0 k d low high), λ k d low high. not_less_from _ (h.1 k d low high))

pub insertion_of_path-splits : (path : List ℕ) (rs : List Record) → IsOrderedByPath rs
    → AllWithin (λ r. path_cmp r.path path ≡ Less) rs 0 (insertion_of_path path rs)
    × AllWithin (λ r. path_cmp r.path path ≢ Less) rs (insertion_of_path path rs) (length rs)
insertion_of_path-splits path rs o = below_splits (λ (r : Record). path_cmp r.path path) rs (split_by_path path rs o)

pub insertion_of-splits : (path : List ℕ) (stage : ℕ) (rs : List Record) → IsStrictlyOrdered rs
    → AllWithin (λ r. key_cmp path stage r ≡ Less) rs 0 (insertion_of path stage rs)
    × AllWithin (λ r. key_cmp path stage r ≢ Less) rs (insertion_of path stage rs) (length rs)
insertion_of-splits path stage rs o = below_splits (key_cmp path stage) rs (split_by_key path stage rs o)

pub path_gap-splits : (path : List ℕ) (rs : List Record) (i : ℕ) → IsOrderedByPath rs → IsPathGap path rs i
    → IsGapAt (λ r. path_cmp r.path path) rs i
path_gap-splits path rs i o gap =
    let h = insertion_of_path-splits path rs o in
    record {
      below = λ k d low high. h.0 k d low (rw gap.place at high);
      above = λ k d low high. greater_from _ (h.1 k d (rw gap.place at low) high)
          (λ e. gap.none k d high ((same_path (get_or rs k d).path path).0 e));
    }
