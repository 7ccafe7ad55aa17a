-- The consequences of the first index that isn't before a path and a stage.
use Rattle.std.proofs.Common.{◌≡◌, ◌≢◌, ℕ, ◌<◌, ◌≤◌, true, false, List, length, map, Ok, Err, sym, ◌∙◌, arith}
use Rattle.std.proofs.lemmas.List.{length-map}
use Rattle.std.specs.List.{HoldsAt}
use Rattle.std.specs.Option.{ok_or}
use Rattle.std.specs.Ordering.{is_eq}
use Rattle.std.specs.declared.cmp.Ordering.{Ordering}
use Rattle.entry_list.specs.Order.{IsStrictlyOrdered, key_cmp}
use Rattle.entry_list.specs.Record.{Record}
use Rattle.entry_lookup.specs.Lookup.{IsKeyAt, insertion_of, record_index}
use Rattle.entry_lookup.proofs.Lookup.{key_answer, key_at, split_by_key}
use Rattle.base_search.specs.Halving.{IsEqualAt, IsGapAt, IsPartedAt, IsRising}
use Rattle.base_search.proofs.OrderedAnswers.{equal_at, gap_of, rising_of}
use Rattle.base_search.proofs.Parting.{bracket_whole, equal_from, gap_behind, gap_other}

module _ (path : List ℕ) (stage : ℕ) (rs : List Record) (low : ℕ) where
  -- the one there is what is asked
  module _ (o : Ordering) (within : low < length rs) (read : HoldsAt (λ q. q ≡ o) (map (key_cmp path stage) rs) low)
      (same : is_eq o ≡ true) where
    equal : IsEqualAt (key_cmp path stage) rs low
    equal = equal_at (key_cmp path stage) rs (Ok low) (record {
      in_range = omega (arith, within, length-map rs (key_cmp path stage));
      here = λ d. read d ∙ equal_from o same;
    })

    pub key_there : IsKeyAt path stage rs low
    key_there = key_at path stage rs (Ok low) equal

    pub key_told : IsStrictlyOrdered rs
        → Ok low ≡ ok_or (record_index path stage rs) (insertion_of path stage rs)
    key_told = key_answer path stage rs (Ok low) equal tt (λ s. tt)

  module _ (parts : IsRising (map (key_cmp path stage) rs) → IsPartedAt false (map (key_cmp path stage) rs) low)
      (fits : low ≤ length rs) where
    told : IsGapAt (λ o. o) (map (key_cmp path stage) rs) low → IsStrictlyOrdered rs
        → Err low ≡ ok_or (record_index path stage rs) (insertion_of path stage rs)
    told gap o = key_answer path stage rs (Err low) tt fits (λ s. gap_of (key_cmp path stage) rs low gap) o

    rising : IsStrictlyOrdered rs → IsRising (map (key_cmp path stage) rs)
    rising o = rising_of (key_cmp path stage) rs (split_by_key path stage rs o)

    -- there is none
    pub end_told : low ≡ length rs → IsStrictlyOrdered rs
        → Err low ≡ ok_or (record_index path stage rs) (insertion_of path stage rs)
    end_told e o = told (gap_behind (map (key_cmp path stage) rs) 0 low low
        (bracket_whole (map (key_cmp path stage) rs) low (e ∙ sym (length-map rs (key_cmp path stage))))
        (parts (rising o)) (omega arith)) o

    -- the one there is another
    pub gap_told : low ≢ length rs → (o : Ordering) → HoldsAt (λ q. q ≡ o) (map (key_cmp path stage) rs) low
        → is_eq o ≡ false → IsStrictlyOrdered rs
        → Err low ≡ ok_or (record_index path stage rs) (insertion_of path stage rs)
    gap_told n q read other o = told (gap_other (map (key_cmp path stage) rs) low q (rising o) (parts (rising o))
        (omega (arith, n, fits, length-map rs (key_cmp path stage))) read other) o
