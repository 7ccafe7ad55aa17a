-- What a search by path and stage found, as a place among rows.
use Rattle.std.proofs.Common.{◌≡◌, ℕ, ◌<◌, ◌≤◌, List, length, map, subst, arith, Option, Some, None, Result, Ok, Err}
use Rattle.std.proofs.Common.{IfOk, IfErr, false, refl, sym, true, ◌∙◌}
use Rattle.std.specs.Ordering.{is_lt}
use Rattle.std.specs.declared.cmp.Ordering.{Ordering}
use Rattle.std.specs.Option.{ok_or}
use Rattle.std.proofs.lemmas.Bool.Decides.{nat_tests}
use Rattle.std.proofs.lemmas.List.{length-map}
use Rattle.gix_index.specs.Lookup.{IsKeyAt, insertion_of, record_index}
use Rattle.gix_index.specs.Order.{IsStrictlyOrdered, key_cmp}
use Rattle.gix_index.specs.Record.{Record}
use Rattle.entry_lookup.proofs.Lookup.{key_answer, key_at, split_by_key}
use Rattle.entry_lookup.proofs.RunsFound.{within_map}
use Rattle.base_search.specs.Halving.{IsBracket, IsEqualAt, IsGapAt, IsPartedAt, IsRising}
use Rattle.base_search.proofs.Halving.{count_by_is}
use Rattle.base_search.proofs.OrderedAnswers.{equal_at, gap_at, rising_of}
use Rattle.base_search.proofs.Parting.{bracket_whole}
use Rattle.index_c.specs.Finding.{place_among}

-- ---- in the words of the lookups

module _ (path : List ℕ) (stage : ℕ) (rs : List Record) (r : Result ℕ ℕ)
    (found : IfOk r (IsEqualAt (λ o. o) (map (key_cmp path stage) rs))) where
  equal : IfOk r (IsEqualAt (key_cmp path stage) rs)
  equal = equal_at (key_cmp path stage) rs r found

  pub key_there : IfOk r (IsKeyAt path stage rs)
  key_there = key_at path stage rs r equal

  pub search_answer : (end : ℕ) → end ≡ length rs → IfErr r (λ i. i ≤ end)
      → (IsRising (map (key_cmp path stage) rs) → IsBracket (map (key_cmp path stage) rs) 0 end
      → IfErr r (IsGapAt (λ o. o) (map (key_cmp path stage) rs)))
      → IsStrictlyOrdered rs → r ≡ ok_or (record_index path stage rs) (insertion_of path stage rs)
  search_answer end many fits absent ordered =
      key_answer path stage rs r equal (subst (λ (n : ℕ). IfErr r (λ i. i ≤ n)) many fits)
      (gap_at (key_cmp path stage) rs 0 end r
      (bracket_whole (map (key_cmp path stage) rs) end (many ∙ sym (length-map rs (key_cmp path stage)))) absent)
      ordered

-- ---- as an index, of which one past the last means none

some_among : (count i : ℕ) → i < count → place_among count i ≡ Some i
some_among count i within = grind (arith, nat_tests)

none_among : (count : ℕ) → place_among count count ≡ None
none_among count = grind (arith, nat_tests)

ok_is_some : (i n : ℕ) (o : Option ℕ) → Ok i ≡ ok_or o n → Some i ≡ o
ok_is_some i n (Some j) e = cc
ok_is_some i n None e = cc

err_is_none : (i n : ℕ) (o : Option ℕ) → Err i ≡ ok_or o n → None ≡ o
err_is_none i n (Some j) e = cc
err_is_none i n None e = cc

pub found_place : (count i n : ℕ) (o : Option ℕ) → i < count → Ok i ≡ ok_or o n → place_among count i ≡ o
found_place count i n o within e = some_among count i within ∙ ok_is_some i n o e

pub missed_place : (count i n : ℕ) (o : Option ℕ) → Err i ≡ ok_or o n → place_among count count ≡ o
missed_place count i n o e = none_among count ∙ err_is_none i n o e

-- ---- how many rows are before

pub bound_is : (path : List ℕ) (stage : ℕ) (rs : List Record) (i : ℕ)
    → (IsRising (map (key_cmp path stage) rs) → IsPartedAt false (map (key_cmp path stage) rs) i)
    → IsStrictlyOrdered rs → i ≡ insertion_of path stage rs
bound_is path stage rs i parts ordered =
    let f : Record → Ordering = key_cmp path stage in
    let n : length (map f rs) ≡ length rs = length-map rs f in
    let h = parts (rising_of f rs (split_by_key path stage rs ordered)) in
    sym (count_by_is (λ (r : Record). is_lt (f r)) rs i (omega (arith, h.in_range))
    (within_map is_lt f (λ r. is_lt (f r)) true rs 0 i (λ r. refl) h.before)
    (λ k d l u. within_map is_lt f (λ r. is_lt (f r)) false rs i (length (map f rs)) (λ r. refl) h.behind k d l
    (omega arith)))
