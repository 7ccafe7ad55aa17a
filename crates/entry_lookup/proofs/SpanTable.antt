-- The directories that the walk gathers of records in order, each with the run of the records below it.
use Rattle.std.proofs.Common.{◌≡◌, ℕ, ◌-◌, ◌<◌, ◌≤◌, ◌⊎◌, inl, inr, true, false, List, [], ◌∷◌, ◌++◌, length, get_or}
use Rattle.std.proofs.Common.{map, refl, sym, ap, ◌∙◌, subst, arith}
use Rattle.std.specs.List.{AllPairs, Contains, list_any}
use Rattle.std.specs.Ordering.{is_lt, is_le, is_eq}
use Rattle.std.specs.declared.cmp.Ordering.{Ordering}
use Rattle.std.specs.declared.cmp.Ordering.TheVariants.{Less, Equal, Greater}
use Rattle.std.proofs.lemmas.Bool.{cases_lt}
use Rattle.std.proofs.lemmas.Cmp.{tied_itself}
use Rattle.std.proofs.lemmas.List.{length-map, get_or_default, get_or-map as at_map}
use Rattle.std.proofs.lemmas.List.Elements.{Contains-get_or}
use Rattle.entry_list.specs.Order.{IsOrderedByPath}
use Rattle.entry_list.specs.Record.{Record}
use Rattle.entry_lookup.specs.Closest.{is_below}
use Rattle.entry_lookup.specs.NameSteps.{outer_cmp}
use Rattle.base_search.specs.Prefix.{prefix_cmp}
use Rattle.entry_lookup.specs.SpanSteps.{AreDirs, AreSpans, IsSpan}
use Rattle.entry_lookup.specs.Tables.{IsBounded, IsDirs, last_slash, search_bound}
use Rattle.entry_lookup.specs.WalkSteps.{AreExtents, SpanValue, span_value}
use Rattle.entry_lookup.specs.declared.walk.Span.{Span}
use Rattle.entry_lookup.proofs.Outer.{outer_total}
use Rattle.base_search.proofs.Parting.{before_middle, behind_middle, equal_from}
use Rattle.base_search.proofs.Places.{some_of}
use Rattle.entry_lookup.proofs.RunsFound.{begins_is, rising_prefixes}
use Rattle.base_search.proofs.OrderedAnswers.{pairs_map}
use Rattle.entry_lookup.proofs.SortedNames.{sorted, sorted_contains, sorted_has, sorted_length, sorted_rises}
use Rattle.entry_lookup.proofs.TableMade.{contains_map, contains_map_in}
use Rattle.entry_lookup.proofs.TableSearch.{any_from, any_place}

-- names that rise are distinct
one_span : (ss : List SpanValue) → AllPairs (λ a b. outer_cmp a.name b.name ≡ Less) ss → (s t : SpanValue)
    → Contains ss s → Contains ss t → s.name ≡ t.name → s ≡ t
one_span ss rises s t c d same = by (cases_lt c.0 d.0)
  where
    apart : (a b : SpanValue) → (i : Contains ss a) → (j : Contains ss b) → i.0 < j.0 → a.name ≡ b.name → ⊥
    apart a b i j before e =
        let read : get_or ss i.0 b ≡ a = get_or_default ss i.0 b a i.1 ∙ i.2 in
        let less : outer_cmp (get_or ss i.0 b).name (get_or ss j.0 b).name ≡ Less = rises i.0 j.0 b before j.1 in
        let same : outer_cmp (get_or ss i.0 b).name (get_or ss j.0 b).name ≡ Equal =
        ap (λ (x : SpanValue). outer_cmp x.name (get_or ss j.0 b).name) read
        ∙ ap (λ (x : SpanValue). outer_cmp a.name x.name) j.2 ∙ ap (λ (n : List ℕ). outer_cmp n b.name) e
        ∙ tied_itself outer_total b.name in
        cc

    level : (d.0 < c.0) ⊎ (c.0 ≤ d.0) → d.0 ≤ c.0 → s ≡ t
    level (inl l) h = absurd (apart t s d c l (sym same))
    level (inr l) h =
        let e : c.0 ≡ d.0 = omega arith in
        sym c.2 ∙ ap (λ (i : ℕ). get_or ss i s) e ∙ get_or_default ss d.0 s t d.1 ∙ d.2

    by : (c.0 < d.0) ⊎ (d.0 ≤ c.0) → s ≡ t
    by (inl l) = absurd (apart s t c d l same)
    by (inr h) = level (cases_lt d.0 c.0) h

module _ (rs : List Record) (ordered : IsOrderedByPath rs) (ss : List SpanValue)
    (x : AreExtents false false rs ss) where
  module _ (s : SpanValue) (c : Contains ss s) where
    abbrev answer : Record → Ordering
    answer r = prefix_cmp (s.name ++ 47 ∷ []) r.path

    ends : (s.start < s.end) × (s.end ≤ length rs)
    ends = x.some s c

    len : length (map answer rs) ≡ length rs
    len = length-map rs answer

    z : Record
    z = some_of rs s.start (omega (arith, ends))

    equal_at : (k : ℕ) → k < length rs → ((q : Record) → is_below s.name (get_or rs k q) ≡ true) → (o : Ordering)
        → get_or (map answer rs) k o ≡ Equal
    equal_at k l t o = at_map answer rs k z o l
        ∙ equal_from (answer (get_or rs k z)) (begins_is (s.name ++ 47 ∷ []) (get_or rs k z) ∙ t z)

    first : (o : Ordering) → get_or (map answer rs) s.start o ≡ Equal
    first = equal_at s.start (omega (arith, ends)) (λ q. x.first s q c)

    last : (o : Ordering) → get_or (map answer rs) (s.end - 1) o ≡ Equal
    last = equal_at (s.end - 1) (omega (arith, ends)) (λ q. x.last s q c)

    -- none that is below the directory is outside
    outside : (k : ℕ) → k < length rs → answer (get_or rs k z) ≡ Equal → (s.start ≤ k) × (k < s.end)
    outside k l e =
        let below : is_below s.name (get_or rs k z) ≡ true =
        sym (begins_is (s.name ++ 47 ∷ []) (get_or rs k z)) ∙ ap is_eq e in
        let t = x.covers s.name k l (λ q. ap (is_below s.name) (get_or_default rs k q z l) ∙ below) in
        let one : t.0 ≡ s = one_span ss x.rises t.0 s t.1 c t.2 in
        (omega (arith, t.3, ap (λ (u : SpanValue). u.start) one), omega (arith, t.4, ap (λ (u : SpanValue). u.end) one))

    before : (k : ℕ) (o : Ordering) → 0 ≤ k → k < s.start → is_lt (get_or (map answer rs) k o) ≡ true
    before k o low u = by (answer (get_or rs k z)) refl
      where
        read : get_or (map answer rs) k o ≡ answer (get_or rs k z)
        read = at_map answer rs k z o (omega (arith, ends))

        by : (a : Ordering) → answer (get_or rs k z) ≡ a → is_lt (get_or (map answer rs) k o) ≡ true
        by Less e = ap is_lt (read ∙ e)
        by Equal e = absurd (omega (arith, outside k (omega (arith, ends)) e))
        by Greater e =
            let up : get_or (map answer rs) s.start o ≡ Greater = (rising_prefixes (s.name ++ 47 ∷ []) rs ordered).above
            k s.start o u (omega (arith, ends, len)) (read ∙ e) in
            let both : Greater ≡ Equal = sym up ∙ first o in
            cc

    behind : (k : ℕ) (o : Ordering) → s.end ≤ k → k < length (map answer rs)
        → is_le (get_or (map answer rs) k o) ≡ false
    behind k o l u = by (answer (get_or rs k z)) refl
      where
        read : get_or (map answer rs) k o ≡ answer (get_or rs k z)
        read = at_map answer rs k z o (omega (arith, len))

        by : (a : Ordering) → answer (get_or rs k z) ≡ a → is_le (get_or (map answer rs) k o) ≡ false
        by Less e =
            let down : get_or (map answer rs) (s.end - 1) o ≡ Less =
            (rising_prefixes (s.name ++ 47 ∷ []) rs ordered).below (s.end - 1) k o (omega (arith, ends)) u
            (read ∙ e) in
            let both : Less ≡ Equal = sym down ∙ last o in
            cc
        by Equal e = absurd (omega (arith, outside k (omega (arith, len)) e))
        by Greater e = ap is_le (read ∙ e)

    span_of : IsSpan rs s
    span_of = record {
      some = ends.0;
      in_range = ends.1;
      starts = record {
        in_range = omega (arith, ends, len);
        before = before;
        behind = behind_middle false (map answer rs) s.start Equal (omega (arith, ends, len)) first refl
            (rising_prefixes (s.name ++ 47 ∷ []) rs ordered);
      };
      ends = record {
        in_range = omega (arith, ends, len);
        before = λ k d l u. before_middle true (map answer rs) (s.end - 1) Equal (omega (arith, ends, len)) last refl
            (rising_prefixes (s.name ++ 47 ∷ []) rs ordered) k d l (omega (arith, ends));
        behind = behind;
      };
    }

  dirs_of : AreDirs rs (map (λ s. s.name) ss)
  dirs_of = record {
    rises = pairs_map (λ a b. outer_cmp a b ≡ Less) (λ (s : SpanValue). s.name) ss x.rises;
    each = λ name. (
      λ c. let s = contains_map (λ (s : SpanValue). s.name) ss name c in
          subst (λ (n : List ℕ). list_any (is_below n) rs ≡ true) s.2
          (any_from (is_below s.0.name) rs s.0.start (omega (arith, x.some s.0 s.1)) (λ q. x.first s.0 q s.1)),
      λ h. let a = any_place (is_below name) rs h in
          let s = x.covers name a.0 a.1 a.2 in
          subst (λ (n : List ℕ). Contains (map (λ (t : SpanValue). t.name) ss) n) s.2
          (contains_map_in (λ (t : SpanValue). t.name) ss s.0 s.1),
    );
  }

pub spans_are : (rs : List Record) (spans : List Span) → IsOrderedByPath rs
    → AreExtents false false rs (map span_value spans) → AreSpans rs spans
spans_are rs spans ordered x = record {
  ordered = ordered;
  each = λ k d l. span_of rs ordered (map span_value spans) x (get_or (map span_value spans) k d)
      (Contains-get_or (map span_value spans) k d l);
  dirs = dirs_of rs ordered (map span_value spans) x;
}

-- what is so of the number of a table's directories is so of them in the order of their names
pub dirs_named : (P : ℕ → Type 0) (rs : List Record) (names : List (List ℕ)) → AreDirs rs names → P (length names)
    → (ns : List (List ℕ)) × IsDirs rs ns × P (length ns)
dirs_named P rs names dirs h = (
  sorted names,
  record {
    once = sorted_rises names dirs.rises;
    each = λ name.
        (λ c. (dirs.each name).0 (sorted_contains names name c), λ t. sorted_has names name ((dirs.each name).1 t));
  },
  subst P (sym (sorted_length names)) h,
)

pub dirs_bounded : (rs : List Record) (path : List ℕ) (names : List (List ℕ)) (count : ℕ) → IsOrderedByPath rs
    → AreDirs rs names → count ≤ search_bound (last_slash path) path rs (length names) → (0 < length rs → 1 ≤ count)
    → IsBounded rs path count
dirs_bounded rs path names count ordered dirs h one =
    let named = dirs_named (λ n. count ≤ search_bound (last_slash path) path rs n) rs names dirs h in
    record { ordered = ordered; names = named.0; dirs = named.1; at_most = named.2; at_least_one = one }

pub bounded_less : (rs : List Record) (path : List ℕ) (more count : ℕ) → IsBounded rs path more → count ≤ more
    → (0 < length rs → 1 ≤ count) → IsBounded rs path count
bounded_less rs path more count h less one =
    record {
      ordered = h.ordered;
      names = h.names;
      dirs = h.dirs;
      at_most = omega (arith, h.at_most);
      at_least_one = one;
    }
