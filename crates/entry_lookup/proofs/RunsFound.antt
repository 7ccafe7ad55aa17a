-- Runs of a list of comparison results, as runs of the records.
use Rattle.std.proofs.Common.{◌≡◌, ◌≢◌, ℕ, ◌<◌, ◌≤◌, ◌⊎◌, inl, inr, Bool, true, false, List, [], ◌∷◌, ◌++◌, length}
use Rattle.std.proofs.Common.{get_or, take, map, All, Option, Some, None, IfSome, refl, sym, ap, ◌∙◌, subst, arith}
use Rattle.std.proofs.Math.ListN.{get_or-map}
use Rattle.std.specs.List.{AllWithin}
use Rattle.std.specs.Ordering.{is_lt, is_le, is_eq}
use Rattle.std.specs.declared.cmp.Ordering.{Ordering}
use Rattle.std.specs.declared.cmp.Ordering.TheVariants.{Less, Equal, Greater}
use Rattle.std.specs.declared.ops.Range.{Range}
use Rattle.std.specs.Cmp.Lexicographic.{texts_ties, nat_list_eq_equiv}
use Rattle.std.proofs.lemmas.Bool.{cases_lt}
use Rattle.std.proofs.lemmas.List.{length-map, append-nil}
use Rattle.entry_lookup.specs.Lookup.{insertion_of_path}
use Rattle.entry_list.specs.Order.{path_cmp, IsOrderedByPath}
use Rattle.entry_list.specs.Record.{Record}
use Rattle.base_search.specs.Halving.{IsSplitBy, IsRising, IsPartedAt}
use Rattle.base_search.specs.Prefix.{prefix_cmp}
use Rattle.base_search.proofs.Halving.{split_by, count_by_is}
use Rattle.base_search.proofs.OrderedAnswers.{rising_of}
use Rattle.entry_lookup.proofs.Lookup.{split_by_path}
use Rattle.entry_list.proofs.Orders.{paths_total}
use Rattle.entry_lookup.specs.Range.{FindsRange, IsPart, IsRun, IsRange, IsPrefixRange, is_at, begins_with}
use Rattle.base_search.proofs.Prefixes.{prefixes_rise, below_by_prefix}

-- ---- what is true of the results is true of the list

pub within_map : {X Y : Type 0} (p : Y → Bool) (f : X → Y) (test : X → Bool) (b : Bool) (xs : List X) (from to : ℕ)
    → ((x : X) → p (f x) ≡ test x) → AllWithin (λ y. p y ≡ b) (map f xs) from to
    → AllWithin (λ x. test x ≡ b) xs from to
within_map p f test b xs from to same h k d low high =
    sym (same (get_or xs k d)) ∙ ap p (sym (get_or-map f xs k d)) ∙ h k (f d) low high

-- ---- a list that is split by an order gives a rising row

pub rising_paths : (path : List ℕ) (rs : List Record) → IsOrderedByPath rs
    → IsRising (map (λ r. path_cmp r.path path) rs)
rising_paths path rs o = rising_of (λ (r : Record). path_cmp r.path path) rs (split_by_path path rs o)

pub split_prefixes : (prefix : List ℕ) (rs : List Record) → IsOrderedByPath rs
    → IsSplitBy (λ r. prefix_cmp prefix r.path) rs
split_prefixes prefix rs o = split_by paths_total (λ (r : Record). take (length prefix) r.path) prefix rs
    (λ i j d before within. prefixes_rise (length prefix) _ _ (o.never_falls i j d before within))

pub rising_prefixes : (prefix : List ℕ) (rs : List Record) → IsOrderedByPath rs
    → IsRising (map (λ r. prefix_cmp prefix r.path) rs)
rising_prefixes prefix rs o = rising_of (λ (r : Record). prefix_cmp prefix r.path) rs (split_prefixes prefix rs o)

-- ---- the run between the two ends

lt_not_eq : (o : Ordering) → is_lt o ≡ true → is_eq o ≡ false
lt_not_eq Less e = refl
lt_not_eq Equal e = cc
lt_not_eq Greater e = refl

gt_not_eq : (o : Ordering) → is_le o ≡ false → is_eq o ≡ false
gt_not_eq Less e = refl
gt_not_eq Equal e = cc
gt_not_eq Greater e = refl

between : (o : Ordering) → is_lt o ≡ false → is_le o ≡ true → is_eq o ≡ true
between Less e f = cc
between Equal e f = refl
between Greater e f = cc

module _ (os : List Ordering) (low high : ℕ) (p : IsPartedAt false os low) (q : IsPartedAt true os high) where
  pub run_between : low < high → IsRun is_eq os low high
  run_between h = record {
    in_order = omega arith;
    in_range = q.in_range;
    before = λ k d l u. lt_not_eq (get_or os k d) (p.before k d l u);
    within =
        λ k d l u. between (get_or os k d) (p.behind k d l (omega (arith, q.in_range))) (q.before k d (omega arith) u);
    behind = λ k d l u. gt_not_eq (get_or os k d) (q.behind k d l u);
  }

  pub none_between : high ≤ low → All (λ o. is_eq o ≡ false) os
  none_between h k d within = by (cases_lt k low)
    where
      by : (k < low) ⊎ (low ≤ k) → is_eq (get_or os k d) ≡ false
      by (inl front) = lt_not_eq (get_or os k d) (p.before k d (omega arith) front)
      by (inr back) = gt_not_eq (get_or os k d) (q.behind k d (omega arith) within)

-- ---- runs of the list

module _ {X : Type 0} (cmp : X → Ordering) (test : X → Bool) (same : (x : X) → is_eq (cmp x) ≡ test x)
    (xs : List X) where
  pub run_map : (start end : ℕ) → IsRun is_eq (map cmp xs) start end → IsRun test xs start end
  run_map start end h = record {
    in_order = h.in_order;
    in_range = omega (arith, h.in_range, length-map xs cmp);
    before = within_map is_eq cmp test false xs 0 start same h.before;
    within = within_map is_eq cmp test true xs start end same h.within;
    behind = λ k d l u. within_map is_eq cmp test false xs end (length (map cmp xs)) same h.behind k d l
        (omega (arith, length-map xs cmp));
  }

  pub range_map : (r : Option (Range ℕ)) → IsRange is_eq (map cmp xs) r → IsRange test xs r
  range_map None h = λ k d within. within_map is_eq cmp test false xs 0 (length (map cmp xs)) same
      (λ i e l u. h i e u) k d (omega arith) (omega (arith, length-map xs cmp))
  range_map (Some p) h = (h.0, run_map p.start p.end h.1)

  part_map : (r : Option (Range ℕ)) → IfSome r (IsPart (map cmp xs)) → IfSome r (IsPart xs)
  part_map None h = tt
  part_map (Some p) h = (h.0, omega (arith, h.1, length-map xs cmp))

  pub found_map : (A B : Type 0) → (B → A) → (r : Option (Range ℕ)) → FindsRange is_eq A (map cmp xs) r
      → FindsRange test B xs r
  found_map A B rise r h =
      record { in_range = part_map r h.in_range; exactly = λ o. range_map r (h.exactly (rise o)) }

-- ---- the tests that equal answers are

pub at_is : (path : List ℕ) (r : Record) → is_eq (path_cmp r.path path) ≡ is_at path r
at_is path r = sym (texts_ties r.path path)

pub begins_is : (prefix : List ℕ) (r : Record) → is_eq (prefix_cmp prefix r.path) ≡ begins_with prefix r
begins_is prefix r =
    sym (texts_ties (take (length prefix) r.path) prefix) ∙ nat_list_eq_equiv.symm (take (length prefix) r.path) prefix

-- ---- how many are in front

pub prefix_count : (prefix : List ℕ) (rs : List Record) (i : ℕ)
    → IsPartedAt false (map (λ r. prefix_cmp prefix r.path) rs) i → i ≡ insertion_of_path prefix rs
prefix_count prefix rs i h =
    let f : Record → Ordering = λ r. prefix_cmp prefix r.path in
    let n : length (map f rs) ≡ length rs = length-map rs f in
    sym (count_by_is (λ (r : Record). is_lt (path_cmp r.path prefix)) rs i (omega (arith, h.in_range))
    (within_map is_lt f (λ r. is_lt (path_cmp r.path prefix)) true rs 0 i
    (λ r. sym (below_by_prefix r.path prefix)) h.before)
    (λ k d l u. within_map is_lt f (λ r. is_lt (path_cmp r.path prefix)) false rs i (length (map f rs))
    (λ r. sym (below_by_prefix r.path prefix)) h.behind k d l (omega arith)))

-- ---- a prefix with nothing after it

pub prefix_range : (prefix : List ℕ) (rs : List Record) (r : Option (Range ℕ)) → length prefix ≢ 0
    → IsRange (begins_with (prefix ++ [])) rs r → IsPrefixRange prefix rs r
prefix_range [] rs r some h = absurd (some refl)
prefix_range (b ∷ bs) rs r some h =
    let P : List ℕ → Type 0 = λ p. IsRange (begins_with p) rs r in
    subst P (append-nil (b ∷ bs)) h
