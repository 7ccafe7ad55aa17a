-- What a search finds, in the words of the lookups.
use Rattle.std.proofs.Common.{◌≡◌, ◌≢◌, ℕ, ◌<◌, ◌≤◌, ◌⊎◌, inl, inr, Bool, false, List, length, get_or, refl, sym, ap}
use Rattle.std.proofs.Common.{◌∙◌, subst, arith, Option, Some, None, Result, Ok, Err, IfOk, IfErr}
use Rattle.std.specs.Cmp.{IsTotalOrder}
use Rattle.std.specs.List.{position}
use Rattle.std.specs.Option.{ok_or}
use Rattle.std.specs.Ordering.{nat_cmp, ordering_then, is_eq, is_lt}
use Rattle.std.specs.Prelude.{◌==◌, ◌&&◌, option_and_then, slice_get}
use Rattle.std.specs.Cmp.Lexicographic.{texts_ties}
use Rattle.std.specs.declared.cmp.Ordering.{Ordering}
use Rattle.std.specs.declared.cmp.Ordering.TheVariants.{Less, Equal, Greater}
use Rattle.std.proofs.lemmas.Bool.{cases_lt}
use Rattle.std.proofs.lemmas.Bool.Decides.{nat_tests}
use Rattle.std.proofs.lemmas.Cmp.{then_total, on_total, nat_cmp_total, nat_list_cmp_total}
use Rattle.std.proofs.lemmas.List.{get_or-map, length-map}
use Rattle.std.proofs.lemmas.Option.{slice_get_read}
use Rattle.entry_list.specs.declared.Entry.{Entry}
use Rattle.entry_lookup.specs.Lookup.{HasKey, has_key, record_index, IsKeyAt, IsPathAt, IsPathGap, insertion_of}
use Rattle.entry_list.specs.Order.{path_cmp, record_stage, key_cmp, IsStrictlyOrdered, IsOrderedByPath}
use Rattle.entry_list.specs.Record.{Record, record_in, records_in}
use Rattle.base_search.specs.Halving.{IsSplitBy, IsEqualAt, IsGapAt}
use Rattle.base_search.proofs.Halving.{split_by, count_by_is, position_is, position_none}
use Rattle.entry_list.proofs.Orders.{paths_total, own_key, equal_key, same_path}

-- ---- order

not_greater : (o : Ordering) → o ≡ Less → o ≢ Greater
not_greater o e h = let both : Less ≡ Greater = sym e ∙ h in cc

-- a path with the number of a stage
abbrev pair_cmp : List ℕ × ℕ → List ℕ × ℕ → Ordering
pair_cmp x y = ordering_then (path_cmp x.0 y.0) (nat_cmp x.1 y.1)

pairs_total : IsTotalOrder pair_cmp
pairs_total = then_total (on_total (λ (x : List ℕ × ℕ). x.0) nat_list_cmp_total)
    (on_total (λ (x : List ℕ × ℕ). x.1) nat_cmp_total)

pub split_by_key : (path : List ℕ) (stage : ℕ) (rs : List Record) → IsStrictlyOrdered rs
    → IsSplitBy (key_cmp path stage) rs
split_by_key path stage rs o = split_by pairs_total (λ (r : Record). (r.path, record_stage r)) (path, stage) rs
    (λ i j d before within. not_greater _ (o.less i j d before within))

pub split_by_path : (path : List ℕ) (rs : List Record) → IsOrderedByPath rs → IsSplitBy (λ r. path_cmp r.path path) rs
split_by_path path rs o = split_by paths_total (λ (r : Record). r.path) path rs o.never_falls

-- what is strictly ordered is ordered by path
path_rises : (a b : Ordering) → ordering_then a b ≡ Less → a ≢ Greater
path_rises Less b e h = cc
path_rises Equal b e h = cc
path_rises Greater b e h = cc

pub ordered_by_path : (rs : List Record) → IsStrictlyOrdered rs → IsOrderedByPath rs
ordered_by_path rs o = record { never_falls = λ i j d before within. path_rises _ _ (o.less i j d before within) }

-- ---- the test of a path and a stage

then_ties : (a b : Ordering) → (is_eq a && is_eq b) ≡ is_eq (ordering_then a b)
then_ties Less b = refl
then_ties Equal b = refl
then_ties Greater b = refl

stage_ties : (m n : ℕ) → (m == n) ≡ is_eq (nat_cmp m n)
stage_ties m n = grind (arith, nat_tests)

pub has_key_is : (path : List ℕ) (stage : ℕ) (r : Record) → has_key path stage r ≡ is_eq (key_cmp path stage r)
has_key_is path stage r =
    ap (λ (b : Bool). b && (record_stage r == stage)) (texts_ties r.path path)
    ∙ ap (λ (b : Bool). is_eq (path_cmp r.path path) && b) (stage_ties (record_stage r) stage)
    ∙ then_ties (path_cmp r.path path) (nat_cmp (record_stage r) stage)

-- ---- what the halving found

pub ok_is : (r : Result ℕ ℕ) (i : ℕ) (P : ℕ → Type 0) → r ≡ Ok i → IfOk r P → P i
ok_is r i P e h = subst (λ (x : Result ℕ ℕ). IfOk x P) e h

pub err_is : (r : Result ℕ ℕ) (i : ℕ) (P : ℕ → Type 0) → r ≡ Err i → IfErr r P → P i
err_is r i P e h = subst (λ (x : Result ℕ ℕ). IfErr x P) e h

pub key_at : (path : List ℕ) (stage : ℕ) (rs : List Record) (r : Result ℕ ℕ)
    → IfOk r (IsEqualAt (key_cmp path stage) rs) → IfOk r (IsKeyAt path stage rs)
key_at path stage rs (Ok i) h =
    record {
      in_range = h.in_range;
      here = λ d. let own = own_key path stage (get_or rs i d) (h.here d) in
          record { path_is = own.0; stage_is = own.1 };
    }
key_at path stage rs (Err i) h = h

pub path_at : (path : List ℕ) (rs : List Record) (r : Result ℕ ℕ) → IfOk r (IsEqualAt (λ r. path_cmp r.path path) rs)
    → IfOk r (IsPathAt path rs)
path_at path rs (Ok i) h =
    record { in_range = h.in_range; here = λ d. (same_path (get_or rs i d).path path).0 (h.here d) }
path_at path rs (Err i) h = h

gap_path : (path : List ℕ) (rs : List Record) (i : ℕ) → i ≤ length rs → IsGapAt (λ r. path_cmp r.path path) rs i
    → IsPathGap path rs i
gap_path path rs i fits gap = record {
  none = λ k d within same. other k d (cases_lt k i) within same;
  place = sym (count_by_is (λ (r : Record). is_lt (path_cmp r.path path)) rs i fits
      (λ k d low high. ap is_lt (gap.below k d low high)) (λ k d low high. ap is_lt (gap.above k d low high)));
}
  where
    other : (k : ℕ) (d : Record) → (k < i) ⊎ (i ≤ k) → k < length rs → (get_or rs k d).path ≡ path → ⊥
    other k d (inl before) within same =
        let e = (same_path _ path).1 same in
        let f = gap.below k d (omega arith) before in
        cc
    other k d (inr behind) within same = let e = (same_path _ path).1 same in let f = gap.above k d behind within in cc

pub path_gap : (path : List ℕ) (rs : List Record) (r : Result ℕ ℕ) → IfErr r (λ i. i ≤ length rs)
    → (IsSplitBy (λ r. path_cmp r.path path) rs → IfErr r (IsGapAt (λ r. path_cmp r.path path) rs))
    → IsOrderedByPath rs → IfErr r (IsPathGap path rs)
path_gap path rs (Ok i) fits gap o = tt
path_gap path rs (Err i) fits gap o = gap_path path rs i fits (gap (split_by_path path rs o))

pub key_place : (path : List ℕ) (stage : ℕ) (rs : List Record) (i : ℕ) → IsStrictlyOrdered rs → IsKeyAt path stage rs i
    → position (has_key path stage) rs ≡ Some i
key_place path stage rs i o h = position_is (has_key path stage) rs i h.in_range
    (λ k d low before. has_key_is path stage (get_or rs k d)
    ∙ ap is_eq (rw ((h.here d).path_is, (h.here d).stage_is) at (o.less k i d before h.in_range)))
    (λ d. has_key_is path stage (get_or rs i d)
    ∙ ap is_eq (equal_key path stage (get_or rs i d) (h.here d).path_is (h.here d).stage_is))

key_gap : (path : List ℕ) (stage : ℕ) (rs : List Record) (i : ℕ) → IsGapAt (key_cmp path stage) rs i
    → position (has_key path stage) rs ≡ None
key_gap path stage rs i gap = position_none (has_key path stage) rs (λ k d within. other k d (cases_lt k i) within)
  where
    other : (k : ℕ) (d : Record) → (k < i) ⊎ (i ≤ k) → k < length rs → has_key path stage (get_or rs k d) ≡ false
    other k d (inl before) within =
        has_key_is path stage (get_or rs k d) ∙ ap is_eq (gap.below k d (omega arith) before)
    other k d (inr behind) within = has_key_is path stage (get_or rs k d) ∙ ap is_eq (gap.above k d behind within)

key_insertion : (path : List ℕ) (stage : ℕ) (rs : List Record) (i : ℕ) → i ≤ length rs
    → IsGapAt (key_cmp path stage) rs i → insertion_of path stage rs ≡ i
key_insertion path stage rs i fits gap = count_by_is (λ (r : Record). is_lt (key_cmp path stage r)) rs i fits
    (λ k d low high. ap is_lt (gap.below k d low high)) (λ k d low high. ap is_lt (gap.above k d low high))

pub key_answer : (path : List ℕ) (stage : ℕ) (rs : List Record) (r : Result ℕ ℕ)
    → IfOk r (IsEqualAt (key_cmp path stage) rs) → IfErr r (λ i. i ≤ length rs)
    → (IsSplitBy (key_cmp path stage) rs → IfErr r (IsGapAt (key_cmp path stage) rs)) → IsStrictlyOrdered rs
    → r ≡ ok_or (record_index path stage rs) (insertion_of path stage rs)
key_answer path stage rs (Ok i) found fits gap o =
    rw (key_place path stage rs i o (key_at path stage rs (Ok i) found)) refl
key_answer path stage rs (Err i) found fits gap o =
    let g = gap (split_by_key path stage rs o) in
    rw (key_gap path stage rs i g, key_insertion path stage rs i fits g) refl

-- ---- the entry at a place

within_entries : (path : List ℕ) (stage : ℕ) (storage : List ℕ) (es : List Entry) (i : ℕ)
    → IsKeyAt path stage (records_in storage es) i → i < length es
within_entries path stage storage es i h = omega (arith, h.in_range, length-map es (record_in storage))

pub entry_key : (path : List ℕ) (stage : ℕ) (storage : List ℕ) (es : List Entry) (i : ℕ) (e : Entry)
    → IsKeyAt path stage (records_in storage es) i → e ≡ get_or es i e → HasKey path stage (record_in storage e)
entry_key path stage storage es i e h read =
    let here : get_or (records_in storage es) i (record_in storage e) ≡ record_in storage e =
    get_or-map (record_in storage) es i e (record_in storage e) (within_entries path stage storage es i h)
    ∙ ap (record_in storage) (sym read) in
    subst (HasKey path stage) here (h.here (record_in storage e))

pub entry_place : (path : List ℕ) (stage : ℕ) (storage : List ℕ) (es : List Entry) (i : ℕ) (e : Entry)
    → IsKeyAt path stage (records_in storage es) i → e ≡ get_or es i e → (o : Option ℕ) → Some i ≡ o
    → Some e ≡ option_and_then (slice_get es) o
entry_place path stage storage es i e h read o same =
    sym (slice_get_read es (length es) i e refl (within_entries path stage storage es i h) read)
    ∙ ap (option_and_then (slice_get es)) same
