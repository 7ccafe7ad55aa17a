-- The records in conflict with a record: above it, below it or at its path.
use Rattle.std.proofs.Common.{◌≡◌, ℕ, ◌+◌, ◌<◌, ◌≤◌, ◌==◌, Bool, true, false, ◌&&◌, ◌||◌, not, List, [], ◌∷◌}
use Rattle.std.proofs.Common.{◌++◌, length, get_or, take, All, Option, Some, None, ◌⊎◌, inl, inr, refl, sym, ap}
use Rattle.std.proofs.Common.{◌∙◌, arith, Result, Ok, Err}
use Rattle.std.specs.List.{HoldsAt, list_any, starts_with}
use Rattle.std.specs.Option.{is_some, ok_or}
use Rattle.std.specs.Prelude.{is_ok, nat_eq}
use Rattle.std.specs.declared.ops.Range.{Range}
use Rattle.std.proofs.lemmas.Bool.{cases_lt}
use Rattle.std.proofs.lemmas.Bool.Decides.{nat_tests}
use Rattle.std.proofs.lemmas.List.{get_or_default}
use Rattle.entry_list.specs.Order.{IsStrictlyOrdered, record_stage}
use Rattle.entry_list.specs.Record.{Record}
use Rattle.entry_lookup.specs.Closest.{is_below}
use Rattle.entry_lookup.specs.Lookup.{HasKey, has_key, insertion_of, record_index}
use Rattle.entry_lookup.specs.Range.{IsRange, is_at, part_of}
use Rattle.entry_lookup.proofs.Lookup.{key_place}
use Rattle.entry_lookup.proofs.RunFilters.{range_is_filter}
use Rattle.entry_lookup.proofs.TableMade.{and_both, and_to, begins_to, same_from, same_to}
use Rattle.entry_edit.specs.Edits.{have_df_conflict}
use Rattle.entry_edit.specs.EditSteps.{is_of_stage, is_side_at, stands_above, stands_below}
use Rattle.entry_edit.proofs.Anys.{any_agree, any_filter, any_or}

-- ---- tests of a path and a stage

same_number : (m n : ℕ) → (m == n) ≡ true → m ≡ n
same_number m n h = grind (arith, nat_tests, h)

number_to : (m n : ℕ) → m ≡ n → (m == n) ≡ true
number_to m n h = grind (arith, nat_tests, h)

pub key_from : (path : List ℕ) (stage : ℕ) (r : Record) → has_key path stage r ≡ true → HasKey path stage r
key_from path stage r h =
    let both = and_both (is_at path r) (record_stage r == stage) h in
    record { path_is = same_from r.path path both.0; stage_is = same_number (record_stage r) stage both.1 }

pub key_to : (path : List ℕ) (stage : ℕ) (r : Record) → HasKey path stage r → has_key path stage r ≡ true
key_to path stage r h = and_to (is_at path r) (record_stage r == stage) (same_to r.path path h.path_is)
    (number_to (record_stage r) stage h.stage_is)

false_from : (b : Bool) → (b ≡ true → ⊥) → b ≡ false
false_from true h = absurd (h refl)
false_from false h = refl

-- ---- above

pub above_key : (path : List ℕ) (stage at : ℕ) (r : Record) → at < length path → get_or path at 0 ≡ 47
    → HasKey (take at path) stage r → stands_above path stage r ≡ true
above_key path stage at r within slash key =
    and_to (record_stage r == stage) (starts_with nat_eq path (r.path ++ 47 ∷ []))
    (number_to (record_stage r) stage key.stage_is) (rw key.path_is (begins_to path at 47 within slash))

nowhere : (o : Option ℕ) (i n : ℕ) → Err i ≡ ok_or o n → o ≡ None
nowhere None i n e = refl
nowhere (Some k) i n e = cc

pub none_has : (path : List ℕ) (stage : ℕ) (rs : List Record) (o : Option ℕ) → is_some o ≡ false → o ≡ record_index path stage rs
    → IsStrictlyOrdered rs → All (λ r. has_key path stage r ≡ false) rs
none_has path stage rs (Some i) none e ordered k d within = cc
none_has path stage rs None none e ordered k d within = false_from (has_key path stage (get_or rs k d)) (λ t.
    let here : HoldsAt (HasKey path stage) rs k = λ z.
    key_from path stage (get_or rs k z) (rw (get_or_default rs k z d within) t) in
    let there = key_place path stage rs k ordered (record { in_range = within; here = here }) in
    let nowhere = sym there ∙ sym e in
    cc)

pub none_found : (path : List ℕ) (stage : ℕ) (rs : List Record) (o : Result ℕ ℕ) → is_ok o ≡ false
    → o ≡ ok_or (record_index path stage rs) (insertion_of path stage rs)
    → IsStrictlyOrdered rs → All (λ r. has_key path stage r ≡ false) rs
none_found path stage rs (Ok i) none e ordered k d within = cc
none_found path stage rs (Err i) none e ordered k d within =
    none_has path stage rs None refl (sym (nowhere (record_index path stage rs) i (insertion_of path stage rs) e)) ordered k d
    within

pub one_more : (path : List ℕ) (stage : ℕ) (rs : List Record) (known at : ℕ)
    → ((k : ℕ) → known ≤ k → k < at → get_or path k 0 ≡ 47 → IsStrictlyOrdered rs
    → All (λ r. has_key (take k path) stage r ≡ false) rs)
    → (get_or path at 0 ≡ 47 → All (λ r. has_key (take at path) stage r ≡ false) rs)
    → (k : ℕ) → known ≤ k → k < at + 1 → get_or path k 0 ≡ 47 → IsStrictlyOrdered rs
    → All (λ r. has_key (take k path) stage r ≡ false) rs
one_more path stage rs known at before here k low within slash o = by (cases_lt k at)
  where
    by : (k < at) ⊎ (at ≤ k) → All (λ r. has_key (take k path) stage r ≡ false) rs
    by (inl lt) = before k low lt slash o
    by (inr ge) =
        let e : k ≡ at = omega arith in
        rw e (here (rw e at slash))

-- ---- at the path, and below it

not_zero : (same : Bool) (n : ℕ) → same ≡ false → is_of_stage same 0 n ≡ not (n == 0)
not_zero true n e = cc
not_zero false n e = refl

pub sides_at : (path : List ℕ) (rs : List Record) (range : Option (Range ℕ)) → IsRange (is_at path) rs range
    → list_any (λ r. is_of_stage false 0 (record_stage r)) (part_of rs range) ≡ list_any (is_side_at path) rs
sides_at path rs range h =
    ap (list_any (λ (r : Record). is_of_stage false 0 (record_stage r))) (range_is_filter (is_at path) rs range h)
    ∙ any_filter (λ (r : Record). is_of_stage false 0 (record_stage r)) (is_at path) rs

pub those_below : (path : List ℕ) (stage : ℕ) (rs : List Record) (range : Option (Range ℕ))
    → IsRange (is_below path) rs range → list_any (λ r. is_of_stage true stage (record_stage r)) (part_of rs range)
    ≡ list_any (stands_below path stage) rs
those_below path stage rs range h =
    ap (list_any (λ (r : Record). is_of_stage true stage (record_stage r))) (range_is_filter (is_below path) rs range h)
    ∙ any_filter (λ (r : Record). is_of_stage true stage (record_stage r)) (is_below path) rs

-- ---- both

odds_are : (below above same : Bool) → ((below && same) || (same && above)) ≡ (same && (below || above))
odds_are true true true = refl
odds_are true true false = refl
odds_are true false true = refl
odds_are true false false = refl
odds_are false true true = refl
odds_are false true false = refl
odds_are false false true = refl
odds_are false false false = refl

pub odds_any : (new : Record) (rs : List Record)
    → (list_any (stands_below new.path (record_stage new)) rs || list_any (stands_above new.path (record_stage new)) rs)
    ≡ list_any (have_df_conflict new) rs
odds_any new rs =
    sym (any_or (stands_below new.path (record_stage new)) (stands_above new.path (record_stage new)) rs)
    ∙ any_agree (λ r. stands_below new.path (record_stage new) r || stands_above new.path (record_stage new) r)
    (have_df_conflict new) (λ r. odds_are (is_below new.path r) (is_below r.path new) (record_stage r == record_stage new)) rs

pub odds_told : (new : Record) (rs : List Record) (below above : Bool)
    → below ≡ list_any (stands_below new.path (record_stage new)) rs
    → above ≡ list_any (stands_above new.path (record_stage new)) rs
    → (below || above) ≡ list_any (have_df_conflict new) rs
odds_told new rs below above b a = rw (b, a) (odds_any new rs)
