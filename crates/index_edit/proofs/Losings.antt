-- Sides that go from a list of records, and what is recorded of them.
use Rattle.std.proofs.Common.{◌≡◌, ◌≢◌, ℕ, suc, ◌+◌, ◌-◌, ◌<◌, ◌≤◌, Bool, true, false, ◌&&◌, ◌||◌, ◌==◌, not, List, [], ◌∷◌, ◌++◌, length, take, drop}
use Rattle.std.proofs.Common.{get_or, filter, All, Option, Some, None, refl, sym, ap, ◌∙◌, arith, length-take, Bor}
use Rattle.std.specs.List.{AllWithin, list_any}
use Rattle.std.specs.declared.cmp.Ordering.TheVariants.{Equal}
use Rattle.std.specs.Prelude.{MatchOption, slice_range}
use Rattle.std.specs.declared.ops.Range.{Range}
use Rattle.std.proofs.lemmas.List.{get_or-drop, get_or-take, length-drop, take-append-drop, take_all, take_more}
use Rattle.std.proofs.lemmas.List.Elements.{filter-append}
use Rattle.std.proofs.lemmas.List.Folds.{list_any_at}
use Rattle.entry_list.specs.Order.{record_cmp, record_stage}
use Rattle.entry_list.specs.Record.{Record, with_path}
use Rattle.entry_list.specs.Slice.{IsRecordOf}
use Rattle.entry_list.specs.declared.Entry.{Entry}
use Rattle.entry_list.specs.declared.Pathless.{Pathless}
use Rattle.entry_list.proofs.Orders.{own_key}
use Rattle.entry_lookup.proofs.RunFilters.{run_is_filter}
use Rattle.entry_lookup.specs.Closest.{is_below}
use Rattle.entry_lookup.specs.Lookup.{has_key}
use Rattle.entry_lookup.specs.Range.{IsRange, is_at, part_of}
use Rattle.entry_fields.specs.Flags.{stage_number}
use Rattle.entry_edit.proofs.Displacings.{displaced_other, not_number}
use Rattle.entry_edit.proofs.Ways.{key_to}
use Rattle.entry_edit.specs.Edits.{have_df_conflict, is_displaced}
use Rattle.entry_edit.specs.declared.change.Change.{Change}
use Rattle.entry_edit.specs.declared.change.Change.TheVariants.{Stage, Unstage}
use Rattle.ext_small.specs.ResolveUndo.{PathStages}
use Rattle.entry_edit.specs.EditSteps.{is_other, entry_record}
use Rattle.index_edit.specs.Undone.{all_recorded, is_lost, lost}

pub all_recorded-append : (rs qs : List Record) (undo : Option (List PathStages))
    → all_recorded (rs ++ qs) undo ≡ all_recorded qs (all_recorded rs undo)
unfolding all_recorded
all_recorded-append [] qs undo = refl
all_recorded-append (r ∷ rs) qs undo = all_recorded-append rs qs _

pub lost-append : (c : Change) (rs qs : List Record) → lost c (rs ++ qs) ≡ lost c rs ++ lost c qs
lost-append c rs qs = filter-append (is_lost c) rs qs

pub recorded_none : (undo : Option (List PathStages)) → undo ≡ all_recorded [] undo
unfolding all_recorded
recorded_none undo = refl

-- one place more
range_more : {X : Type 0} (xs : List X) (start k : ℕ) (d : X) → start ≤ k → k < length xs
    → slice_range xs start (k + 1) ≡ slice_range xs start k ++ get_or xs k d ∷ []
range_more xs start k d low within =
    let n : (k + 1) - start ≡ (k - start) + 1 = omega arith in
    let m : start + (k - start) ≡ k = omega arith in
    ap (λ l. take l (drop start xs)) n
    ∙ take_more (drop start xs) (k - start) d (omega (arith, length-drop start xs))
    ∙ ap (λ x. take (k - start) (drop start xs) ++ x ∷ []) (get_or-drop start xs (k - start) d ∙ ap (λ l. get_or xs l d) m)

same_record : (r : Record) (path : List ℕ) (e : Entry) → r.path ≡ path → IsRecordOf e r → r ≡ entry_record path e
same_record r path e p h = λ i. record { path = p i; stat = h.stat i; id = h.id i; flags = h.flags i; mode = h.mode i }

-- the entry at one more index is recorded if it is removed
pub recorded_more : (c : Change) (rs : List Record) (start k : ℕ) (path : List ℕ) (e : Entry)
    (old undo now : Option (List PathStages)) → start ≤ k → k < length rs
    → ((d : Record) → (get_or rs k d).path ≡ path) → ((d : Record) → IsRecordOf e (get_or rs k d))
    → undo ≡ all_recorded (lost c (slice_range rs start k)) old
    → now ≡ all_recorded (lost c (entry_record path e ∷ [])) undo
    → now ≡ all_recorded (lost c (slice_range rs start (k + 1))) old
recorded_more c rs start k path e old undo now low within p h before one =
    let d = entry_record path e in
    let part = slice_range rs start k in
    one ∙ ap (all_recorded (lost c (d ∷ []))) before
    ∙ sym (all_recorded-append (lost c part) (lost c (d ∷ [])) old)
    ∙ ap (λ l. all_recorded l old) (sym (lost-append c part (d ∷ [])))
    ∙ ap (λ l. all_recorded (lost c l) old)
    (sym (range_more rs start k d low within ∙ ap (λ r. part ++ r ∷ []) (same_record _ path e (p d) (h d))))

pub range_none : {X : Type 0} (xs : List X) (k : ℕ) → slice_range xs k k ≡ []
range_none xs k = let n : k - k ≡ 0 = omega arith in ap (λ l. take l (drop k xs)) n

-- ---- places among which are all sides that go

pub filter_none : {X : Type 0} (p : X → Bool) (xs : List X) → All (λ x. p x ≡ false) xs → filter p xs ≡ []
filter_none p [] h = refl
filter_none p (x ∷ xs) h = rw (h 0 x (omega arith)) (filter_none p xs (λ k d u. h (suc k) d (omega arith)))

-- a test that passes only if another does
filter_twice : {X : Type 0} (p q : X → Bool) → ((x : X) → p x ≡ true → q x ≡ true) → (xs : List X)
    → filter p (filter q xs) ≡ filter p xs
filter_twice p q h [] = refl
filter_twice p q h (x ∷ xs) = by (q x) (p x) refl refl (filter_twice p q h xs)
  where
    by : (b a : Bool) → q x ≡ b → p x ≡ a → filter p (filter q xs) ≡ filter p xs
        → filter p (filter q (x ∷ xs)) ≡ filter p (x ∷ xs)
    by true true e f rest = rw (e, f) (ap (λ l. x ∷ l) rest)
    by true false e f rest = rw (e, f) rest
    by false true e f rest = let both : true ≡ false = sym (h x f) ∙ e in cc
    by false false e f rest = rw (e, f) rest

not_true : (b : Bool) → (b ≡ true → ⊥) → b ≡ false
not_true true h = absurd (h refl)
not_true false h = refl

-- if only records at a path are removed
pub lost_in_range : (c : Change) (path : List ℕ) (rs : List Record) (places : Option (Range ℕ))
    → ((r : Record) → is_lost c r ≡ true → is_at path r ≡ true) → IsRange (is_at path) rs places
    → lost c (part_of rs places) ≡ lost c rs
lost_in_range c path rs None h none =
    sym (filter_none (is_lost c) rs (λ k d u. not_true (is_lost c (get_or rs k d)) (λ t.
    let both : true ≡ false = sym (h (get_or rs k d) t) ∙ none k d u in cc)))
lost_in_range c path rs (Some p) h some =
    ap (lost c) (run_is_filter (is_at path) rs p.start p.end some.1) ∙ filter_twice (is_lost c) (is_at path) h rs

pub lost_unstaged : (path : Bor (List ℕ)) (r : Record) → is_lost (Unstage path) r ≡ true → is_at path.now r ≡ true
lost_unstaged path r h = by (not (record_stage r == 0)) (is_at path.now r) h
  where
    by : (z a : Bool) → (z && (a && not false)) ≡ true → a ≡ true
    by true true e = refl
    by true false e = cc
    by false a e = cc

merged_lost : (a x : Bool) (s n : ℕ) → n ≡ 0
    → (not (s == 0) && (((a && ((n == 0) || (s == n))) || ((s == n) && x)) && not (a && (s == n)))) ≡ true → a ≡ true
merged_lost true x s n z h = refl
merged_lost false x s n z h = by (s == 0) (rw z at h)
  where
    by : (b : Bool) → (not b && ((false || (b && x)) && not false)) ≡ true → false ≡ true
    by true e = cc
    by false e = cc

pub lost_merged : (entry : Pathless) (path : Bor (List ℕ)) (r : Record) → stage_number entry.flags.0 ≡ 0
    → is_lost (Stage entry path) r ≡ true → is_at path.now r ≡ true
lost_merged entry path r z h =
    merged_lost (is_at path.now r) (is_below path.now r || is_below r.path (with_path path.now entry)) (record_stage r)
    (stage_number entry.flags.0) z h

unmerged_lost : (z a b e o : Bool) → b ≡ false → o ≡ false → (z && (((a && (b || e)) || o) && not (a && e))) ≡ false
unmerged_lost z a b e o f g = rw (f, g) (by z a e)
  where
    by : (z a e : Bool) → (z && (((a && (false || e)) || false) && not (a && e))) ≡ false
    by false a e = refl
    by true true true = refl
    by true true false = refl
    by true false e = refl

taken : (z t k : Bool) → (z && (t && not k)) ≡ true → (t ≡ true) × (k ≡ false)
taken true true false h = (refl, refl)
taken true true true h = cc
taken true false k h = cc
taken false t k h = cc

-- what goes, and isn't replaced, is another
lost_other : (entry : Pathless) (path : Bor (List ℕ)) (r : Record) → is_other (with_path path.now entry) r ≡ false
    → is_lost (Stage entry path) r ≡ false
lost_other entry path r h = not_true (is_lost (Stage entry path) r) (λ t.
    let new = with_path path.now entry in
    let both = taken (not (record_stage r == 0)) (is_displaced new r) (has_key path.now (stage_number entry.flags.0) r) t in
    let apart : record_cmp r new ≢ Equal = λ e.
    let own = own_key path.now (stage_number entry.flags.0) r e in
    let key = key_to path.now (stage_number entry.flags.0) r (record { path_is = own.0; stage_is = own.1 }) in
    let no : true ≡ false = sym key ∙ both.1 in cc in
    let no : true ≡ false = sym both.0 ∙ displaced_other new r apart ∙ h in cc)

-- if none is removed before an index
lost_behind : (entry : Pathless) (path : Bor (List ℕ)) (rs : List Record) (start : ℕ)
    → AllWithin (λ r. is_other (with_path path.now entry) r ≡ false) rs 0 start
    → lost (Stage entry path) (slice_range rs start (length rs)) ≡ lost (Stage entry path) rs
lost_behind entry path rs start h =
    let c = Stage entry path in
    let front : lost c (take start rs) ≡ [] = filter_none (is_lost c) (take start rs) (λ k d within.
    let low : k < start = omega (arith, within, length-take start rs) in
    rw (get_or-take start rs k d low) (lost_other entry path (get_or rs k d) (h k d (omega arith) low))) in
    ap (lost c) (take_all (length rs - start) (drop start rs) (omega (arith, length-drop start rs)))
    ∙ ap (λ l. l ++ lost c (drop start rs)) (sym front) ∙ sym (lost-append c (take start rs) (drop start rs))
    ∙ ap (lost c) (take-append-drop start rs)

-- if a side is staged, only those that conflict with it as file and directory are removed
pub lost_odds : (entry : Pathless) (path : Bor (List ℕ)) (rs : List Record) (places : Option (Range ℕ))
    → stage_number entry.flags.0 ≢ 0
    → MatchOption places (list_any (have_df_conflict (with_path path.now entry)) rs ≡ false)
    (λ p. (p.end ≡ length rs) × AllWithin (λ r. is_other (with_path path.now entry) r ≡ false) rs 0 p.start)
    → lost (Stage entry path) (part_of rs places) ≡ lost (Stage entry path) rs
lost_odds entry path rs None some none =
    sym (filter_none (is_lost (Stage entry path)) rs (λ k d u.
    let r = get_or rs k d in
    unmerged_lost (not (record_stage r == 0)) (is_at path.now r) (stage_number entry.flags.0 == 0)
    (record_stage r == stage_number entry.flags.0) (have_df_conflict (with_path path.now entry) r)
    (not_number (stage_number entry.flags.0) 0 some)
    (not_true _ (λ t.
    let odds = have_df_conflict (with_path path.now entry) in
    let both : true ≡ false = sym (list_any_at odds rs k d u t) ∙ none in cc))))
lost_odds entry path rs (Some p) some all =
    ap (λ k. lost (Stage entry path) (slice_range rs p.start k)) all.0 ∙ lost_behind entry path rs p.start all.1
