-- The records at a path, from the index on at which the paths begin that aren't below it.
use Rattle.std.proofs.Common.{◌≡◌, ◌≢◌, ℕ, zero, suc, min, ◌+◌, ◌-◌, ◌<◌, ◌≤◌, ◌⊎◌, inl, inr, Bool, true, false, List}
use Rattle.std.proofs.Common.{[], ◌∷◌, length, get_or, map, All, Option, Some, None, refl, sym, ap, ◌∙◌, subst, arith}
use Rattle.std.proofs.Math.ListN.{get_or-map as shift}
use Rattle.std.specs.List.{AllWithin, HoldsAt, position}
use Rattle.std.specs.Ordering.{is_eq, is_lt, is_ne, nat_cmp, ordering_reverse, ordering_then}
use Rattle.std.specs.Prelude.{◌==◌, ◌&&◌, ◌||◌, IfSome}
use Rattle.std.specs.Str.{bytes_eq}
use Rattle.std.specs.Cmp.Lexicographic.{bytes_decides}
use Rattle.std.specs.declared.cmp.Ordering.{Ordering}
use Rattle.std.specs.declared.cmp.Ordering.TheVariants.{Less, Equal, Greater}
use Rattle.std.proofs.lemmas.Bool.{cases_lt, false_from_ne_true}
use Rattle.std.proofs.lemmas.Bool.Decides.{nat_tests}
use Rattle.std.proofs.lemmas.List.{get_or_default, length-map}
use Rattle.entry_fields.specs.Flags.{stage_code, stage_number}
use denote.Enum.Declared.{tag_of}
use Rattle.entry_fields.specs.contracts.entry.flags.Stage.{the_type}
use Rattle.entry_fields.specs.declared.entry.flags.Stage.{Stage}
use Rattle.entry_fields.specs.declared.entry.flags.Stage.TheVariants.{Unconflicted, Base, Ours, Theirs}
use Rattle.entry_list.specs.declared.Entry.{Entry}
use Rattle.entry_lookup.specs.Lookup.{HasKey, has_key, record_index}
use Rattle.entry_list.specs.Order.{IsOrderedByPath, IsStrictlyOrdered, path_cmp, record_cmp, record_stage}
use Rattle.entry_list.specs.Record.{Record}
use Rattle.entry_list.specs.Slice.{IsRecordOf}
use Rattle.entry_list.proofs.Orders.{paths_total, same_path}
use Rattle.entry_lookup.specs.Range.{HasStageOf, is_at, place_of_path}
use Rattle.base_search.specs.Halving.{IsEqualAt, IsGapAt, IsPartedAt}
use Rattle.entry_lookup.specs.SearchSteps.{asked_cmp}
use Rattle.entry_lookup.specs.RangeSteps.{IsEnoughUpto, is_wanted, is_wanted_at}
use Rattle.entry_lookup.specs.declared.range.Wanted.{Wanted}
use Rattle.entry_lookup.specs.declared.range.Wanted.TheVariants.{OurSide}
use Rattle.base_search.proofs.Halving.{position_is, position_none}
use Rattle.entry_lookup.proofs.Lookup.{split_by_path}
use Rattle.base_search.proofs.Parting.{less_from}
use Rattle.entry_lookup.proofs.RunsFound.{at_is}
use Rattle.entry_lookup.proofs.TableMade.{and_both}

-- ---- the index of one

pub asked_path : (path : List ℕ) (stage : Option Stage) (rs : List Record) (place : ℕ) (p : List ℕ) (o : Ordering)
    → HoldsAt (λ r. r.path ≡ p) rs place → o ≡ path_cmp p path → stage ≡ None
    → HoldsAt (λ r. asked_cmp path stage r ≡ o) rs place
asked_path path stage rs place p o name told e d = rw e (ap (λ (q : List ℕ). path_cmp q path) (name d) ∙ sym told)

pub stage_tag : (stage : Stage) → tag_of the_type stage ≡ stage_code stage
stage_tag Unconflicted = refl
stage_tag Base = refl
stage_tag Ours = refl
stage_tag Theirs = refl

pub asked_key : (path : List ℕ) (stage : Option Stage) (rs : List Record) (place : ℕ) (p : List ℕ)
    (o by_stage : Ordering) → HoldsAt (λ r. r.path ≡ p) rs place → o ≡ path_cmp p path → (own : Stage) → stage ≡ Some own → (entry : Entry)
    → HoldsAt (IsRecordOf entry) rs place
    → by_stage ≡ nat_cmp (stage_number entry.flags.0) (stage_code own)
    → HoldsAt (λ r. asked_cmp path stage r ≡ ordering_then o by_stage) rs place
asked_key path stage rs place p o by_stage name told own e entry is by d =
    rw (e, name d, (is d).flags, told, by) refl

not_first : (a b : Bool) → a ≡ false → (a && b) ≡ false
not_first a b e = rw e refl

-- ---- an entry that was looked at

is_equal : (o : Ordering) → is_ne o ≡ false → is_eq o ≡ true
is_equal Less e = cc
is_equal Equal e = refl
is_equal Greater e = cc

is_other : (o : Ordering) → is_ne o ≡ true → is_eq o ≡ false
is_other Less e = refl
is_other Equal e = cc
is_other Greater e = refl

module _ (path : List ℕ) (rs : List Record) (place : ℕ) (p : List ℕ) (o : Ordering)
    (name : HoldsAt (λ r. r.path ≡ p) rs place) (told : o ≡ path_cmp p path) where
  at_path : (d : Record) → is_at path (get_or rs place d) ≡ is_eq o
  at_path d =
      sym (at_is path (get_or rs place d)) ∙ ap (λ (q : List ℕ). is_eq (path_cmp q path)) (name d) ∙ ap is_eq (sym told)

  pub other_at : is_ne o ≡ true → HoldsAt (λ r. is_at path r ≡ false) rs place
  other_at e d = at_path d ∙ is_other o e

  pub wanted_at : (wanted : Wanted) (b : Bool) (entry : Entry) → HoldsAt (IsRecordOf entry) rs place → is_ne o ≡ false
      → b ≡ is_wanted wanted entry.mode.0 (stage_number entry.flags.0)
      → HoldsAt (λ r. is_wanted_at path wanted r ≡ b) rs place
  wanted_at wanted b entry is e asked d = rw (at_path d ∙ is_equal o e, (is d).mode, (is d).flags) (sym asked)

-- ---- the first that is wanted

pub within_more : (p : Record → Bool) (rs : List Record) (low place : ℕ) → AllWithin (λ r. p r ≡ false) rs low place
    → HoldsAt (λ r. p r ≡ false) rs place → AllWithin (λ r. p r ≡ false) rs low (place + 1)
within_more p rs low place before here k d l u = by (cases_lt k place)
  where
    by : (k < place) ⊎ (place ≤ k) → p (get_or rs k d) ≡ false
    by (inl front) = before k d l front
    by (inr back) = let same : k ≡ place = omega arith in ap (λ (i : ℕ). p (get_or rs i d)) same ∙ here d

pub not_at : (path : List ℕ) (wanted : Wanted) (rs : List Record) (place : ℕ)
    → HoldsAt (λ r. is_at path r ≡ false) rs place → HoldsAt (λ r. is_wanted_at path wanted r ≡ false) rs place
not_at path wanted rs place h d = not_first _ _ (h d)

module _ (path : List ℕ) (wanted : Wanted) (rs : List Record) (low : ℕ)
    (parted : IsPartedAt false (map (asked_cmp path None) rs) low) where
  abbrev answer : Record → Ordering
  answer r = path_cmp r.path path

  front : (k : ℕ) (d : Record) → k < low → is_wanted_at path wanted (get_or rs k d) ≡ false
  front k d u =
      let less : path_cmp (get_or rs k d).path path ≡ Less =
      sym (shift answer rs k d) ∙ less_from _ (parted.before k (answer d) (omega arith) u) in
      not_first _ _ (sym (at_is path (get_or rs k d)) ∙ ap is_eq less)

  module _ (place : ℕ) (passed : AllWithin (λ r. is_wanted_at path wanted r ≡ false) rs low place) where
    so_far : (k : ℕ) (d : Record) → k < place → is_wanted_at path wanted (get_or rs k d) ≡ false
    so_far k d u = by (cases_lt k low)
      where
        by : (k < low) ⊎ (low ≤ k) → is_wanted_at path wanted (get_or rs k d) ≡ false
        by (inl f) = front k d f
        by (inr l) = passed k d l u

    pub first_some : place < length rs → HoldsAt (λ r. is_wanted_at path wanted r ≡ true) rs place
        → Some place ≡ position (is_wanted_at path wanted) rs
    first_some within h = sym (position_is (is_wanted_at path wanted) rs place within (λ k d l u. so_far k d u) h)

    pub first_end : (end : ℕ) → low ≤ place → min end (length rs) ≤ place
        → IsEnoughUpto (is_wanted_at path wanted) rs low end → None ≡ position (is_wanted_at path wanted) rs
    first_end end from past enough =
        sym (position_none (is_wanted_at path wanted) rs (λ k d within. by k d within (cases_lt k place)))
      where
        by : (k : ℕ) (d : Record) → k < length rs → (k < place) ⊎ (place ≤ k)
            → is_wanted_at path wanted (get_or rs k d) ≡ false
        by k d within (inl f) = so_far k d f
        by k d within (inr l) = enough (λ i e a b. passed i e a (omega arith)) k d (omega arith) within

    pub first_other : IsOrderedByPath rs → low ≤ place → place < length rs
        → HoldsAt (λ r. is_at path r ≡ false) rs place → None ≡ position (is_wanted_at path wanted) rs
    first_other o from within other =
        sym (position_none (is_wanted_at path wanted) rs (λ k d inside. by k d inside (cases_lt k place)))
      where
        above_from : (q : Ordering) → is_lt q ≡ false → is_eq q ≡ false → q ≡ Greater
        above_from Less e f = cc
        above_from Equal e f = cc
        above_from Greater e f = refl

        above : (d : Record) → path_cmp (get_or rs place d).path path ≡ Greater
        above d = above_from _ (ap is_lt (sym (shift answer rs place d)) ∙ parted.behind place (answer d) from
            (omega (arith, length-map rs answer))) (at_is path (get_or rs place d) ∙ other d)

        behind : (k : ℕ) (d : Record) → k < length rs → (place < k) ⊎ (k ≤ place) → place ≤ k
            → is_wanted_at path wanted (get_or rs k d) ≡ false
        behind k d inside (inl b) l = not_first _ _
            (sym (at_is path (get_or rs k d)) ∙ ap is_eq ((split_by_path path rs o).above place k d b inside (above d)))
        behind k d inside (inr b) l =
            let same : k ≡ place = omega arith in
            not_first _ _ (ap (λ (i : ℕ). is_at path (get_or rs i d)) same ∙ other d)

        by : (k : ℕ) (d : Record) → k < length rs → (k < place) ⊎ (place ≤ k)
            → is_wanted_at path wanted (get_or rs k d) ≡ false
        by k d inside (inl f) = so_far k d f
        by k d inside (inr l) = behind k d inside (cases_lt place k) l

pub gap_wanted : (path : List ℕ) (wanted : Wanted) (rs : List Record) (i : ℕ) → IsGapAt (asked_cmp path None) rs i
    → None ≡ position (is_wanted_at path wanted) rs
gap_wanted path wanted rs i gap =
    sym (position_none (is_wanted_at path wanted) rs (λ k d within. by k d within (cases_lt k i)))
  where
    by : (k : ℕ) (d : Record) → k < length rs → (k < i) ⊎ (i ≤ k) → is_wanted_at path wanted (get_or rs k d) ≡ false
    by k d within (inl f) = not_first _ _ (sym (at_is path (get_or rs k d)) ∙ ap is_eq (gap.below k d (omega arith) f))
    by k d within (inr l) = not_first _ _ (sym (at_is path (get_or rs k d)) ∙ ap is_eq (gap.above k d l within))

-- ---- the record at stage 0, or else at stage 2

first_or_none : {X : Type 0} (p : X → Bool) (xs : List X)
    → ((i : ℕ) × (i < length xs) × AllWithin (λ x. p x ≡ false) xs 0 i × HoldsAt (λ x. p x ≡ true) xs i)
    ⊎ All (λ x. p x ≡ false) xs
first_or_none p [] = inr (λ k d within. absurd (omega arith))
first_or_none {X} p (x ∷ xs) = by (p x) refl (first_or_none p xs)
  where
    none : p x ≡ false → All (λ y. p y ≡ false) xs → (k : ℕ) (d : X) → k < length (x ∷ xs)
        → p (get_or (x ∷ xs) k d) ≡ false
    none e h zero d within = e
    none e h (suc k) d within = h k d (omega arith)

    before : p x ≡ false → (i : ℕ) → AllWithin (λ y. p y ≡ false) xs 0 i → (k : ℕ) (d : X) → 0 ≤ k → k < suc i
        → p (get_or (x ∷ xs) k d) ≡ false
    before e i h zero d l u = e
    before e i h (suc k) d l u = h k d (omega arith) (omega arith)

    by : (b : Bool) → p x ≡ b
        → ((i : ℕ) × (i < length xs) × AllWithin (λ y. p y ≡ false) xs 0 i × HoldsAt (λ y. p y ≡ true) xs i)
        ⊎ All (λ y. p y ≡ false) xs
        → ((i : ℕ) × (i < length (x ∷ xs)) × AllWithin (λ y. p y ≡ false) (x ∷ xs) 0 i
        × HoldsAt (λ y. p y ≡ true) (x ∷ xs) i) ⊎ All (λ y. p y ≡ false) (x ∷ xs)
    by true e rest = inl (0, omega arith, λ k d l u. absurd (omega arith), λ d. e)
    by false e (inl f) = inl (suc f.0, omega (arith, f.1), before e f.0 f.2, λ d. f.3 d)
    by false e (inr h) = inr (none e h)

stage_cases : (n : ℕ) → ((n == 0) || (n == 2)) ≡ true → (n ≡ 0) ⊎ (n ≡ 2)
stage_cases zero e = inl refl
stage_cases (suc n) e = inr (grind (arith, nat_tests, e))

-- what is ours has one of both stages
pub ours_has : (path : List ℕ) (r : Record) → is_wanted_at path OurSide r ≡ true → HasStageOf path r
ours_has path r e =
    let both = and_both (is_at path r) (is_wanted OurSide r.mode (record_stage r)) e in
    by ((bytes_decides r.path path).0 both.0) (stage_cases (record_stage r) both.1)
  where
    by : r.path ≡ path → (record_stage r ≡ 0) ⊎ (record_stage r ≡ 2) → HasStageOf path r
    by name (inl s) = inl (record { path_is = name; stage_is = s })
    by name (inr s) = inr (record { path_is = name; stage_is = s })

-- what isn't has none of them
other_stage : (b : Bool) (n : ℕ) → (b && ((n == 0) || (n == 2))) ≡ false
    → ((b && (n == 0)) ≡ false) × ((b && (n == 2)) ≡ false)
other_stage true n e = grind (arith, nat_tests, e)
other_stage false n e = (refl, refl)

key_true : (path : List ℕ) (stage : ℕ) (r : Record) → HasKey path stage r → has_key path stage r ≡ true
key_true path stage r h =
    rw ((bytes_decides r.path path).1 h.path_is) (let e = h.stage_is in grind (arith, nat_tests, e))

stage_false : (path : List ℕ) (stage : ℕ) (r : Record) → (record_stage r ≡ stage → ⊥) → has_key path stage r ≡ false
stage_false path stage r h = by (bytes_eq r.path path) (record_stage r == stage)
    (false_from_ne_true (record_stage r == stage) (λ t. h (grind (arith, nat_tests, t))))
  where
    by : (a b : Bool) → b ≡ false → (a && b) ≡ false
    by true b e = e
    by false b e = refl

-- after a record at stage 2 none at stage 0 of the same path follows
not_behind : (path : List ℕ) (r q : Record) → HasKey path 2 r → record_cmp r q ≡ Less → has_key path 0 q ≡ false
not_behind path r q h less = false_from_ne_true (has_key path 0 q) (λ t.
    let both = and_both (bytes_eq q.path path) (record_stage q == 0) t in
    let name : q.path ≡ path = (bytes_decides q.path path).0 both.0 in
    let zero_is : record_stage q ≡ 0 = let e = both.1 in grind (arith, nat_tests, e) in
    let tie : path_cmp r.path q.path ≡ Equal = (same_path r.path q.path).1 (h.path_is ∙ sym name) in
    let two : record_stage r ≡ 2 = h.stage_is in
    let bad : Greater ≡ Less = sym (rw (tie, two, zero_is) refl) ∙ less in
    cc)

some_record : (rs : List Record) (i : ℕ) → i < length rs → Record
some_record [] i within = absurd (omega arith)
some_record (r ∷ rs) i within = r

pub ours_place : (path : List ℕ) (rs : List Record) → IsStrictlyOrdered rs
    → position (is_wanted_at path OurSide) rs ≡ place_of_path path rs
ours_place path rs o = by (first_or_none (is_wanted_at path OurSide) rs)
  where
    apart : (r : Record) → is_wanted_at path OurSide r ≡ false → (has_key path 0 r ≡ false) × (has_key path 2 r ≡ false)
    apart r e = other_stage (is_at path r) (record_stage r) e

    at : (i : ℕ) → i < length rs → AllWithin (λ r. is_wanted_at path OurSide r ≡ false) rs 0 i
        → ((d : Record) → HasKey path 0 (get_or rs i d)) ⊎ ((d : Record) → HasKey path 2 (get_or rs i d))
        → Some i ≡ place_of_path path rs
    at i within before (inl h) =
        let zeroth : record_index path 0 rs ≡ Some i = position_is (has_key path 0) rs i within
        (λ k d l u. (apart (get_or rs k d) (before k d l u)).0) (λ d. key_true path 0 (get_or rs i d) (h d)) in
        rw zeroth refl
    at i within before (inr h) =
        let second : record_index path 2 rs ≡ Some i = position_is (has_key path 2) rs i within
        (λ k d l u. (apart (get_or rs k d) (before k d l u)).1) (λ d. key_true path 2 (get_or rs i d) (h d)) in
        let zeroth : record_index path 0 rs ≡ None =
        position_none (has_key path 0) rs (λ k d inside. none k d inside (cases_lt k i)) in
        rw (zeroth, second) refl
      where
        from : (k : ℕ) (d : Record) → k < length rs → (i < k) ⊎ (k ≤ i) → i ≤ k → has_key path 0 (get_or rs k d) ≡ false
        from k d inside (inl b) l = not_behind path (get_or rs i d) (get_or rs k d) (h d) (o.less i k d b inside)
        from k d inside (inr b) l =
            let same : k ≡ i = omega arith in
            ap (λ (j : ℕ). has_key path 0 (get_or rs j d)) same ∙ stage_false path 0 (get_or rs i d)
            (λ e. let two = (h d).stage_is in let both : 0 ≡ 2 = sym e ∙ two in absurd (omega (arith, both)))

        none : (k : ℕ) (d : Record) → k < length rs → (k < i) ⊎ (i ≤ k) → has_key path 0 (get_or rs k d) ≡ false
        none k d inside (inl f) = (apart (get_or rs k d) (before k d (omega arith) f)).0
        none k d inside (inr l) = from k d inside (cases_lt i k) l

    one : (i : ℕ) → i < length rs → HoldsAt (λ r. is_wanted_at path OurSide r ≡ true) rs i → (z : Record)
        → ((d : Record) → HasKey path 0 (get_or rs i d)) ⊎ ((d : Record) → HasKey path 2 (get_or rs i d))
    one i within h z = pick (ours_has path (get_or rs i z) (h z))
      where
        same : (d : Record) → get_or rs i z ≡ get_or rs i d
        same d = get_or_default rs i z d within

        pick : HasStageOf path (get_or rs i z)
            → ((d : Record) → HasKey path 0 (get_or rs i d)) ⊎ ((d : Record) → HasKey path 2 (get_or rs i d))
        pick (inl k) = inl (λ d. subst (HasKey path 0) (same d) k)
        pick (inr k) = inr (λ d. subst (HasKey path 2) (same d) k)

    by : ((i : ℕ) × (i < length rs) × AllWithin (λ r. is_wanted_at path OurSide r ≡ false) rs 0 i
        × HoldsAt (λ r. is_wanted_at path OurSide r ≡ true) rs i) ⊎ All (λ r. is_wanted_at path OurSide r ≡ false) rs
        → position (is_wanted_at path OurSide) rs ≡ place_of_path path rs
    by (inl f) = position_is (is_wanted_at path OurSide) rs f.0 f.1 f.2 f.3
        ∙ at f.0 f.1 f.2 (one f.0 f.1 f.3 (some_record rs f.0 f.1))
    by (inr h) =
        let zeroth : record_index path 0 rs ≡ None =
        position_none (has_key path 0) rs (λ k d inside. (apart (get_or rs k d) (h k d inside)).0) in
        let second : record_index path 2 rs ≡ None =
        position_none (has_key path 2) rs (λ k d inside. (apart (get_or rs k d) (h k d inside)).1) in
        position_none (is_wanted_at path OurSide) rs h ∙ sym (rw (zeroth, second) refl)

-- ---- the first two at a path are enough

then_less : (o p : Ordering) → ordering_then o p ≡ Less → o ≢ Greater
then_less Less p e f = cc
then_less Equal p e f = cc
then_less Greater p e f = cc

stages_rise : (r q : Record) → r.path ≡ q.path → record_cmp r q ≡ Less → record_stage r < record_stage q
stages_rise r q e less =
    let tie : path_cmp r.path q.path ≡ Equal = (same_path r.path q.path).1 e in
    let stages : nat_cmp (record_stage r) (record_stage q) ≡ Less = sym (rw tie refl) ∙ less in
    grind (arith, nat_tests, stages)

-- a record between two of one path has it too
between_paths : (a b c : List ℕ) → path_cmp a b ≢ Greater → path_cmp b c ≢ Greater → a ≡ c → b ≡ c
between_paths a b c up down e = by (path_cmp b c) refl
  where
    by : (o : Ordering) → path_cmp b c ≡ o → b ≡ c
    by Less f = absurd (up (ap (λ (x : List ℕ). path_cmp x b) e ∙ paths_total.antisymm c b ∙ ap ordering_reverse f))
    by Equal f = (same_path b c).0 f
    by Greater f = absurd (down f)

pub two_enough : (path : List ℕ) (rs : List Record) (low end : ℕ) → IsStrictlyOrdered rs
    → IsEqualAt (asked_cmp path None) rs low → end ≡ low + min (length rs - low) 2
    → IsEnoughUpto (is_wanted_at path OurSide) rs low end
two_enough path rs low end o here is none k d l u = false_from_ne_true (is_wanted_at path OurSide (get_or rs k d)) (λ t.
    let far : low + 2 ≤ k = omega (arith, is, here.in_range) in
    let both = and_both (is_at path (get_or rs k d))
    (is_wanted OurSide (get_or rs k d).mode (record_stage (get_or rs k d))) t in
    let last : (get_or rs k d).path ≡ path = (bytes_decides (get_or rs k d).path path).0 both.0 in
    let first : (get_or rs low d).path ≡ path = (same_path (get_or rs low d).path path).0 (here.here d) in
    let less = o.less low (low + 1) d (omega arith) (omega arith) in
    let more = o.less (low + 1) k d (omega arith) u in
    let middle : (get_or rs (low + 1) d).path ≡ (get_or rs k d).path =
    between_paths (get_or rs low d).path (get_or rs (low + 1) d).path (get_or rs k d).path (then_less _ _ less)
    (then_less _ _ more) (first ∙ sym last) in
    let up = stages_rise (get_or rs low d) (get_or rs (low + 1) d) (first ∙ sym (middle ∙ last)) less in
    let up_more = stages_rise (get_or rs (low + 1) d) (get_or rs k d) middle more in
    let not_first =
    not_ours path (get_or rs low d) first (none low d (omega arith) (omega (arith, is, here.in_range))) in
    let one = stage_cases (record_stage (get_or rs k d)) both.1 in
    elim one [ inl e ↦ omega arith | inr e ↦ omega (arith, not_first) ])
  where
    not_ours : (path : List ℕ) (r : Record) → r.path ≡ path → is_wanted_at path OurSide r ≡ false → record_stage r ≢ 0
    not_ours path r e f g =
        let at : is_at path r ≡ true = (bytes_decides r.path path).1 e in
        let bad : is_wanted_at path OurSide r ≡ true = rw (at, g) refl in
        cc

-- ---- the properties of the index that is returned

pub if_some : {X : Type 0} (P Q : X → Type 0) → ((x : X) → P x → Q x) → (r : Option X) → IfSome r P → IfSome r Q
if_some P Q f None h = tt
if_some P Q f (Some x) h = f x h
