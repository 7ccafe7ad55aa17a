-- The first index at which a record is replaced by a new one.
use Rattle.std.proofs.Common.{◌≡◌, ◌≢◌, ℕ, ◌+◌, ◌<◌, ◌≤◌, ◌⊎◌, inl, inr, Bool, true, false, ◌==◌, not, List, [], ◌∷◌, ◌++◌}
use Rattle.std.proofs.Common.{length, get_or, take, drop, filter, map, All, Some, None, suc, refl, sym, ap, ◌∙◌, arith, length-take}
use Rattle.std.proofs.lemmas.Bool.{cases_lt}
use Rattle.std.proofs.lemmas.Bool.Decides.{nat_tests}
use Rattle.std.proofs.lemmas.List.{get_or_default, take-take, take_all, take-append-drop, get_or-take, drop-map, map-append, take-map}
use Rattle.std.proofs.lemmas.List.Elements.{filter-append}
use Rattle.std.proofs.lemmas.List.Filters.{FiltersInPlace, FiltersInPlace-more_no, FiltersInPlace-more_swap}
use Rattle.std.proofs.lemmas.List.Quantifiers.{position-Some}
use Rattle.std.specs.List.{AllWithin, SwappedAt, starts_with}
use Rattle.std.specs.Ordering.{is_eq, is_lt, nat_cmp, ordering_reverse, ordering_then}
use Rattle.std.specs.Prelude.{is_some, nat_eq, position}
use Rattle.std.specs.declared.cmp.Ordering.{Ordering}
use Rattle.std.specs.declared.cmp.Ordering.TheVariants.{Less, Equal, Greater}
use Rattle.entry_list.specs.Order.{IsStrictlyOrdered, path_cmp, record_stage}
use Rattle.entry_list.specs.Record.{Record, record_in, records_in}
use Rattle.entry_list.specs.declared.Entry.{Entry}
use Rattle.entry_list.proofs.Orders.{paths_total, same_path}
use Rattle.entry_lookup.specs.Closest.{is_below}
use Rattle.entry_lookup.specs.Lookup.{IsKeyAt, has_key}
use Rattle.entry_lookup.specs.Range.{is_at}
use Rattle.entry_lookup.proofs.RunsFound.{at_is}
use Rattle.entry_lookup.proofs.TableMade.{and_both, begins_at}
use Rattle.entry_lookup.proofs.TableSearch.{all_none}
use Rattle.base_search.proofs.Halving.{position_is}
use Rattle.entry_edit.specs.EditSteps.{IsClear, is_other, entry_record, stands_above, staying}
use Rattle.entry_edit.proofs.Anys.{any_placed}
use Rattle.entry_edit.proofs.Clears.{ends_behind}
use Rattle.entry_edit.proofs.Displacings.{same_number}
use Rattle.entry_edit.proofs.Splits.{prefix_less}
use Rattle.entry_edit.proofs.Stagings.{filter_all}
use Rattle.entry_edit.proofs.Ways.{above_key}

false_from : (b : Bool) → (b ≡ true → ⊥) → b ≡ false
false_from true h = absurd (h refl)
false_from false h = refl

-- ---- the first file where a path needs a directory

reversed : (o : Ordering) → o ≡ Less → ordering_reverse o ≡ Greater
reversed o e = ap ordering_reverse e

-- a longer front of a path isn't below a shorter one
front_cmp : (path : List ℕ) (n m : ℕ) → n ≤ m → path_cmp (take m path) (take n path) ≢ Less
front_cmp path n m le e = by (cases_lt n (length (take m path)))
  where
    short : take n (take m path) ≡ take n path
    short = take-take n m path le

    by : (n < length (take m path)) ⊎ (length (take m path) ≤ n) → ⊥
    by (inl l) =
        let less : path_cmp (take n path) (take m path) ≡ Less =
        ap (λ p. path_cmp p (take m path)) (sym short) ∙ prefix_less n (take m path) l in
        let back : path_cmp (take m path) (take n path) ≡ Greater =
        paths_total.antisymm (take m path) (take n path) ∙ reversed _ less in
        let both : Greater ≡ Less = sym back ∙ e in cc
    by (inr g) =
        let same : take m path ≡ take n path = sym (take_all n (take m path) g) ∙ short in
        let both : Equal ≡ Less = sym ((same_path (take m path) (take n path)).1 same) ∙ e in cc

then_less : (a b : Ordering) → ordering_then a b ≡ Less → b ≢ Less → a ≡ Less
then_less Less b e n = refl
then_less Equal b e n = absurd (n e)
then_less Greater b e n = cc

not_below : (m n : ℕ) → m ≡ n → nat_cmp m n ≢ Less
not_below m n e f = let same : nat_cmp m n ≡ Equal = grind (arith, nat_tests, e) in let both : Equal ≡ Less = sym same ∙ f in cc

pub first_at : (path : List ℕ) (stage : ℕ) (rs : List Record) (known at place : ℕ) → IsStrictlyOrdered rs
    → IsClear (take known path) stage rs
    → ((k : ℕ) → known ≤ k → k < at → get_or path k 0 ≡ 47
    → All (λ r. has_key (take k path) stage r ≡ false) rs)
    → at < length path → get_or path at 0 ≡ 47 → IsKeyAt (take at path) stage rs place
    → position (stands_above path stage) rs ≡ Some place
first_at path stage rs known at place o clear h within slash key =
    position_is (stands_above path stage) rs place key.in_range
    (λ k d low before. false_from (stands_above path stage (get_or rs k d)) (λ t.
    let r = get_or rs k d in
    let q = get_or rs place d in
    let behind = ends_behind path stage rs known at clear h k d (omega (arith, before, key.in_range)) t in
    let both = and_both (record_stage r == stage) (starts_with nat_eq path (r.path ++ 47 ∷ [])) t in
    let front = begins_at r.path path 47 both.1 in
    let stages : record_stage r ≡ record_stage q =
    same_number (record_stage r) stage both.0 ∙ sym (key.here d).stage_is in
    let less : path_cmp r.path q.path ≡ Less = then_less (path_cmp r.path q.path)
    (nat_cmp (record_stage r) (record_stage q)) (o.less k place d before key.in_range)
    (not_below (record_stage r) (record_stage q) stages) in
    front_cmp path at (length r.path) behind (ap (λ p. path_cmp p (take at path)) front.2
    ∙ ap (path_cmp r.path) (sym (key.here d).path_is) ∙ less)))
    (λ d. above_key path stage at (get_or rs place d) within slash (key.here d))

-- ---- before it, and before the path

before_first : {X : Type 0} (p : X → Bool) (xs : List X) (i : ℕ) → position p xs ≡ Some i
    → AllWithin (λ x. p x ≡ false) xs 0 i
before_first p xs i e k d low high = (position-Some p xs i d e).2 k high

none_first : {X : Type 0} (p : X → Bool) (xs : List X) → position p xs ≡ None → All (λ x. p x ≡ false) xs
none_first p xs e = all_none p xs (sym (any_placed p xs) ∙ ap is_some e)

not_equal : (o : Ordering) → is_lt o ≡ true → is_eq o ≡ false
not_equal Less e = refl
not_equal Equal e = cc
not_equal Greater e = cc

lt_less : (o : Ordering) → is_lt o ≡ true → o ≡ Less
lt_less Less e = refl
lt_less Equal e = cc
lt_less Greater e = cc

-- a record whose path is before another isn't below that
before_below : (path : List ℕ) (r : Record) → path_cmp r.path path ≡ Less → is_below path r ≡ false
before_below path r less = false_from (is_below path r) (λ t.
    let at = begins_at path r.path 47 t in
    let front = ap (λ p. path_cmp p r.path) (sym at.2) ∙ prefix_less (length path) r.path at.0 in
    let back : path_cmp r.path path ≡ Greater = paths_total.antisymm r.path path ∙ reversed _ front in
    let both : Greater ≡ Less = sym back ∙ less in cc)

stays_before : (new r : Record) → is_lt (path_cmp r.path new.path) ≡ true
    → stands_above new.path (record_stage new) r ≡ false → is_other new r ≡ false
stays_before new r lt above =
    let less = lt_less (path_cmp r.path new.path) lt in
    let at : is_at new.path r ≡ false = sym (at_is new.path r) ∙ not_equal (path_cmp r.path new.path) lt in
    rw (at, before_below new.path r less) above

pub none_other : (new : Record) (rs : List Record) (start : ℕ)
    → AllWithin (λ r. is_lt (path_cmp r.path new.path) ≡ true) rs 0 start
    → AllWithin (λ r. stands_above new.path (record_stage new) r ≡ false) rs 0 start
    → AllWithin (λ r. is_other new r ≡ false) rs 0 start
none_other new rs start before above k d low high =
    stays_before new (get_or rs k d) (before k d low high) (above k d low high)

-- from the first record above the path, if there is one
pub other_from : (new : Record) (rs : List Record) (start place : ℕ)
    → AllWithin (λ r. is_lt (path_cmp r.path new.path) ≡ true) rs 0 start
    → position (stands_above new.path (record_stage new)) rs ≡ Some place → (least : ℕ) → least ≤ start → least ≤ place
    → AllWithin (λ r. is_other new r ≡ false) rs 0 least
other_from new rs start place before e least a b = none_other new rs least
    (λ k d low high. before k d low (omega (arith, a, high)))
    (λ k d low high. before_first (stands_above new.path (record_stage new)) rs place e k d low (omega (arith, b, high)))

pub other_none : (new : Record) (rs : List Record) (start : ℕ) → start ≤ length rs
    → AllWithin (λ r. is_lt (path_cmp r.path new.path) ≡ true) rs 0 start
    → position (stands_above new.path (record_stage new)) rs ≡ None
    → AllWithin (λ r. is_other new r ≡ false) rs 0 start
other_none new rs start fits before e = none_other new rs start before
    (λ k d low high. none_first (stands_above new.path (record_stage new)) rs e k d (omega (arith, high, fits)))

-- ---- what stays

-- one entry more, moved to the start of those that are replaced if it stays
module _ (storage : List ℕ) (new : Record) (xs ys : List Entry) (k i : ℕ)
    (so_far : FiltersInPlace (λ e. not (is_other new (record_in storage e))) xs ys k i) (within : i < length ys)
    (d : Entry) (path : List ℕ) (goes : Bool) (is : goes ≡ is_other new (entry_record path (get_or ys i d)))
    (own : path ≡ (record_in storage (get_or ys i d)).path) where
  told : goes ≡ is_other new (record_in storage (get_or ys i d))
  told = is ∙ ap (λ p. is_other new (entry_record p (get_or ys i d))) own

  read : get_or ys i d ≡ get_or ys i (get_or ys i d)
  read = get_or_default ys i d (get_or ys i d) within

  pub gathered : (zs : List Entry) → goes ≡ false → SwappedAt ys zs k i
      → FiltersInPlace (λ e. not (is_other new (record_in storage e))) xs zs (k + 1) (i + 1)
  gathered zs f s = FiltersInPlace-more_swap so_far within (ap not (sym told ∙ f)) read s

  pub passed_over : goes ≡ true → FiltersInPlace (λ e. not (is_other new (record_in storage e))) xs ys k (i + 1)
  passed_over f = FiltersInPlace-more_no so_far within (ap not (sym told ∙ f)) read

-- the start with the first k elements after it
pub front_kept : {X : Type 0} (xs ys : List X) (k : ℕ) → take (length xs + k) (xs ++ ys) ≡ xs ++ take k ys
front_kept [] ys k = let e : 0 + k ≡ k = omega arith in ap (λ n. take n ys) e
front_kept (x ∷ xs) ys k =
    let e : length (x ∷ xs) + k ≡ suc (length xs + k) = omega arith in
    ap (λ n. take n (x ∷ (xs ++ ys))) e ∙ ap (λ l. x ∷ l) (front_kept xs ys k)

filter-map : {A B : Type 0} (p : B → Bool) (f : A → B) (xs : List A)
    → filter p (map f xs) ≡ map f (filter (λ x. p (f x)) xs)
filter-map p f [] = refl
filter-map {A} {B} p f (x ∷ xs) = by (p (f x)) refl (filter-map p f xs)
  where
    by : (b : Bool) → p (f x) ≡ b → filter p (map f xs) ≡ map f (filter (λ x. p (f x)) xs)
        → filter p (map f (x ∷ xs)) ≡ map f (filter (λ x. p (f x)) (x ∷ xs))
    by true e rest = rw e (ap (λ l. f x ∷ l) rest)
    by false e rest = rw e rest

pub left_behind : (storage : List ℕ) (new : Record) (es now : List Entry) (start : ℕ)
    → now ≡ take start es ++ staying storage new (drop start es)
    → AllWithin (λ r. is_other new r ≡ false) (records_in storage es) 0 start
    → records_in storage now ≡ filter (λ r. not (is_other new r)) (records_in storage es)
left_behind storage new es now start e none =
    let stay : Record → Bool = λ r. not (is_other new r) in
    let rs = records_in storage es in
    let front : filter stay (take start rs) ≡ take start rs =
    filter_all stay (take start rs) (λ k d within.
    let n : k < start = omega (arith, within, length-take start rs) in
    rw (get_or-take start rs k d n) (ap not (none k d (omega arith) n))) in
    ap (records_in storage) e
    ∙ map-append (record_in storage) (take start es) (staying storage new (drop start es))
    ∙ ap (λ l. l ++ records_in storage (staying storage new (drop start es))) (sym (take-map (record_in storage) start es))
    ∙ ap (λ l. take start rs ++ l) (sym (filter-map stay (record_in storage) (drop start es))
    ∙ ap (filter stay) (sym (drop-map (record_in storage) start es)))
    ∙ ap (λ l. l ++ filter stay (drop start rs)) (sym front)
    ∙ sym (filter-append stay (take start rs) (drop start rs))
    ∙ ap (filter stay) (take-append-drop start rs)
