-- What halving a table of names finds.
use Rattle.std.proofs.Common.{◌≡◌, ◌≢◌, ℕ, zero, suc, [], ◌∷◌, ◌<◌, ◌≤◌, ◌⊎◌, inl, inr, Bool, true, false}
use Rattle.std.proofs.Common.{List, length, get_or, map, Some, None, Result, Err, IfErr, refl, sym, ap, ◌∙◌, subst}
use Rattle.std.proofs.Common.{arith}
use Rattle.std.proofs.Math.ListN.{get_or-map}
use Rattle.std.specs.Cmp.{IsTotalOrder}
use Rattle.std.specs.List.{AllPairs, HoldsAt, position}
use Rattle.std.specs.Ordering.{nat_cmp, ordering_then, is_lt, is_le, is_eq}
use Rattle.std.specs.declared.cmp.Ordering.{Ordering}
use Rattle.std.specs.declared.cmp.Ordering.TheVariants.{Less, Equal, Greater}
use Rattle.std.proofs.lemmas.Bool.{cases_lt, false_from_ne_true}
use Rattle.std.proofs.lemmas.Bool.Decides.{nat_tests}
use Rattle.std.proofs.lemmas.List.{length-map, get_or_default, get_or-map as at_map}
use Rattle.entry_list.specs.Record.{Record}
use Rattle.base_search.proofs.Halving.{position_is, position_none, split_by}
use Rattle.entry_lookup.proofs.Outer.{order_total, same_name}
use Rattle.entry_lookup.specs.Folded.{folded}
use Rattle.base_search.specs.Halving.{IsRising, IsPartedAt, IsGapAt}
use Rattle.entry_lookup.specs.NameSteps.{NamedValue, named_value, name_order, named_cmp, IsTableOf}
use Rattle.entry_lookup.specs.declared.names.Named.{Named}
use Rattle.base_search.proofs.OrderedAnswers.{rising_of}
use Rattle.base_search.proofs.Parting.{equal_from as tied_from, rises, gap_parted}
use Rattle.entry_lookup.proofs.Lookup.{err_is}

-- ---- a list whose keys never fall gives a rising row

pub rising_by : {X K : Type 0} {R : K → K → Ordering} (total : IsTotalOrder R) (f : X → K) (z : K) (xs : List X)
    → AllPairs (λ x y. R (f x) (f y) ≢ Greater) xs → IsRising (map (λ x. R (f x) z) xs)
rising_by {X} {K} {R} total f z xs h = rising_of (λ (x : X). R (f x) z) xs (split_by total f z xs h)

then_first : (o p : Ordering) → ordering_then o p ≢ Greater → o ≢ Greater
then_first Less p h e = cc
then_first Equal p h e = cc
then_first Greater p h e = h refl

module _ (outer ignore_case : Bool) (test : List ℕ → Record → Bool) (rs : List Record) (ks : List NamedValue)
    (table : IsTableOf outer ignore_case test rs ks) (name : List ℕ) where
  abbrev cmp : NamedValue → Ordering
  cmp k = name_order outer (folded ignore_case k.name) (folded ignore_case name)

  pub rising_table : IsRising (map (λ k. name_order outer (folded ignore_case k.name) (folded ignore_case name)) ks)
  rising_table = rising_by (order_total outer) (λ (k : NamedValue). folded ignore_case k.name)
      (folded ignore_case name) ks (λ i j d before within. then_first _ _ (table.ordered i j d before within))

  module _ (low : ℕ) (p : IsPartedAt false
      (map (λ k. name_order outer (folded ignore_case k.name) (folded ignore_case name)) ks) low) where
    at : (j : ℕ) (k : NamedValue) → get_or ks j k ≡ k → get_or (map cmp ks) j (cmp k) ≡ cmp k
    at j k e = get_or-map cmp ks j k ∙ ap cmp e

    -- an equal one is at low or after it
    equal_behind : (j : ℕ) (k : NamedValue) → get_or ks j k ≡ k → cmp k ≡ Equal → low ≤ j
    equal_behind j k e same = by (cases_lt j low)
      where
        by : (j < low) ⊎ (low ≤ j) → low ≤ j
        by (inl front) =
            let told : is_lt (get_or (map cmp ks) j (cmp k)) ≡ true = p.before j (cmp k) (omega arith) front in
            let here : is_lt (get_or (map cmp ks) j (cmp k)) ≡ false = ap is_lt (at j k e ∙ same) in
            cc
        by (inr back) = back

    equal_from : (k : NamedValue) → folded ignore_case k.name ≡ folded ignore_case name → cmp k ≡ Equal
    equal_from k e = (same_name outer (folded ignore_case k.name) (folded ignore_case name)).1 e

    module _ (x : NamedValue) (inside : low < length ks) (here : get_or ks low x ≡ x) (same : cmp x ≡ Equal) where
      passes : (q : Record) → test name (get_or rs x.place q) ≡ true
      passes q =
          let P : NamedValue → Type 0 = λ k. test k.name (get_or rs k.place q) ≡ true in
          let told : test x.name (get_or rs x.place q) ≡ true = subst P here (table.sound low x q inside) in
          sym (table.alike x.name name (get_or rs x.place q)
          ((same_name outer (folded ignore_case x.name) (folded ignore_case name)).0 same)) ∙ told

      in_list : x.place < length rs
      in_list = let P : NamedValue → Type 0 = λ k. k.place < length rs in subst P here (table.within low x inside)

      -- none with a lesser place is equal
      no_lesser : (k : NamedValue) (j : ℕ) → j < length ks → get_or ks j k ≡ k → cmp k ≡ Equal → k.place < x.place → ⊥
      no_lesser k j within e eq lesser = by (cases_lt low j)
        where
          tie : name_order outer (folded ignore_case x.name) (folded ignore_case k.name) ≡ Equal
          tie =
              let a : folded ignore_case x.name ≡ folded ignore_case name =
              (same_name outer (folded ignore_case x.name) (folded ignore_case name)).0 same in
              let b : folded ignore_case k.name ≡ folded ignore_case name =
              (same_name outer (folded ignore_case k.name) (folded ignore_case name)).0 eq in
              (same_name outer (folded ignore_case x.name) (folded ignore_case k.name)).1 (a ∙ sym b)

          above : nat_cmp x.place k.place ≡ Greater
          above = grind (arith, nat_tests, lesser)

          falls_down : named_cmp outer ignore_case x k ≡ Greater
          falls_down = rw tie above

          at_low : get_or ks low k ≡ x
          at_low = get_or_default ks low k x inside ∙ here

          by : (low < j) ⊎ (j ≤ low) → ⊥
          by (inl front) =
              let P : NamedValue → Type 0 = λ y. named_cmp outer ignore_case y (get_or ks j k) ≢ Greater in
              let Q : NamedValue → Type 0 = λ y. named_cmp outer ignore_case x y ≢ Greater in
              subst Q e (subst P at_low (table.ordered low j k front within)) falls_down
          by (inr back) =
              let low_le : low ≤ j = equal_behind j k e eq in
              let level : j ≡ low = omega arith in
              let one : x ≡ k = sym at_low ∙ ap (λ (i : ℕ). get_or ks i k) (sym level) ∙ e in
              let places : x.place ≡ k.place = ap (λ (y : NamedValue). y.place) one in
              omega arith

      pub found_some : Some x.place ≡ position (test name) rs
      found_some = sym (position_is (test name) rs x.place in_list
          (λ i q low' lesser. false_from_ne_true (test name (get_or rs i q)) (λ t. let c = table.complete name i q
          (omega (arith, in_list)) t in no_lesser c.0 c.1.0 c.1.1 c.1.2 (equal_from c.0 c.2) (omega (arith, c.3))))
          passes)

    pub found_none : ((x : NamedValue) → low < length ks → get_or ks low x ≡ x → is_eq (cmp x) ≡ false)
        → None ≡ position (test name) rs
    found_none other = sym (position_none (test name) rs (λ i q within. false_from_ne_true (test name (get_or rs i q))
        (λ t. let c = table.complete name i q within t in no_equal c.0 c.1.0 c.1.1 c.1.2 (equal_from c.0 c.2))))
      where
        is_above : (o : Ordering) → is_lt o ≡ false → is_eq o ≡ false → is_le o ≡ false
        is_above Less e f = cc
        is_above Equal e f = cc
        is_above Greater e f = refl

        no_equal : (k : NamedValue) (j : ℕ) → j < length ks → get_or ks j k ≡ k → cmp k ≡ Equal → ⊥
        no_equal k j within e eq = by (cases_lt low j)
          where
            back_at : low ≤ j
            back_at = equal_behind j k e eq

            n : length (map cmp ks) ≡ length ks
            n = length-map ks cmp

            by : (low < j) ⊎ (j ≤ low) → ⊥
            by (inl front) =
                let inside : low < length ks = omega (arith, back_at) in
                let here : get_or ks low (get_or ks low k) ≡ get_or ks low k =
                get_or_default ks low (get_or ks low k) k inside in
                let not_eq : is_eq (cmp (get_or ks low k)) ≡ false = other (get_or ks low k) inside here in
                let read : get_or (map cmp ks) low (cmp k) ≡ cmp (get_or ks low k) = get_or-map cmp ks low k in
                let not_lt : is_lt (cmp (get_or ks low k)) ≡ false =
                ap is_lt (sym read) ∙ p.behind low (cmp k) (omega arith) (omega (arith, n)) in
                let not_le_at : is_le (cmp (get_or ks low k)) ≡ false =
                is_above (cmp (get_or ks low k)) not_lt not_eq in
                let le_at : is_le (get_or (map cmp ks) low (cmp k)) ≡ true = rises true (map cmp ks) rising_table low j
                (cmp k) front (omega (arith, n)) (ap is_le (at j k e ∙ eq)) in
                let le_here : is_le (cmp (get_or ks low k)) ≡ true = ap is_le (sym read) ∙ le_at in
                cc
            by (inr back) =
                let level : j ≡ low = omega (arith, back_at) in
                let inside : low < length ks = omega (arith, back_at) in
                let e' : get_or ks low k ≡ k = ap (λ (i : ℕ). get_or ks i k) (sym level) ∙ e in
                let not_eq : is_eq (cmp k) ≡ false = other k inside e' in
                let is : is_eq (cmp k) ≡ true = ap is_eq eq in
                cc

-- ---- the same of names in a slice

pub name_at : (f : List ℕ → Ordering) (names : List Named) (place : ℕ) (z : Named) (o : Ordering)
    → place < length (map (λ k. f k.name) (map named_value names)) → o ≡ f (get_or names place z).name.now
    → HoldsAt (λ q. q ≡ o) (map (λ k. f k.name) (map named_value names)) place
name_at f names place z o inside told d =
    let test : NamedValue → Ordering = λ k. f k.name in
    let n : length (map test (map named_value names)) ≡ length (map named_value names) =
    length-map (map named_value names) test in
    at_map test (map named_value names) place (named_value (get_or names place z)) d (omega arith)
    ∙ ap test (get_or-map-shift names place z) ∙ sym told
  where
    get_or-map-shift : (names : List Named) (place : ℕ) (z : Named)
        → get_or (map named_value names) place (named_value (get_or names place z)) ≡ named_value (get_or names place z)
    get_or-map-shift [] place z = refl
    get_or-map-shift (x ∷ names) zero z = refl
    get_or-map-shift (x ∷ names) (suc place) z = get_or-map-shift names place z

module _ (outer ignore_case : Bool) (test : List ℕ → Record → Bool) (rs : List Record) (names : List Named)
    (table : IsTableOf outer ignore_case test rs (map named_value names)) (name : List ℕ) (low : ℕ)
    (p : IsPartedAt false (map (λ k. name_order outer (folded ignore_case k.name) (folded ignore_case name))
    (map named_value names)) low) where
  abbrev cmp_to : NamedValue → Ordering
  cmp_to k = name_order outer (folded ignore_case k.name) (folded ignore_case name)

  len : length (map named_value names) ≡ length names
  len = length-map names named_value

  module _ (o : Ordering) (read : HoldsAt (λ q. q ≡ o) (map
      (λ k. name_order outer (folded ignore_case k.name) (folded ignore_case name)) (map named_value names)) low) where
    answer_is : (x : NamedValue) → get_or (map named_value names) low x ≡ x → cmp_to x ≡ o
    answer_is x here = sym (ap cmp_to here) ∙ sym (get_or-map cmp_to (map named_value names) low x) ∙ read (cmp_to x)

    pub find_some : (z : Named) → low < length
        (map (λ k. name_order outer (folded ignore_case k.name) (folded ignore_case name)) (map named_value names))
        → is_eq o ≡ true → Some (get_or names low z).place ≡ position (test name) rs
    find_some z told eq =
        let inside : low < length names = omega (arith, told, length-map (map named_value names) cmp_to, len) in
        let x : NamedValue = named_value (get_or names low z) in
        let here : get_or (map named_value names) low (named_value (get_or names low z))
        ≡ named_value (get_or names low z) =
        at_map named_value names low z (named_value (get_or names low z)) inside in
        found_some outer ignore_case test rs (map named_value names) table name low p (named_value (get_or names low z))
        (omega (arith, len)) here (answer_is (named_value (get_or names low z)) here ∙ tied_from o eq)

pub keys_length : (f : NamedValue → Ordering) (names : List Named)
    → length names ≡ length (map f (map named_value names))
keys_length f names = sym (length-map (map named_value names) f ∙ length-map names named_value)

module _ (outer ignore_case : Bool) (test : List ℕ → Record → Bool) (rs : List Record) (names : List Named)
    (table : IsTableOf outer ignore_case test rs (map named_value names)) (name : List ℕ) where
  abbrev answer : NamedValue → Ordering
  answer k = name_order outer (folded ignore_case k.name) (folded ignore_case name)

  gap_none : (low : ℕ) → low ≤ length names → IsGapAt (λ o. o)
      (map (λ k. name_order outer (folded ignore_case k.name) (folded ignore_case name)) (map named_value names)) low
      → None ≡ position (test name) rs
  gap_none low fits gap = found_none outer ignore_case test rs (map named_value names) table name low
      (gap_parted (map answer (map named_value names)) low (omega (arith, keys_length answer names)) gap)
      (λ x inside here. let above : get_or (map answer (map named_value names)) low (answer x) ≡ Greater =
      gap.above low (answer x) (omega arith) (omega (arith, length-map (map named_value names) answer)) in
      ap is_eq (sym (ap answer here) ∙ sym (get_or-map answer (map named_value names) low x) ∙ above))

  pub find_gap : (r : Result ℕ ℕ) → IfErr r (λ i. i ≤ length names) → IfErr r (IsGapAt (λ o. o)
      (map (λ k. name_order outer (folded ignore_case k.name) (folded ignore_case name)) (map named_value names)))
      → (low : ℕ) → r ≡ Err low → None ≡ position (test name) rs
  find_gap r fits gap low e =
      gap_none low (err_is r low (λ i. i ≤ length names) e fits) (err_is r low (IsGapAt (λ o. o) (map
      (λ k. name_order outer (folded ignore_case k.name) (folded ignore_case name)) (map named_value names))) e gap)
