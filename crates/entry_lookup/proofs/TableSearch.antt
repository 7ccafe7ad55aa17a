-- What a search by way of a table of directories finds.
use Rattle.std.proofs.Common.{◌≡◌, ℕ, zero, suc, ◌+◌, ◌-◌, ◌/◌, ◌<◌, ◌≤◌, ◌⊎◌, inl, inr, Bool, true, false, List, []}
use Rattle.std.proofs.Common.{◌∷◌, ◌++◌, length, get_or, take, map, All, Some, None, Result, Ok, Err, IfOk, IfErr, refl}
use Rattle.std.proofs.Common.{sym, ap, ◌∙◌, subst, arith, nat_eq}
use Rattle.std.proofs.Math.ListN.{get_or-map}
use Rattle.std.specs.List.{AllPairs, Contains, HoldsAt, list_any, count_by}
use Rattle.std.specs.Prelude.{◌||◌}
use Rattle.std.specs.declared.cmp.Ordering.{Ordering}
use Rattle.std.specs.declared.cmp.Ordering.TheVariants.{Less, Equal, Greater}
use Rattle.std.proofs.lemmas.Bool.{cases_lt, false_from_ne_true}
use Rattle.std.proofs.lemmas.Bool.Decides.{nat_tests}
use Rattle.std.proofs.lemmas.List.{length-map, get_or-map as at_map}
use Rattle.std.proofs.lemmas.List.Folds.{list_any_at}
use Rattle.base_search.specs.Digits.{digits}
use Rattle.entry_list.specs.Record.{Record}
use Rattle.base_search.specs.Halving.{IsEqualAt, IsGapAt, IsBracket, IsRising}
use Rattle.base_search.proofs.Digits.{digits-half, digits_small}
use Rattle.entry_lookup.specs.NameSteps.{outer_cmp}
use Rattle.entry_lookup.proofs.Outer.{outer_total, same_name}
use Rattle.entry_lookup.specs.Closest.{is_below}
use Rattle.entry_lookup.specs.SpanSteps.{AreDirs, IsSpan, IsWindow}
use Rattle.entry_lookup.specs.WalkSteps.{SpanValue, span_value}
use Rattle.entry_lookup.specs.Tables.{last_slash, search_bound, slash_upto}
use Rattle.entry_lookup.specs.Range.{IsRun}
use Rattle.entry_lookup.specs.declared.walk.Span.{Span}
use Rattle.base_search.proofs.Parting.{bracket_whole}
use Rattle.entry_lookup.proofs.SpanOrder.{count_run, own_prefix, run_of_span, window_of}
use Rattle.entry_lookup.proofs.TableFound.{rising_by}
use Rattle.entry_lookup.proofs.TableMade.{contains_map, or_cases}

-- ---- a place that passes

pub any_place : {X : Type 0} (p : X → Bool) (xs : List X) → list_any p xs ≡ true
    → (i : ℕ) × (i < length xs) × ((d : X) → p (get_or xs i d) ≡ true)
any_place p [] e = cc
any_place {X} p (x ∷ xs) e = by (any_place p xs) (or_cases (p x) (list_any p xs) e)
  where
    by : (list_any p xs ≡ true → (i : ℕ) × (i < length xs) × ((d : X) → p (get_or xs i d) ≡ true)) → (p x ≡ true)
        ⊎ (list_any p xs ≡ true) → (i : ℕ) × (i < length (x ∷ xs)) × ((d : X) → p (get_or (x ∷ xs) i d) ≡ true)
    by later (inl t) = (0, omega arith, λ d. t)
    by later (inr t) = let r = later t in (suc r.0, omega (arith, r.1), r.2)

pub any_from : {X : Type 0} (p : X → Bool) (xs : List X) (i : ℕ) → i < length xs → ((d : X) → p (get_or xs i d) ≡ true)
    → list_any p xs ≡ true
any_from p [] i within h = absurd (omega arith)
any_from p (x ∷ xs) i within h = list_any_at p (x ∷ xs) i x within (h x)

pub some_of : {X : Type 0} (xs : List X) (i : ℕ) → i < length xs → X
some_of [] i within = absurd (omega arith)
some_of (x ∷ xs) i within = x

-- ---- a name looked for among the directories

pub span_at : (f : SpanValue → Ordering) (spans : List Span) (place : ℕ) (z : Span) (o : Ordering)
    → place < length (map f (map span_value spans)) → o ≡ f (span_value (get_or spans place z))
    → HoldsAt (λ q. q ≡ o) (map f (map span_value spans)) place
span_at f spans place z o inside told d =
    let n : length (map f (map span_value spans)) ≡ length (map span_value spans) =
    length-map (map span_value spans) f in
    let m : length (map span_value spans) ≡ length spans = length-map spans span_value in
    at_map f (map span_value spans) place (span_value z) d (omega arith)
    ∙ ap f (at_map span_value spans place z (span_value z) (omega arith)) ∙ sym told

pub spans_rise : (q : List ℕ) (xs : List SpanValue) → AllPairs (λ a b. outer_cmp a b ≡ Less) (map (λ s. s.name) xs)
    → IsRising (map (λ x. outer_cmp x.name q) xs)
spans_rise q xs once = rising_by outer_total (λ (s : SpanValue). s.name) q xs (λ i j d before within e.
    let f : SpanValue → List ℕ = λ s. s.name in
    let n : length (map f xs) ≡ length xs = length-map xs f in
    let less = once i j (f d) before (omega (arith, n)) in
    let a : get_or (map f xs) i (f d) ≡ f (get_or xs i d) = get_or-map f xs i d in
    let b : get_or (map f xs) j (f d) ≡ f (get_or xs j d) = get_or-map f xs j d in
    let told : outer_cmp (f (get_or xs i d)) (f (get_or xs j d)) ≡ Less =
    ap (λ (x : List ℕ). outer_cmp x (f (get_or xs j d))) (sym a)
    ∙ ap (outer_cmp (get_or (map f xs) i (f d))) (sym b) ∙ less in
    cc)

pub found_name : (q : List ℕ) (spans : List Span) (r : Result ℕ ℕ)
    → IfOk r (IsEqualAt (λ o. o) (map (λ x. outer_cmp x.name q) (map span_value spans)))
    → IfOk r (λ i. (i < length spans) × HoldsAt (λ x. x.name ≡ q) (map span_value spans) i)
found_name q spans (Ok i) h =
    let f : SpanValue → Ordering = λ x. outer_cmp x.name q in
    let n : length (map f (map span_value spans)) ≡ length (map span_value spans) =
    length-map (map span_value spans) f in
    let m : length (map span_value spans) ≡ length spans = length-map spans span_value in (
      omega (arith, h.in_range, n, m),
      λ d. (same_name true (get_or (map span_value spans) i d).name q).0
          (sym (get_or-map f (map span_value spans) i d) ∙ h.here (f d)),
    )
found_name q spans (Err i) h = tt

abbrev name_answer : List ℕ → SpanValue → Ordering
name_answer q x = outer_cmp x.name q

pub absent_name : (rs : List Record) (q : List ℕ) (xs : List SpanValue) (end : ℕ) (r : Result ℕ ℕ)
    → AreDirs rs (map (λ s. s.name) xs) → end ≡ length (map (λ x. outer_cmp x.name q) xs)
    → (IsRising (map (λ x. outer_cmp x.name q) xs) → IsBracket (map (λ x. outer_cmp x.name q) xs) 0 end
    → IfErr r (IsGapAt (λ o. o) (map (λ x. outer_cmp x.name q) xs)))
    → IfErr r (λ _. list_any (is_below q) rs ≡ false)
absent_name rs q xs end (Ok i) dirs e h = tt
absent_name rs q xs end (Err i) dirs e h = false_from_ne_true (list_any (is_below q) rs)
    (λ t. no (contains_map (λ (s : SpanValue). s.name) xs q ((dirs.each q).1 t)))
  where
    gap : IsGapAt (λ o. o) (map (λ x. outer_cmp x.name q) xs) i
    gap = h (spans_rise q xs dirs.rises) (bracket_whole (map (λ x. outer_cmp x.name q) xs) end e)

    no : (s : SpanValue) × Contains xs s × (s.name ≡ q) → ⊥
    no c = by (cases_lt c.1.0 i)
      where
        read : get_or (map (name_answer q) xs) c.1.0 (name_answer q c.0) ≡ Equal
        read = get_or-map (name_answer q) xs c.1.0 c.0 ∙ ap (name_answer q) c.1.2 ∙ (same_name true c.0.name q).1 c.2

        by : (c.1.0 < i) ⊎ (i ≤ c.1.0) → ⊥
        by (inl u) = let both : Less ≡ Equal = sym (gap.below c.1.0 (name_answer q c.0) (omega arith) u) ∙ read in cc
        by (inr l) =
            let both : Greater ≡ Equal =
            sym (gap.above c.1.0 (name_answer q c.0) l (omega (arith, c.1.1, length-map xs (name_answer q)))) ∙ read in
            cc

pub span_found : (rs : List Record) (spans : List Span) (q : List ℕ) (place : ℕ) (s : Span) → (place < length spans)
    × HoldsAt (λ x. x.name ≡ q) (map span_value spans) place → All (IsSpan rs) (map span_value spans)
    → IsSpan rs (span_value (get_or spans place s)) × ((get_or spans place s).name.now ≡ q)
span_found rs spans q place s h all =
    let e : get_or (map span_value spans) place (span_value s) ≡ span_value (get_or spans place s) =
    get_or-map span_value spans place s in (
      subst (IsSpan rs) e (all place (span_value s) (omega (arith, h.0, length-map spans span_value))),
      subst (λ (x : SpanValue). x.name ≡ q) e (h.1 (span_value s)),
    )

-- what an index past the end would read
abbrev pub no_span : Span
no_span = record { name = record { ref_ptr = (0, 0); now = [] }; start = 0; end = 0 }

pub range_found : (rs : List Record) (q : List ℕ) (s : Span) → IsSpan rs (span_value s) × (s.name.now ≡ q)
    → (s.start < s.end) × IsRun (is_below q) rs s.start s.end
range_found rs q s h =
    (h.0.some, subst (λ (n : List ℕ). IsRun (is_below n) rs s.start s.end) h.1 (run_of_span rs (span_value s) h.0))

-- ---- the window in which a path is searched

slash_is : (n : ℕ) (path : List ℕ) (s : ℕ) → slash_upto n path ≡ Some s → (s < n) × (get_or path s 0 ≡ 47)
slash_is zero path s e = cc
slash_is (suc n) path s e = by (slash_is n path s) (nat_eq (get_or path n 0) 47) refl
  where
    by : (slash_upto n path ≡ Some s → (s < n) × (get_or path s 0 ≡ 47)) → (b : Bool) → nat_eq (get_or path n 0) 47 ≡ b
        → (s < suc n) × (get_or path s 0 ≡ 47)
    by later true t =
        let same : Some n ≡ Some s = sym (rw t refl) ∙ e in
        let eq : n ≡ s = cc in
        (omega arith, ap (λ (i : ℕ). get_or path i 0) (sym eq) ∙ grind (arith, nat_tests, t))
    by later false t = let r = later (sym (rw t refl) ∙ e) in (omega (arith, r.0), r.1)

pub slash_at : (path : List ℕ) (s : ℕ) → last_slash path ≡ Some s → (s < length path) × (get_or path s 0 ≡ 47)
slash_at path s e = slash_is (length path) path s e

pub window_is : (rs : List Record) (path : List ℕ) (slash : ℕ) (s : Span) → last_slash path ≡ Some slash
    → IsSpan rs (span_value s) × (s.name.now ≡ take slash path)
    → IsWindow path rs (record { start = s.start; end = s.end })
window_is rs path slash s e h =
    let at = slash_at path slash e in
    let own : take (length (s.name.now ++ 47 ∷ [])) path ≡ s.name.now ++ 47 ∷ [] =
    subst (λ (n : List ℕ). take (length (n ++ 47 ∷ [])) path ≡ n ++ 47 ∷ []) (sym h.1)
    (own_prefix path slash at.0 at.1) in
    record {
      in_order = omega (arith, h.0.some);
      in_range = h.0.in_range;
      bracket = window_of rs (span_value s) h.0 path own;
    }

pub window_count : (rs : List Record) (path : List ℕ) (dirs slash count : ℕ) (s : Span) → last_slash path ≡ Some slash
    → IsSpan rs (span_value s) × (s.name.now ≡ take slash path) → count ≤ digits dirs + 1
    → count + digits (s.end - s.start) + 1 ≤ search_bound (last_slash path) path rs dirs
window_count rs path dirs slash count s e h few =
    let run = range_found rs (take slash path) s h in
    let any : list_any (is_below (take slash path)) rs ≡ true = any_from (is_below (take slash path)) rs s.start
    (omega (arith, run.0, h.0.in_range)) (λ d. run.1.within s.start d (omega arith) run.0) in
    let n : digits (count_by (is_below (take slash path)) rs) ≡ digits (s.end - s.start) =
    ap digits (count_run (is_below (take slash path)) rs s.start s.end run.1) in
    rw (e, any) (omega (arith, few, n))

pub window_absent : (rs : List Record) (path : List ℕ) (dirs slash count n : ℕ) → last_slash path ≡ Some slash
    → list_any (is_below (take slash path)) rs ≡ false → n ≡ length rs → count ≤ digits dirs + 1
    → count + digits (n - 0) + 1 ≤ search_bound (last_slash path) path rs dirs
window_absent rs path dirs slash count n e none len few =
    let same : digits (n - 0) ≡ digits (length rs) = ap digits (omega (arith, len)) in
    rw (e, none) (omega (arith, few, same))

pub window_whole : (rs : List Record) (path : List ℕ) (dirs n : ℕ) → last_slash path ≡ None → n ≡ length rs
    → 0 + digits (n - 0) + 1 ≤ search_bound (last_slash path) path rs dirs
window_whole rs path dirs n e len =
    let same : digits (n - 0) ≡ digits (length rs) = ap digits (omega (arith, len)) in
    rw e (omega (arith, same))

or_none : (a b : Bool) → (a || b) ≡ false → (a ≡ false) × (b ≡ false)
or_none true b e = cc
or_none false b e = (refl, e)

pub all_none : {X : Type 0} (p : X → Bool) (xs : List X) → list_any p xs ≡ false → All (λ x. p x ≡ false) xs
all_none p [] e k d within = absurd (omega arith)
all_none p (x ∷ xs) e zero d within = (or_none (p x) (list_any p xs) e).0
all_none p (x ∷ xs) e (suc k) d within = all_none p xs (or_none (p x) (list_any p xs) e).1 k d (omega arith)

half_small : (n : ℕ) → digits n ≤ n / 2 + 1
half_small zero = omega (arith, digits_small 0)
half_small (suc n) = omega (arith, digits-half (suc n) (omega arith), digits_small (suc n / 2))

pub quarter_small : (n : ℕ) → digits n ≤ n / 2 / 2 + 2
quarter_small zero = omega (arith, digits_small 0)
quarter_small (suc n) = omega (arith, digits-half (suc n) (omega arith), half_small (suc n / 2))
