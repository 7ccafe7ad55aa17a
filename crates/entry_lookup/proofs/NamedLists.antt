-- How tables of names are gathered and put in order.
use Rattle.std.proofs.Common.{◌≡◌, ◌≢◌, ℕ, suc, ◌+◌, ◌<◌, Bool, true, false, Bor, List, [], ◌∷◌, ◌++◌, length, get_or}
use Rattle.std.proofs.Common.{take, map, refl, sym, ap, ◌∙◌, arith, append_assoc, length-take}
use Rattle.std.specs.Cmp.{IsTotalOrder}
use Rattle.std.specs.Fn.{Called}
use Rattle.std.specs.List.{AllPairs, HoldsAt}
use Rattle.std.specs.List.Sorted.{IsSortedByClosure}
use Rattle.std.specs.Ordering.{is_lt, ordering_reverse}
use Rattle.std.specs.declared.cmp.Ordering.{Ordering}
use Rattle.std.specs.declared.cmp.Ordering.TheVariants.{Less, Greater}
use Rattle.std.proofs.lemmas.Cmp.{then_total, on_total, nat_cmp_total, nat_list_cmp_total}
use Rattle.std.proofs.lemmas.Fn.{always_returns_same}
use Rattle.std.proofs.lemmas.List.{take_more, map-append, append-nil}
use Rattle.std.proofs.lemmas.List.Sorted.{ranks_by, sorted_far}
use denote.Param.Members.{Mut}
use Rattle.entry_list.specs.Record.{Record}
use Rattle.entry_lookup.specs.declared.names.Named.{Named}
use Rattle.entry_lookup.specs.Folded.{folded}
use Rattle.entry_lookup.specs.NameSteps.{NamedValue, named_value, named_at, named_cmp, named_from, path_names}
use Rattle.base_search.proofs.Places.{some_of}
use Rattle.base_search.proofs.OrderedAnswers.{pairs_map}

-- ---- one record more

pub named_push : (names : Record → List (List ℕ)) (i : ℕ) (rs : List Record) (r : Record)
    → named_from names i (rs ++ r ∷ []) ≡ named_from names i rs ++ map (named_at (i + length rs)) (names r)
named_push names i [] r = let e : i + 0 ≡ i = omega arith in rw e (append-nil (map (named_at i) (names r)))
named_push names i (q ∷ rs) r =
    let e : i + 1 + length rs ≡ i + suc (length rs) = omega arith in
    ap (λ ks. map (named_at i) (names q) ++ ks) (rw e at (named_push names (i + 1) rs r)) ∙ sym (append_assoc
    (map (named_at i) (names q)) (named_from names (i + 1) rs) (map (named_at (i + suc (length rs))) (names r)))

pub named_more : (names : Record → List (List ℕ)) (rs : List Record) (place : ℕ) (z : Record) → place < length rs
    → named_from names 0 (take (place + 1) rs)
    ≡ named_from names 0 (take place rs) ++ map (named_at place) (names (get_or rs place z))
named_more names rs place z within =
    let more : take (place + 1) rs ≡ take place rs ++ get_or rs place z ∷ [] = take_more rs place z (omega arith) in
    let len : 0 + length (take place rs) ≡ place = omega (arith, length-take place rs) in
    ap (named_from names 0) more ∙ named_push names 0 (take place rs) (get_or rs place z) ∙ rw len refl

pub paths_more : (rs : List Record) (place : ℕ) (old new : List Named) (x : Named) → place < length rs
    → new ≡ old ++ x ∷ [] → HoldsAt (λ r. r.path ≡ x.name.now) rs place → x.place ≡ place
    → map named_value old ≡ named_from path_names 0 (take place rs)
    → map named_value new ≡ named_from path_names 0 (take (place + 1) rs)
paths_more rs place old new x within pushed name at before =
    let z = some_of rs place within in
    ap (map named_value) pushed ∙ map-append named_value old (x ∷ [])
    ∙ ap (λ (ks : List NamedValue). ks ++ named_value x ∷ []) before
    ∙ ap (λ (k : NamedValue). named_from path_names 0 (take place rs) ++ k ∷ [])
    (ap (λ (p : ℕ). record { name = x.name.now; place = p }) at ∙ ap (named_at place) (sym (name z)))
    ∙ sym (named_more path_names rs place z within)

-- ---- order

pub keys_total : (ignore_case : Bool) → IsTotalOrder (named_cmp false ignore_case)
keys_total ignore_case = then_total (on_total (λ (k : NamedValue). folded ignore_case k.name) nat_list_cmp_total)
    (on_total (λ (k : NamedValue). k.place) nat_cmp_total)

abbrev lt_named : Bool → Named → Named → Bool
lt_named ignore_case a b = is_lt (named_cmp false ignore_case (named_value a) (named_value b))

not_above : (ignore_case : Bool) (a b : NamedValue) → is_lt (named_cmp false ignore_case b a) ≡ false
    → named_cmp false ignore_case a b ≢ Greater
not_above ignore_case a b h e =
    let back : named_cmp false ignore_case b a ≡ Less = (keys_total ignore_case).antisymm b a ∙ ap ordering_reverse e in
    let other : is_lt (named_cmp false ignore_case b a) ≡ true = ap is_lt back in cc

pub sorted_named : (ignore_case : Bool) {F : Type 0} (g : Mut F (Bor Named × (Bor Named × Unit {0})) Ordering) (f : F)
    (xs : List Named) → IsSortedByClosure g f xs
    → ((a : Bor Named × (Bor Named × Unit {0})) (r : Ordering) (f' : F) → Called g f a r f'
    → (r ≡ named_cmp false ignore_case (named_value a.0.now) (named_value a.1.0.now)) × (f' ≡ f))
    → AllPairs (λ a b. named_cmp false ignore_case a b ≢ Greater) (map named_value xs)
sorted_named ignore_case g f xs s h =
    let weak = ranks_by (keys_total ignore_case) named_value in
    let up =
    s (lt_named ignore_case) weak (always_returns_same g (λ a r. is_lt r ≡ lt_named ignore_case a.0.now a.1.0.now) f
    (λ a r f' k. (ap is_lt (h a r f' k).0, (h a r f' k).1))) in
    pairs_map (λ (a b : NamedValue). named_cmp false ignore_case a b ≢ Greater) named_value xs
    (λ i j d before within. not_above ignore_case (named_value (get_or xs i d)) (named_value (get_or xs j d))
    (sorted_far (lt_named ignore_case) weak xs up i j d (omega arith) within))

-- ---- the same for whatever is compared by a total order

pub sorted_by : {X K F : Type 0} {R : K → K → Ordering} (total : IsTotalOrder R) (key : X → K)
    (g : Mut F (Bor X × (Bor X × Unit {0})) Ordering) (f : F) (xs : List X) → IsSortedByClosure g f xs
    → ((a : Bor X × (Bor X × Unit {0})) (r : Ordering) (f' : F) → Called g f a r f'
    → (r ≡ R (key a.0.now) (key a.1.0.now)) × (f' ≡ f))
    → AllPairs (λ a b. R (key a) (key b) ≢ Greater) xs
sorted_by {X} {K} {F} {R} total key g f xs s h i j d before within e =
    let lt : X → X → Bool = λ a b. is_lt (R (key a) (key b)) in
    let weak = ranks_by total key in
    let up = s lt weak (always_returns_same g (λ a r. is_lt r ≡ lt a.0.now a.1.0.now) f
    (λ a r f' k. (ap is_lt (h a r f' k).0, (h a r f' k).1))) in
    let far : is_lt (R (key (get_or xs j d)) (key (get_or xs i d))) ≡ false =
    sorted_far lt weak xs up i j d (omega arith) within in
    let back : R (key (get_or xs j d)) (key (get_or xs i d)) ≡ Less =
    total.antisymm (key (get_or xs j d)) (key (get_or xs i d)) ∙ ap ordering_reverse e in
    let other : is_lt (R (key (get_or xs j d)) (key (get_or xs i d))) ≡ true = ap is_lt back in
    cc
