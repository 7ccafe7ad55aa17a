-- The firsts of a list of records, what a sort makes of them, and one more of them.
use Rattle.std.proofs.Common.{◌≡◌, ◌≢◌, ◌⊎◌, inl, inr, ℕ, suc, ◌+◌, ◌-◌, ◌<◌, ◌≤◌, Bool, true, false, cond, not, ◌&&◌}
use Rattle.std.proofs.Common.{List, [], ◌∷◌, ◌++◌, length, take, get_or, All, refl, sym, ap, subst}
use Rattle.std.proofs.Common.{◌∙◌, length-append, arith}
use Rattle.std.specs.Cmp.{IsTotalOrder}
use Rattle.std.specs.Prelude.{◌==◌, ◌↔◌, IsTrue}
use Rattle.std.specs.List.{Contains}
use Rattle.std.specs.List.Sorted.{IsStable, ties}
use Rattle.std.specs.Ordering.{is_eq, is_lt, nat_cmp, ordering_reverse, ordering_then}
use Rattle.std.specs.declared.cmp.Ordering.{Ordering}
use Rattle.std.specs.declared.cmp.Ordering.TheVariants.{Less, Equal, Greater}
use Rattle.std.proofs.lemmas.Bool.{cases_lt, eqb-true}
use Rattle.std.proofs.lemmas.Cmp.{nat_cmp_total, nat_list_cmp_total, on_total, then_total, tied_itself}
use Rattle.std.proofs.lemmas.List.{get_or-take, length-take, take_more}
use Rattle.std.proofs.lemmas.List.Elements.{All-filter, All-from_get_or, All-head, All-nil, All-tail}
use Rattle.std.proofs.lemmas.List.Elements.{Contains-append_left, Contains-get_or, Contains-push, Contains-push_cases}
use Rattle.std.proofs.lemmas.List.Elements.{filter-append, filter_agree, filter_passes}
use Rattle.std.proofs.lemmas.List.Quantifiers.{all_pairs_push}
use Rattle.std.proofs.lemmas.List.Sorted.{ranks_by, sorted_far}
use Rattle.gix_index.specs.Order.{IsStrictlyOrdered, path_cmp, record_cmp, record_stage}
use Rattle.gix_index.specs.Record.{Record}
use Rattle.gix_index.specs.Sorted.{IsOrdered}
use Rattle.view_salvage.specs.Choice.{IsFirst, IsSortedSelection, with_key_of}
use Rattle.view_salvage.specs.SalvageSteps.{IsAbove}

pub records_total : IsTotalOrder record_cmp
records_total = then_total (on_total (λ (r : Record). r.path) nat_list_cmp_total) (on_total record_stage nat_cmp_total)

-- ---- one more record

first_push : (rs : List Record) (x r : Record) → IsFirst rs r → IsFirst (rs ++ x ∷ []) r
first_push rs x r h = record {
  named = h.named;
  others = h.others ++ with_key_of r (x ∷ []);
  first = filter-append (λ q. is_eq (record_cmp r q)) rs (x ∷ [])
      ∙ ap (λ (l : List Record). l ++ with_key_of r (x ∷ [])) h.first;
}

own_first : (x : Record) → with_key_of x (x ∷ []) ≡ x ∷ []
own_first x = ap (λ (o : Ordering). cond (is_eq o) (x ∷ []) []) (tied_itself records_total x)

first_own : (rs : List Record) (x : Record) → x.path ≢ [] → with_key_of x rs ≡ [] → IsFirst (rs ++ x ∷ []) x
first_own rs x named none = record {
  named = named;
  others = [];
  first = filter-append (λ q. is_eq (record_cmp x q)) rs (x ∷ [])
      ∙ ap (λ (l : List Record). l ++ with_key_of x (x ∷ [])) none ∙ own_first x;
}

only_by : (b : Bool) (x r : Record) (others : List Record) → cond b (x ∷ []) [] ≡ r ∷ others → x ≡ r
only_by true x r others e = cc
only_by false x r others e = absurd cc

-- a first of more records is one of those before, or the new one
first_back : (rs : List Record) (x r : Record) → IsFirst (rs ++ x ∷ []) r
    → IsFirst rs r ⊎ ((x ≡ r) × (with_key_of r rs ≡ []))
first_back rs x r h =
    by (with_key_of r rs) refl (sym (filter-append (λ q. is_eq (record_cmp r q)) rs (x ∷ [])) ∙ h.first)
  where
    by : (l : List Record) → with_key_of r rs ≡ l → with_key_of r rs ++ with_key_of r (x ∷ []) ≡ r ∷ h.others
        → IsFirst rs r ⊎ ((x ≡ r) × (with_key_of r rs ≡ []))
    by [] e f = inr (
      only_by (is_eq (record_cmp r x)) x r h.others
          (ap (λ (l : List Record). l ++ with_key_of r (x ∷ [])) (sym e) ∙ f),
      e,
    )
    by (q ∷ l) e f =
        let g : q ∷ (l ++ with_key_of r (x ∷ [])) ≡ r ∷ h.others =
        ap (λ (l : List Record). l ++ with_key_of r (x ∷ [])) (sym e) ∙ f in
        let same : q ≡ r = cc in
        inl (record { named = h.named; others = l; first = e ∙ ap (λ (p : Record). p ∷ l) same })

none_alike : (rs : List Record) (x : Record) → All (λ q. record_cmp q x ≡ Less) rs → with_key_of x rs ≡ []
none_alike [] x h = refl
none_alike (q ∷ rs) x h =
    let less : record_cmp q x ≡ Less = All-head (λ q. record_cmp q x ≡ Less) q rs h in
    let above : record_cmp x q ≡ Greater = records_total.antisymm x q ∙ ap ordering_reverse less in
    ap (λ (o : Ordering). cond (is_eq o) (q ∷ with_key_of x rs) (with_key_of x rs)) above
    ∙ none_alike rs x (All-tail (λ q. record_cmp q x ≡ Less) q rs h)

-- what holds of all records holds of a first
first_holds : (P : Record → Type 0) (rs : List Record) (r : Record) → All P rs → IsFirst rs r → P r
first_holds P rs r all h =
    All-head P r h.others (subst (All P) h.first (All-filter (λ q. is_eq (record_cmp r q)) P rs all))

-- what holds of all records holds of all that are saved of them
pub saved_hold : (P : Record → Type 0) (rs kept : List Record) → All P rs → IsSortedSelection rs kept → All P kept
saved_hold P rs kept all h k d lt =
    first_holds P rs (get_or kept k d) all ((h.are (get_or kept k d)).0 (Contains-get_or kept k d lt))

-- a record above all others is kept
pub saved_more : (rs kept : List Record) (x : Record) → All (λ q. record_cmp q x ≡ Less) rs → x.path ≢ []
    → IsSortedSelection rs kept → IsSortedSelection (rs ++ x ∷ []) (kept ++ x ∷ [])
saved_more rs kept x above named h = record {
  ordered = record {
    less = all_pairs_push (λ r q. record_cmp r q ≡ Less) kept x h.ordered.less (λ k d lt.
        first_holds (λ q. record_cmp q x ≡ Less) rs (get_or kept k d) above
        ((h.are (get_or kept k d)).0 (Contains-get_or kept k d lt)));
  };
  are = λ r. (λ c. there r (Contains-push_cases kept x r c), λ f. back r (first_back rs x r f));
}
  where
    there : (r : Record) → Contains kept r ⊎ (x ≡ r) → IsFirst (rs ++ x ∷ []) r
    there r (inl c) = first_push rs x r ((h.are r).0 c)
    there r (inr e) = subst (IsFirst (rs ++ x ∷ [])) e (first_own rs x named (none_alike rs x above))

    back : (r : Record) → IsFirst rs r ⊎ ((x ≡ r) × (with_key_of r rs ≡ [])) → Contains (kept ++ x ∷ []) r
    back r (inl f) = Contains-append_left kept (x ∷ []) r ((h.are r).1 f)
    back r (inr e) = subst (Contains (kept ++ x ∷ [])) e.0 (Contains-push kept x)

-- one that has no path, or isn't the first with its path and stage, isn't
pub saved_same : (rs kept : List Record) (x : Record) → (with_key_of x rs ≡ [] → x.path ≡ [])
    → IsSortedSelection rs kept
    → IsSortedSelection (rs ++ x ∷ []) kept
saved_same rs kept x none h = record {
  ordered = h.ordered;
  are = λ r. (λ c. first_push rs x r ((h.are r).0 c), λ f. back r f (first_back rs x r f));
}
  where
    back : (r : Record) → IsFirst (rs ++ x ∷ []) r
        → IsFirst rs r ⊎ ((x ≡ r) × (with_key_of r rs ≡ [])) → Contains kept r
    back r f (inl g) = (h.are r).1 g
    back r f (inr e) = absurd (f.named
        (subst (λ (q : Record). q.path ≡ []) e.0 (none (subst (λ (q : Record). with_key_of q rs ≡ []) (sym e.0) e.1))))

-- ---- a list in order

below_by : (o : Ordering) (p q x : Record) → record_cmp p q ≡ o → is_lt o ≡ false → record_cmp p x ≡ Less
    → record_cmp q x ≡ Less
below_by Less p q x e n less = absurd cc
below_by Equal p q x e n less = sym (records_total.congr p q x e) ∙ less
below_by Greater p q x e n less = records_total.trans q p x (records_total.antisymm q p ∙ ap ordering_reverse e) less

-- all records before an index are less than the one there, if the last of them is
all_below : (rs : List Record) (i : ℕ) (x d : Record) → IsOrdered rs → 0 < i → i ≤ length rs
    → record_cmp (get_or rs (i - 1) d) x ≡ Less → All (λ q. record_cmp q x ≡ Less) (take i rs)
all_below rs i x d up pos le less = All-from_get_or (λ q. record_cmp q x ≡ Less) (take i rs) d (λ k lt.
    let within : k < i = omega (arith, length-take i rs) in
    let same : get_or (take i rs) k d ≡ get_or rs k d = get_or-take i rs k d within in
    let far = sorted_far (λ (r q : Record). is_lt (record_cmp r q)) (ranks_by records_total (λ (r : Record). r))
    rs up k (i - 1) d (omega arith) (omega arith) in
    subst (λ (q : Record). record_cmp q x ≡ Less) (sym same)
    (below_by (record_cmp (get_or rs (i - 1) d) (get_or rs k d)) (get_or rs (i - 1) d) (get_or rs k d) x refl far less))

alike_by : (o : Ordering) → is_lt o ≡ false → is_lt (ordering_reverse o) ≡ false → is_eq (ordering_reverse o) ≡ true
alike_by Less n m = absurd cc
alike_by Equal n m = refl
alike_by Greater n m = absurd cc

ends_in : (l m : List Record) (r : Record) → l ≡ m ++ r ∷ [] → l ≡ [] → ⊥
ends_in l m r e n =
    let len : 0 ≡ length m + 1 = ap length (sym n ∙ e) ∙ length-append m (r ∷ []) in
    absurd (omega arith)

-- the record before an index is equal to the one there by path and stage, if it isn't less
some_alike : (rs : List Record) (i : ℕ) (d : Record) → IsOrdered rs → 0 < i → i < length rs
    → is_lt (record_cmp (get_or rs (i - 1) d) (get_or rs i d)) ≡ false
    → with_key_of (get_or rs i d) (take i rs) ≡ [] → ⊥
some_alike rs i d up pos lt not_less none =
    let p = get_or rs (i - 1) d in
    let x = get_or rs i d in
    let far = sorted_far (λ (r q : Record). is_lt (record_cmp r q)) (ranks_by records_total (λ (r : Record). r))
    rs up (i - 1) i d (omega arith) lt in
    let turned : record_cmp x p ≡ ordering_reverse (record_cmp p x) = records_total.antisymm x p in
    let alike : is_eq (record_cmp x p) ≡ true = ap is_eq turned
    ∙ alike_by (record_cmp p x) not_less (sym (ap is_lt turned) ∙ far) in
    let last : take i rs ≡ take (i - 1) rs ++ p ∷ [] = let e : i - 1 + 1 ≡ i = omega arith in
    rw e at (take_more rs (i - 1) d (omega arith)) in
    let kept : with_key_of x (take i rs) ≡ with_key_of x (take (i - 1) rs) ++ p ∷ [] =
    ap (with_key_of x) last ∙ filter-append (λ q. is_eq (record_cmp x q)) (take (i - 1) rs) (p ∷ [])
    ∙ ap (λ (b : Bool). with_key_of x (take (i - 1) rs) ++ cond b (p ∷ []) []) alike in
    ends_in (with_key_of x (take i rs)) (with_key_of x (take (i - 1) rs)) p kept none

-- ---- a sort

tie_by : (o p : Ordering) → p ≡ ordering_reverse o → not (is_lt o) && not (is_lt p) ≡ is_eq o
tie_by Less p e = refl
tie_by Equal p e = rw e refl
tie_by Greater p e = rw e refl

-- a stable sort keeps the firsts
same_key : (rs ys : List Record) (r : Record) → IsStable record_cmp rs ys → with_key_of r ys ≡ with_key_of r rs
same_key rs ys r s =
    let agree = λ (q : Record). tie_by (record_cmp r q) (record_cmp q r) (records_total.antisymm q r) in
    let test = ties (λ (a b : Record). is_lt (record_cmp a b)) r in
    sym (filter_agree test (λ q. is_eq (record_cmp r q)) agree ys) ∙ s r
    ∙ filter_agree test (λ q. is_eq (record_cmp r q)) agree rs

first_of_sorted : (rs ys : List Record) (r : Record) → with_key_of r rs ≡ with_key_of r ys → IsFirst ys r → IsFirst rs r
first_of_sorted rs ys r e h = record { named = h.named; others = h.others; first = e ∙ h.first }

pub saved_sorted : (rs ys kept : List Record) → IsStable record_cmp rs ys → IsSortedSelection ys kept
    → IsSortedSelection rs kept
saved_sorted rs ys kept s h = record {
  ordered = h.ordered;
  are = λ r. (
    λ c. first_of_sorted rs ys r (sym (same_key rs ys r s)) ((h.are r).0 c),
    λ f. (h.are r).1 (first_of_sorted ys rs r (same_key rs ys r s) f),
  );
}

-- ---- one more of a list in order

pub saved_none : IsSortedSelection [] []
saved_none = record {
  ordered = record { less = λ i j d lt le. absurd (omega arith) };
  are = λ r. (λ c. absurd (omega (arith, c.1)), λ f. absurd cc (f.first));
}

less_or : (o : Ordering) → (is_lt o ≡ false → ⊥) → o ≡ Less
less_or Less h = refl
less_or Equal h = absurd (h refl)
less_or Greater h = absurd (h refl)

-- one that agrees with none before it is above them all
pub above_all : (rs : List Record) (i : ℕ) (d : Record) → IsOrdered rs → i < length rs
    → with_key_of (get_or rs i d) (take i rs) ≡ [] → All (λ q. record_cmp q (get_or rs i d) ≡ Less) (take i rs)
above_all rs i d up lt none = by (cases_lt 0 i)
  where
    by : (0 < i) ⊎ (i ≤ 0) → All (λ q. record_cmp q (get_or rs i d) ≡ Less) (take i rs)
    by (inl pos) = all_below rs i (get_or rs i d) d up pos (omega arith)
        (less_or (record_cmp (get_or rs (i - 1) d) (get_or rs i d))
        (λ not_less. some_alike rs i d up pos lt not_less none))
    by (inr first) =
        let e : i ≡ 0 = omega arith in
        subst (λ (n : ℕ). All (λ q. record_cmp q (get_or rs i d) ≡ Less) (take n rs)) (sym e)
        (All-nil (λ q. record_cmp q (get_or rs i d) ≡ Less))

eq_of : (o : Ordering) → is_eq o ≡ true → o ≡ Equal
eq_of Less e = absurd cc
eq_of Equal e = refl
eq_of Greater e = absurd cc

-- one that agrees with a record without a path has none
nameless_alike : (x r : Record) → record_cmp x r ≡ Equal → r.path ≡ [] → x.path ≡ []
nameless_alike x r alike none = by x.path refl
  where
    by : (p : List ℕ) → x.path ≡ p → x.path ≡ []
    by [] e = e
    by (b ∷ p) e =
        let greater : record_cmp x r ≡ Greater =
        ap (λ (q : List ℕ). ordering_then (path_cmp q r.path) (nat_cmp (record_stage x) (record_stage r))) e
        ∙ ap (λ (q : List ℕ). ordering_then (path_cmp (b ∷ p) q) (nat_cmp (record_stage x) (record_stage r))) none in
        absurd cc

-- one of those in strict order is the last of them, or below it
below_last : (kept : List Record) (x r : Record) → IsStrictlyOrdered kept → Contains kept r
    → record_cmp (get_or kept (length kept - 1) r) x ≡ Less → record_cmp r x ≡ Less
below_last kept x r up (k, lt, is) less = by (cases_lt k (length kept - 1))
  where
    by : (k < length kept - 1) ⊎ (length kept - 1 ≤ k) → record_cmp r x ≡ Less
    by (inl before) =
        let rises : record_cmp (get_or kept k r) (get_or kept (length kept - 1) r) ≡ Less =
        up.less k (length kept - 1) r before (omega arith) in
        records_total.trans r (get_or kept (length kept - 1) r) x
        (subst (λ (q : Record). record_cmp q (get_or kept (length kept - 1) r) ≡ Less) is rises) less
    by (inr last) =
        let e : length kept - 1 ≡ k = omega arith in
        subst (λ (q : Record). record_cmp q x ≡ Less) (ap (λ (n : ℕ). get_or kept n r) e ∙ is) less

-- a record is greater than the last of a list, if that isn't empty
abbrev pub IsAboveLast : List Record → Record → Type 0
IsAboveLast kept x = (d : Record) → 0 < length kept → record_cmp (get_or kept (length kept - 1) d) x ≡ Less

-- one that has a path and is above the last of those that are saved agrees with none before it
pub agrees_with_none : (rs kept : List Record) (x : Record) → IsSortedSelection rs kept → x.path ≢ []
    → IsAboveLast kept x
    → with_key_of x rs ≡ []
agrees_with_none rs kept x h named above = by (with_key_of x rs) refl
  where
    by : (l : List Record) → with_key_of x rs ≡ l → with_key_of x rs ≡ []
    by [] e = e
    by (r ∷ others) e =
        let passes = subst (All (λ q. is_eq (record_cmp x q) ≡ true)) e (filter_passes (λ q. is_eq (record_cmp x q)) rs) in
        let alike : record_cmp x r ≡ Equal = eq_of (record_cmp x r)
        (All-head (λ q. is_eq (record_cmp x q) ≡ true) r others passes) in
        let same : with_key_of r rs ≡ with_key_of x rs =
        filter_agree (λ q. is_eq (record_cmp r q)) (λ q. is_eq (record_cmp x q))
        (λ q. ap is_eq (sym (records_total.congr x r q alike))) rs in
        let first : IsFirst rs r =
        record { named = λ none. named (nameless_alike x r alike none); others = others; first = same ∙ e } in
        let c = (h.are r).1 first in
        let less = below_last kept x r h.ordered c (above r (omega (arith, c.1))) in
        let turned : record_cmp x r ≡ Greater = records_total.antisymm x r ∙ ap ordering_reverse less in
        absurd cc

-- one that agrees with none before it is above the last of those that are saved
pub above_last : (rs kept : List Record) (x : Record) → IsSortedSelection rs kept → All (λ q. record_cmp q x ≡ Less) rs
    → IsAboveLast kept x
above_last rs kept x h above d pos =
    saved_hold (λ q. record_cmp q x ≡ Less) rs kept above h (length kept - 1) d (omega arith)

-- ---- by its path and the order of the two

long_path : (path : List ℕ) → (length path == 0) ≡ false → path ≢ []
long_path [] e n = absurd cc
long_path (b ∷ path) e n = absurd cc

pub no_path : (path : List ℕ) → (length path == 0) ≡ true → path ≡ []
no_path [] e = refl
no_path (b ∷ path) e = let none : suc (length path) ≡ 0 = eqb-true (suc (length path)) 0 e in absurd (omega arith)

pub first_at : (rs : List Record) (i : ℕ) → i < length rs → Record
first_at [] i lt = absurd (omega arith)
first_at (r ∷ rs) i lt = r

less_of : (o : Ordering) → is_lt o ≡ true → o ≡ Less
less_of Less e = refl
less_of Equal e = absurd cc
less_of Greater e = absurd cc

-- whether a record is greater than the last preserved one, by its path and by the order of the two
module _ (rs : List Record) (kept i : ℕ) (path : List ℕ) (is : (d : Record) → (get_or rs i d).path ≡ path) where
  pub never_nameless : i < length rs → (length path == 0) ≡ true → IsAbove rs kept i → ⊥
  never_nameless lt none h = let d = first_at rs i lt in (h d).0 (is d ∙ no_path path none)

  pub above_none : kept ≡ 0 → (length path == 0) ≡ false → IsAbove rs kept i
  above_none e named d = (λ none. long_path path named (sym (is d) ∙ none), λ pos. absurd (omega arith))

  pub above_by : (b : Bool) (o : Ordering) → i < length rs → 0 < kept → (length path == 0) ≡ false → b ≡ is_lt o
      → ((d : Record) → record_cmp (get_or rs (kept - 1) d) (get_or rs i d) ≡ o) → IsTrue b ↔ IsAbove rs kept i
  above_by b o lt pos named e stands = (
    λ t d. (λ none. long_path path named (sym (is d) ∙ none), λ _. stands d ∙ less_of o (sym e ∙ t)),
    λ h. let d = first_at rs i lt in e ∙ ap is_lt (sym (stands d) ∙ (h d).1 pos),
  )
