-- The first record that isn't above the one before it.
use Rattle.std.proofs.Common.{◌≡◌, ◌≢◌, ℕ, zero, suc, ◌+◌, ◌-◌, ◌<◌, ◌≤◌, ◌⊎◌, inl, inr, true, false, List, [], ◌∷◌}
use Rattle.std.proofs.Common.{length, get_or, take, refl, sym, ◌∙◌, subst, arith, length-take}
use Rattle.std.specs.List.{AllAdjacentBelow}
use Rattle.std.specs.Ordering.{is_ge, is_lt}
use Rattle.std.specs.declared.cmp.Ordering.{Ordering}
use Rattle.std.specs.declared.cmp.Ordering.TheVariants.{Less, Equal, Greater}
use Rattle.std.proofs.lemmas.Bool.{cases_lt, false≢true}
use Rattle.std.proofs.lemmas.List.{get_or-take, take_all}
use Rattle.entry_list.specs.Order.{record_cmp, IsStrictlyOrdered}
use Rattle.entry_list.specs.Record.{Record}
use Rattle.entry_list.specs.Sorted.{IsFall, IsOrdered}
use Rattle.entry_list.proofs.Orders.{records_total}

-- a record is below the next
abbrev pub Rises : Record → Record → Type 0
Rises r q = record_cmp r q ≡ Less

pub less_from : (o : Ordering) → is_ge o ≡ false → o ≡ Less
less_from Less e = refl
less_from Equal e = cc
less_from Greater e = cc

not_less_from : (o : Ordering) → is_ge o ≡ true → o ≢ Less
not_less_from Less e = λ _. cc
not_less_from Equal e = λ t. cc
not_less_from Greater e = λ t. cc

-- neighbours that rise, below n, make all of those rise
pairs_from : (rs : List Record) (n : ℕ) → AllAdjacentBelow Rises rs n → (i j : ℕ) (d : Record) → i < j → j < n
    → record_cmp (get_or rs i d) (get_or rs j d) ≡ Less
pairs_from rs n h i zero d lt le = absurd (omega arith)
pairs_from rs n h i (suc j) d lt le = by (λ a. pairs_from rs n h i j d a (omega arith)) (cases_lt i j)
  where
    one : record_cmp (get_or rs j d) (get_or rs (suc j) d) ≡ Less
    one = let e : j + 1 ≡ suc j = omega arith in rw e at (h j d (omega arith))

    by : (i < j → record_cmp (get_or rs i d) (get_or rs j d) ≡ Less) → (i < j) ⊎ (j ≤ i)
        → record_cmp (get_or rs i d) (get_or rs (suc j) d) ≡ Less
    by f (inl a) = records_total.trans (get_or rs i d) (get_or rs j d) (get_or rs (suc j) d) (f a) one
    by f (inr b) = let e : i ≡ j = omega arith in rw e one

-- the records below n strictly increase
rise_upto : (rs : List Record) (n : ℕ) → AllAdjacentBelow Rises rs n → IsStrictlyOrdered (take n rs)
rise_upto rs n h = record {
  less = λ i j d lt le.
      let inside : j < n = omega (arith, length-take n rs) in
      let a : get_or (take n rs) i d ≡ get_or rs i d = get_or-take n rs i d (omega arith) in
      let b : get_or (take n rs) j d ≡ get_or rs j d = get_or-take n rs j d inside in
      rw (a, b) (pairs_from rs n h i j d lt inside);
}

pub rises_throughout : (rs : List Record) (n : ℕ) → length rs ≤ n → AllAdjacentBelow Rises rs n → IsStrictlyOrdered rs
rises_throughout rs n le h = subst IsStrictlyOrdered (take_all n rs le) (rise_upto rs n h)

pub falls_first : (rs : List Record) (i : ℕ) (o : Ordering) → 0 < i → i < length rs → AllAdjacentBelow Rises rs i
    → ((d : Record) → record_cmp (get_or rs (i - 1) d) (get_or rs i d) ≡ o) → is_ge o ≡ true
    → IsFall rs i × IsStrictlyOrdered (take i rs)
falls_first rs i o pos lt h e ge = (
  record { behind_one = pos; in_range = lt; falls = λ d less. not_less_from o ge (sym (e d) ∙ less) },
  rise_upto rs i h,
)

pub isnt_ordered : (rs : List Record) (i : ℕ) → 0 < i → i < length rs
    → ((d : Record) → is_lt (record_cmp (get_or rs i d) (get_or rs (i - 1) d)) ≡ true) → IsOrdered rs → ⊥
isnt_ordered [] i pos lt less s = absurd (omega arith)
isnt_ordered (r ∷ rs) i pos lt less s =
    let same : i - 1 + 1 ≡ i = omega arith in
    let not = rw same at (s (i - 1) r (omega arith) (omega arith)) in
    false≢true (sym not ∙ less r)

-- no record is below the one before it from a place on
abbrev pub RisesFrom : List Record → ℕ → Type 0
RisesFrom rs i = (k : ℕ) (d : Record) → i ≤ k + 1 → k + 1 < length rs
    → is_lt (record_cmp (get_or rs (k + 1) d) (get_or rs k d)) ≡ false

-- nor is the one before that place
pub rises_before : (rs : List Record) (i : ℕ) → 1 < i → RisesFrom rs i
    → ((d : Record) → is_lt (record_cmp (get_or rs (i - 1) d) (get_or rs (i - 1 - 1) d)) ≡ false) → RisesFrom rs (i - 1)
rises_before rs i pos h here k d le lt = by (cases_lt (i - 1) (k + 1))
  where
    by : (i - 1 < k + 1) ⊎ (k + 1 ≤ i - 1) → is_lt (record_cmp (get_or rs (k + 1) d) (get_or rs k d)) ≡ false
    by (inl a) = h k d (omega arith) lt
    by (inr b) = let e : i - 1 ≡ k + 1 = omega arith in let f : k + 1 - 1 ≡ k = omega arith in rw (e, f) at (here d)
