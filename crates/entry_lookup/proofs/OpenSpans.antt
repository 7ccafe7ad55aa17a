-- Lists of directories that are open, one at a time.
use Rattle.std.proofs.Common.{◌≡◌, ℕ, zero, suc, ◌+◌, ◌-◌, ◌<◌, ◌≤◌, ◌⊎◌, inl, inr, Bool, true, false, nat_lt, List, []}
use Rattle.std.proofs.Common.{◌∷◌, ◌++◌, length, get_or, map, take, drop, reverse, set, refl, sym, ap, ◌∙◌, subst}
use Rattle.std.proofs.Common.{arith, length-take, append_assoc, Result, Ok, Err, IfOk}
use Rattle.std.specs.List.{All, HoldsAt}
use Rattle.std.specs.Result.{OnOk}
use Rattle.std.specs.Prelude.{max, min}
use Rattle.std.proofs.lemmas.Bool.{cases_lt}
use Rattle.std.proofs.lemmas.Bool.Decides.{nat_tests}
use Rattle.std.proofs.lemmas.Grind.{reverse_onto}
use Rattle.std.proofs.lemmas.List.{get_or-take, get_or_default, length-map, map-append, map-set, take-take}
use Rattle.std.proofs.lemmas.List.Elements.{All-cons}
use Rattle.std.proofs.Math.ListN.{get_or-map}
use Rattle.entry_lookup.specs.WalkSteps.{IsClosing, IsStep, SpanValue, extended, opened, span_value, widened}
use Rattle.entry_lookup.specs.NameSteps.{NamedValue}
use Rattle.entry_lookup.specs.declared.walk.Span.{Span}
use Rattle.base_search.proofs.Places.{some_of}

pub all_from : {X : Type 0} (P : X → Type 0) (xs : List X) (k : ℕ) → k < length xs → ((d : X) → P (get_or xs k d))
    → All P (drop (suc k) xs) → All P (drop k xs)
all_from P [] k l here all = absurd (omega arith)
all_from P (x ∷ xs) zero l here all = All-cons P x xs (here x) all
all_from P (x ∷ xs) (suc k) l here all = all_from P xs k (omega arith) here all

-- ---- the last that is open goes

drop_at : {X : Type 0} (xs : List X) (m : ℕ) (d : X) → m < length xs → drop m xs ≡ get_or xs m d ∷ drop (suc m) xs
drop_at [] m d l = absurd (omega arith)
drop_at (x ∷ xs) zero d l = refl
drop_at (x ∷ xs) (suc m) d l = drop_at xs m d (omega arith)

reverse_at : (xs : List SpanValue) (m : ℕ) (d : SpanValue) → m < length xs
    → reverse (drop m xs) ≡ reverse (drop (suc m) xs) ++ get_or xs m d ∷ []
reverse_at xs m d l = ap reverse (drop_at xs m d l) ∙ reverse_onto (drop (suc m) xs) (get_or xs m d) []

module _ (old live new c0 c c' : List Span) (s : Span) (m : ℕ) (len : suc m ≡ length live)
    (within : length live ≤ length old) (left : map span_value live ≡ take (length live) (map span_value old))
    (read : s ≡ get_or live m s) (cut : new ≡ take m live) (pushed : c' ≡ c ++ s ∷ [])
    (moved : map span_value c ≡ map span_value c0 ++ reverse (drop (length live) (map span_value old))) where
  abbrev ys : List SpanValue
  ys = map span_value old

  in_ys : m < length (map span_value old)
  in_ys = omega (arith, length-map old span_value)

  new_len : length new ≡ m
  new_len = ap length cut ∙ omega (arith, length-take m live)

  pub left_one : map span_value new ≡ take (length new) (map span_value old)
  left_one =
      ap (map span_value) cut ∙ take_map_span m live ∙ ap (take m) left
      ∙ take-take m (length live) (map span_value old) (omega arith)
      ∙ ap (λ (k : ℕ). take k (map span_value old)) (sym new_len)
    where
      take_map_span : (k : ℕ) (xs : List Span) → map span_value (take k xs) ≡ take k (map span_value xs)
      take_map_span zero xs = refl
      take_map_span (suc k) [] = refl
      take_map_span (suc k) (x ∷ xs) = ap (λ (zs : List SpanValue). span_value x ∷ zs) (take_map_span k xs)

  is_last : span_value s ≡ get_or (map span_value old) m (span_value s)
  is_last =
      ap span_value read ∙ sym (get_or-map span_value live m s)
      ∙ ap (λ (xs : List SpanValue). get_or xs m (span_value s)) left
      ∙ get_or-take (length live) (map span_value old) m (span_value s) (omega arith)

  pub moved_one : map span_value c' ≡ map span_value c0 ++ reverse (drop (length new) (map span_value old))
  moved_one =
      ap (map span_value) pushed ∙ map-append span_value c (s ∷ [])
      ∙ ap (λ (xs : List SpanValue). xs ++ span_value s ∷ [])
      (moved ∙ ap (λ (k : ℕ). map span_value c0 ++ reverse (drop k (map span_value old))) (sym len))
      ∙ append_assoc (map span_value c0) (reverse (drop (suc m) (map span_value old))) (span_value s ∷ [])
      ∙ ap (λ (x : SpanValue). map span_value c0 ++ (reverse (drop (suc m) (map span_value old)) ++ x ∷ [])) is_last
      ∙ ap (λ (xs : List SpanValue). map span_value c0 ++ xs)
      (sym (reverse_at (map span_value old) m (span_value s) in_ys))
      ∙ ap (λ (k : ℕ). map span_value c0 ++ reverse (drop k (map span_value old))) (sym new_len)

  pub long_one : (n : ℕ) → n ≤ length s.name.now
      → All (λ x. n ≤ length x.name) (drop (length live) (map span_value old))
      → All (λ x. n ≤ length x.name) (drop (length new) (map span_value old))
  long_one n l all =
      subst (λ (k : ℕ). All (λ x. n ≤ length x.name) (drop k (map span_value old))) (sym new_len)
      (all_from (λ x. n ≤ length x.name) (map span_value old) m in_ys
      (λ d. omega (
        arith,
        l,
        ap (λ (x : SpanValue). length x.name)
            (is_last ∙ get_or_default (map span_value old) m (span_value s) d in_ys),
      ))
      (subst (λ (k : ℕ). All (λ x. n ≤ length x.name) (drop k (map span_value old))) (sym len) all))

-- ---- one after the other is changed

module _ (go : SpanValue → SpanValue) where
  pub went_read : (xs : List SpanValue) (i : ℕ) (d : SpanValue) → i < length xs
      → get_or (map go (take i xs) ++ drop i xs) i d ≡ get_or xs i d
  went_read [] i d l = absurd (omega arith)
  went_read (x ∷ xs) zero d l = refl
  went_read (x ∷ xs) (suc i) d l = went_read xs i d (omega arith)

  went_set : (xs : List SpanValue) (i : ℕ) (d : SpanValue) → i < length xs
      → set (map go (take i xs) ++ drop i xs) i (go (get_or xs i d)) ≡ map go (take (suc i) xs) ++ drop (suc i) xs
  went_set [] i d l = absurd (omega arith)
  went_set (x ∷ xs) zero d l = refl
  went_set (x ∷ xs) (suc i) d l = ap (λ (zs : List SpanValue). go x ∷ zs) (went_set xs i d (omega arith))

  went_stays : (xs : List SpanValue) (i : ℕ) (d : SpanValue) → i < length xs → go (get_or xs i d) ≡ get_or xs i d
      → map go (take i xs) ++ drop i xs ≡ map go (take (suc i) xs) ++ drop (suc i) xs
  went_stays [] i d l e = absurd (omega arith)
  went_stays (x ∷ xs) zero d l e = ap (λ (y : SpanValue). y ∷ xs) (sym e)
  went_stays (x ∷ xs) (suc i) d l e = ap (λ (zs : List SpanValue). go x ∷ zs) (went_stays xs i d (omega arith) e)

  module _ (xs : List SpanValue) (live new : List Span) (i : ℕ)
      (before : map span_value live ≡ map go (take i xs) ++ drop i xs) (l : i < length xs) (z : Span) where
    here : span_value (get_or live i z) ≡ get_or xs i (span_value z)
    here = sym (get_or-map span_value live i z) ∙ ap (λ (ys : List SpanValue). get_or ys i (span_value z)) before
        ∙ went_read xs i (span_value z) l

    next : i + 1 ≡ suc i
    next = omega arith

    pub went_on : (v : Span) → new ≡ set live i v → span_value v ≡ go (span_value (get_or live i z))
        → map span_value new ≡ map go (take (i + 1) xs) ++ drop (i + 1) xs
    went_on v put is =
        ap (map span_value) put ∙ map-set span_value live i v
        ∙ ap (λ (ys : List SpanValue). set ys i (span_value v)) before
        ∙ ap (set (map go (take i xs) ++ drop i xs) i) (is ∙ ap go here) ∙ went_set xs i (span_value z) l
        ∙ ap (λ (k : ℕ). map go (take k xs) ++ drop k xs) (sym next)

    pub stayed : new ≡ live → go (span_value (get_or live i z)) ≡ span_value (get_or live i z)
        → map span_value new ≡ map go (take (i + 1) xs) ++ drop (i + 1) xs
    stayed same is =
        ap (map span_value) same ∙ before ∙ went_stays xs i (span_value z) l (ap go (sym here) ∙ is ∙ here)
        ∙ ap (λ (k : ℕ). map go (take k xs) ++ drop k xs) (sym next)

pub widened_is : (b : Bool) (place : ℕ) (s : SpanValue) (m n : ℕ) → b ≡ true → m ≡ min s.start place
    → n ≡ max s.end (place + 1) → record { name = s.name; start = m; end = n } ≡ widened b place s
widened_is b place s m n e d f = rw (e, d, f) refl

pub widened_not : (b : Bool) (place : ℕ) (s : SpanValue) → b ≡ false → widened b place s ≡ s
widened_not b place s e = rw e refl

-- ---- what is opened

pub opened_none : (own : Bool) (path : List ℕ) (place from n : ℕ) → n ≤ from → opened own path place from n ≡ []
opened_none own path place from zero l = refl
opened_none own path place from (suc n) l = let t : nat_lt n from ≡ true = grind (arith, nat_tests, l) in rw t refl

-- from a loop's last index: the end if it was reached, and otherwise the start of the loop
pub opened_upto : (own : Bool) (path : List ℕ) (place from n end : ℕ) → end ≤ n → (from ≤ end → n ≤ end)
    → (end < from → n ≡ from) → opened own path place from n ≡ opened own path place from end
opened_upto own path place from n end l f g = by (cases_lt end from)
  where
    by : (end < from) ⊎ (from ≤ end) → opened own path place from n ≡ opened own path place from end
    by (inl h) =
        opened_none own path place from n (omega (arith, g h)) ∙ sym (opened_none own path place from end (omega arith))
    by (inr h) = let level : n ≡ end = omega (arith, f h) in ap (opened own path place from) level

pub ok_so : {T E : Type 0} (r : Result T E) (P Q : Type 0) → (P → Q) → OnOk r P → OnOk r Q
ok_so (Ok v) P Q f h = f h
ok_so (Err e) P Q f h = tt

-- ---- a step is what its parts are

pub step_is : (own : Bool) (visit : NamedValue) (shared from : ℕ) (live closed mid went live' closed' : List SpanValue)
    → IsClosing (shared + 1) live closed mid closed'
    → (length mid ≡ 0 → from ≡ 0)
    → (0 < length mid → HoldsAt (λ s. from ≡ suc (min (length s.name) (length visit.name))) mid (length mid - 1))
    → went ≡ map (extended own visit.name visit.place) mid
    → live' ≡ went ++ opened own visit.name visit.place from (suc (length visit.name))
    → IsStep own visit shared live closed live' closed'
step_is own visit shared from live closed mid went live' closed' h none last goes opens = record {
  open_count = h.open_count;
  from = from;
  within = h.within;
  short = λ some d. omega (arith, h.short some d);
  long = λ k d l. omega (arith, h.long k d l);
  first = λ e. none (omega (arith, len));
  last = λ some d.
      let level : length mid - 1 ≡ h.open_count - 1 = omega (arith, len) in
      let read : get_or mid (length mid - 1) d ≡ get_or live (h.open_count - 1) d =
      ap (λ (i : ℕ). get_or mid i d) level ∙ ap (λ (xs : List SpanValue). get_or xs (h.open_count - 1) d) h.live_is
      ∙ get_or-take h.open_count live (h.open_count - 1) d (omega arith) in
      subst (λ (s : SpanValue). from ≡ suc (min (length s.name) (length visit.name))) read
      (last (omega (arith, len)) d);
  closed_is = h.closed_is;
  open_is = opens ∙ ap (λ (xs : List SpanValue). xs ++ opened own visit.name visit.place from (suc (length visit.name)))
      (goes ∙ ap (map (extended own visit.name visit.place)) h.live_is);
}
  where
    len : length mid ≡ h.open_count
    len = ap length h.live_is ∙ omega (arith, length-take h.open_count live, h.within)

-- nothing is open_count of what is closed down to the first byte
pub closed_all : (live closed live' closed' : List SpanValue) → IsClosing 0 live closed live' closed'
    → closed' ≡ closed ++ reverse (drop 0 live)
closed_all live closed live' closed' h = by (cases_lt 0 h.open_count)
  where
    by : (0 < h.open_count) ⊎ (h.open_count ≤ 0) → closed' ≡ closed ++ reverse (drop 0 live)
    by (inl some) = absurd (omega (arith, h.short some (get_or live 0 (some_of live 0 (omega (arith, h.within))))))
    by (inr none) =
        let e : h.open_count ≡ 0 = omega arith in
        h.closed_is ∙ ap (λ (k : ℕ). closed ++ reverse (drop k live)) e

pub ok_then : {T E : Type 0} (r : Result T E) (P Q : T → Type 0) → ((v : T) → P v → Q v) → IfOk r P → IfOk r Q
ok_then (Ok v) P Q f h = f v h
ok_then (Err e) P Q f h = tt
