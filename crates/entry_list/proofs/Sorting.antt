-- What a sort of entries does to their records.
use Rattle.std.proofs.Common.{Bool, true, false, cond, not, ◌&&◌, ◌≡◌, ℕ, ◌+◌, ◌<◌, ◌⊎◌, inl, inr, List, [], ◌∷◌}
use Rattle.std.proofs.Common.{length, map, get_or, refl, sym, ap, ◌∙◌, arith, Bor}
use denote.Param.Members.{Mut}
use Rattle.std.specs.Fn.{Called}
use Rattle.std.specs.Cmp.{IsStrictWeakOrder}
use Rattle.std.specs.List.{filter}
use Rattle.std.specs.List.Sorted.{IsSortedBy, IsStable, IsStableBy, IsSortedByClosure, IsStableByClosure, ties}
use Rattle.std.specs.Ordering.{is_lt, is_eq, ordering_reverse}
use Rattle.std.specs.declared.cmp.Ordering.{Ordering}
use Rattle.std.specs.declared.cmp.Ordering.TheVariants.{Less, Equal, Greater}
use Rattle.std.proofs.lemmas.Fn.{always_returns_same}
use Rattle.std.proofs.lemmas.List.{get_or-map, length-map}
use Rattle.std.proofs.lemmas.List.Sorted.{ranks_by}
use Rattle.entry_list.specs.declared.Entry.{Entry}
use Rattle.entry_list.specs.Record.{Record, record_in, records_in}
use Rattle.entry_list.specs.Order.{record_cmp}
use Rattle.entry_list.specs.Sorted.{IsOrdered, is_entry_before}
use Rattle.entry_list.proofs.Orders.{records_total}

pub record_at : (storage : List ℕ) (es : List Entry) (i : ℕ) (z : Entry) (d : Record) → i < length es
    → get_or (records_in storage es) i d ≡ record_in storage (get_or es i z)
record_at storage es i z d h = get_or-map (record_in storage) es i z d h

pub weak : (storage : List ℕ) → IsStrictWeakOrder (is_entry_before storage)
weak storage = ranks_by records_total (record_in storage)

sorted_from : (storage : List ℕ) (xs : List Entry) (z : Entry) → IsSortedBy (is_entry_before storage) xs
    → IsOrdered (records_in storage xs)
sorted_from storage xs z s k d low h =
    let n : length (records_in storage xs) ≡ length xs = length-map xs (record_in storage) in
    let a : get_or (records_in storage xs) (k + 1) d ≡ record_in storage (get_or xs (k + 1) z) =
    record_at storage xs (k + 1) z d (omega arith) in
    let b : get_or (records_in storage xs) k d ≡ record_in storage (get_or xs k z) =
    record_at storage xs k z d (omega arith) in
    rw (a, b) (s k z low (omega arith))

pub sorted_map : (storage : List ℕ) (xs : List Entry) → IsSortedBy (is_entry_before storage) xs
    → IsOrdered (records_in storage xs)
sorted_map storage [] s = λ k d low h. absurd (omega arith)
sorted_map storage (x ∷ xs) s = sorted_from storage (x ∷ xs) x s

filter-map : {A B : Type 0} (p : B → Bool) (f : A → B) (xs : List A)
    → filter p (map f xs) ≡ map f (filter (λ x. p (f x)) xs)
filter-map p f [] = refl
filter-map p f (x ∷ xs) = by (p (f x)) (filter-map p f xs)
  where
    by : (b : Bool) → filter p (map f xs) ≡ map f (filter (λ x. p (f x)) xs)
        → cond b (f x ∷ filter p (map f xs)) (filter p (map f xs))
        ≡ map f (cond b (x ∷ filter (λ x. p (f x)) xs) (filter (λ x. p (f x)) xs))
    by true e = ap (λ ys. f x ∷ ys) e
    by false e = e

filter_ext : {A : Type 0} (p q : A → Bool) → ((x : A) → p x ≡ q x) → (xs : List A) → filter p xs ≡ filter q xs
filter_ext p q h [] = refl
filter_ext p q h (x ∷ xs) = rw (h x, filter_ext p q h xs) refl

-- an element passes, or none is kept
passes_or_none : {A : Type 0} (p : A → Bool) (xs : List A) → ((x : A) × (p x ≡ true)) ⊎ (filter p xs ≡ [])
passes_or_none p [] = inr refl
passes_or_none p (x ∷ xs) = by (p x) refl (passes_or_none p xs)
  where
    by : (b : Bool) → p x ≡ b → ((y : _) × (p y ≡ true)) ⊎ (filter p xs ≡ [])
        → ((y : _) × (p y ≡ true)) ⊎ (cond b (x ∷ filter p xs) (filter p xs) ≡ [])
    by true e r = inl (x, e)
    by false e (inl y) = inl y
    by false e (inr n) = inr n

tie : (o p : Ordering) → p ≡ ordering_reverse o → not (is_lt o) && not (is_lt p) ≡ is_eq o
tie Less p e = refl
tie Equal p e = rw e refl
tie Greater p e = rw e refl

ties_are_equal : (x y : Record) → ties (λ a b. is_lt (record_cmp a b)) x y ≡ is_eq (record_cmp x y)
ties_are_equal x y = tie (record_cmp x y) (record_cmp y x) (records_total.antisymm y x)

equal_from : (o : Ordering) → is_eq o ≡ true → o ≡ Equal
equal_from Less e = cc
equal_from Equal e = refl
equal_from Greater e = cc

-- what ties with x ties with whatever x ties with
same_ties : (x y z : Record) → ties (λ a b. is_lt (record_cmp a b)) x y ≡ true
    → ties (λ a b. is_lt (record_cmp a b)) x z ≡ ties (λ a b. is_lt (record_cmp a b)) y z
same_ties x y z h =
    let e : record_cmp x y ≡ Equal = equal_from (record_cmp x y) (sym (ties_are_equal x y) ∙ h) in
    ties_are_equal x z ∙ ap is_eq (records_total.congr x y z e) ∙ sym (ties_are_equal y z)

module _ (storage : List ℕ) (xs ys : List Entry) (s : IsStableBy (is_entry_before storage) xs ys) (x : Record) where
  abbrev ties_x : Entry → Bool
  ties_x e = ties (λ a b. is_lt (record_cmp a b)) x (record_in storage e)

  kept_at : (e : Entry) → ties_x e ≡ true → filter ties_x ys ≡ filter ties_x xs
  kept_at e h =
      let same = λ (y : Entry). same_ties x (record_in storage e) (record_in storage y) h in
      filter_ext ties_x (ties (is_entry_before storage) e) same ys ∙ s e
      ∙ sym (filter_ext ties_x (ties (is_entry_before storage) e) same xs)

  kept : ((e : Entry) × (ties_x e ≡ true)) ⊎ (filter ties_x xs ≡ [])
      → ((e : Entry) × (ties_x e ≡ true)) ⊎ (filter ties_x ys ≡ []) → filter ties_x ys ≡ filter ties_x xs
  kept (inl e) r = kept_at e.0 e.1
  kept (inr a) (inl e) = kept_at e.0 e.1
  kept (inr a) (inr b) = b ∙ sym a

  stable_map_at : filter (ties (λ a b. is_lt (record_cmp a b)) x) (records_in storage ys)
      ≡ filter (ties (λ a b. is_lt (record_cmp a b)) x) (records_in storage xs)
  stable_map_at =
      filter-map (ties (λ a b. is_lt (record_cmp a b)) x) (record_in storage) ys
      ∙ ap (map (record_in storage)) (kept (passes_or_none ties_x xs) (passes_or_none ties_x ys))
      ∙ sym (filter-map (ties (λ a b. is_lt (record_cmp a b)) x) (record_in storage) xs)

-- a stable sort of entries is one of their records
pub stable_records : (storage : List ℕ) (xs ys : List Entry) → IsStableBy (is_entry_before storage) xs ys
    → IsStable record_cmp (records_in storage xs) (records_in storage ys)
stable_records storage xs ys s = stable_map_at storage xs ys s

module _ {F : Type 0} (g : Mut F (Bor Entry × (Bor Entry × Unit {0})) Ordering) (f : F) (storage : List ℕ)
    (h : (a : Bor Entry × (Bor Entry × Unit {0})) (r : Ordering) (f' : F) → Called g f a r f'
    → (r ≡ record_cmp (record_in storage a.0.now) (record_in storage a.1.0.now)) × (f' ≡ f)) where
  pub sorted_records : (xs : List Entry) → IsSortedByClosure g f xs → IsOrdered (records_in storage xs)
  sorted_records xs s =
      sorted_map storage xs (s (is_entry_before storage) (weak storage) (always_returns_same g (λ a r. is_lt r
      ≡ is_entry_before storage a.0.now a.1.0.now) f (λ a r f' k. (ap is_lt (h a r f' k).0, (h a r f' k).1))))

  pub stable_entries : (xs ys : List Entry) → IsStableByClosure g f xs ys → IsStableBy (is_entry_before storage) xs ys
  stable_entries xs ys s = s (is_entry_before storage) (weak storage) (always_returns_same g (λ a r. is_lt r
      ≡ is_entry_before storage a.0.now a.1.0.now) f (λ a r f' k. (ap is_lt (h a r f' k).0, (h a r f' k).1)))
