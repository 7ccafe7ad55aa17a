-- A closure that is called if entries agree in path and stage.
use Rattle.std.proofs.Common.{Bool, true, false, ◌≡◌, ℕ, List, [], ◌∷◌, ◌+◌, get_or, Bor, refl, sym, ap, ◌∙◌, subst}
use denote.Param.Members.{Mut}
use denote.Param.Always.{always_mut, mut_next}
use Rattle.std.specs.Fn.{Called, ComparesAs}
use Rattle.std.specs.Cmp.{IsStrictWeakOrder}
use Rattle.std.specs.List.Sorted.{IsSortedBy}
use Rattle.std.specs.Ordering.{is_lt, ordering_reverse}
use Rattle.std.specs.declared.cmp.Ordering.{Ordering}
use Rattle.std.specs.declared.cmp.Ordering.TheVariants.{Less, Equal, Greater}
use Rattle.entry_list.specs.declared.Entry.{Entry}
use Rattle.entry_list.specs.Order.{record_cmp}
use Rattle.entry_list.specs.Record.{record_in, records_in}
use Rattle.entry_list.specs.Sorted.{IsOrElse, IsOrdered, is_before_by, is_below_or}
use Rattle.entry_list.proofs.Orders.{records_total}
use Rattle.entry_list.proofs.Sorting.{sorted_map}

module _ {F : Type 0} (g : Mut F (Bor Entry × (Bor Entry × Unit {0})) Ordering) where
  -- the closure may still be called
  pub still : (o : Ordering) (f : F) (a b : Bor Entry) (r : Ordering) (h : F)
      → IsOrElse o (λ r h. Called g f (a, (b, tt)) r h) f r h → always_mut g f → always_mut g h
  still Less f a b r h told i = subst (always_mut g) (sym told.1) i
  still Equal f a b r h told i = mut_next g f (a, (b, tt)) r h h told refl i
  still Greater f a b r h told i = subst (always_mut g) (sym told.1) i

  -- its answer is that of the test, and so are its later answers
  pub answered : (by : Entry → Entry → Bool) (o : Ordering) (f : F) (a b : Bor Entry) (r : Ordering) (h : F)
      → IsOrElse o (λ r h. Called g f (a, (b, tt)) r h) f r h → ComparesAs g by f
      → (is_lt r ≡ is_below_or o (by a.now b.now)) × ComparesAs g by h
  answered by Less f a b r h told i = (ap is_lt told.0, subst (ComparesAs g by) (sym told.1) i)
  answered by Equal f a b r h told i =
      ((i.at ((a, (b, tt)) ∷ []) r h told).0, record { at = λ xs. (i.at ((a, (b, tt)) ∷ xs) r h told).1 })
  answered by Greater f a b r h told i = (ap is_lt told.0, subst (ComparesAs g by) (sym told.1) i)

-- ---- by path, by stage, and then by an order, is an order

module _ (storage : List ℕ) (by : Entry → Entry → Bool) (order : IsStrictWeakOrder by) where
  abbrev cmp : Entry → Entry → Ordering
  cmp a b = record_cmp (record_in storage a) (record_in storage b)

  back : (o p : Ordering) (b c : Bool) → p ≡ ordering_reverse o → (b ≡ true → c ≡ false) → is_below_or o b ≡ true
      → is_below_or p c ≡ false
  back Less p b c e h t = rw e refl
  back Equal p b c e h t = rw e (h t)
  back Greater p b c e h t = cc

  turned : (a b : Entry) (o : Ordering) → cmp a b ≡ o → cmp b a ≡ ordering_reverse o
  turned a b o e = records_total.antisymm (record_in storage b) (record_in storage a) ∙ ap ordering_reverse e

  module _ (x y z : Entry) where
    chained : (o p : Ordering) → cmp x y ≡ o → cmp y z ≡ p → is_below_or o (by x y) ≡ false
        → is_below_or p (by y z) ≡ false → is_below_or (cmp x z) (by x z) ≡ false
    chained Less p e f a b = cc
    chained Equal Less e f a b = cc
    chained Equal Equal e f a b =
        let q : cmp x z ≡ Equal =
        records_total.congr (record_in storage x) (record_in storage y) (record_in storage z) e ∙ f in
        rw q (order.chain x y z a b)
    chained Equal Greater e f a b =
        let q : cmp x z ≡ Greater =
        records_total.congr (record_in storage x) (record_in storage y) (record_in storage z) e ∙ f in
        rw q refl
    chained Greater Less e f a b = cc
    chained Greater Equal e f a b =
        let first : cmp z x ≡ Less =
        records_total.congr (record_in storage z) (record_in storage y) (record_in storage x) (turned y z Equal f)
        ∙ turned x y Greater e in
        let q : cmp x z ≡ Greater = turned z x Less first in
        rw q refl
    chained Greater Greater e f a b =
        let first : cmp z x ≡ Less = records_total.trans (record_in storage z) (record_in storage y)
        (record_in storage x) (turned y z Greater f) (turned x y Greater e) in
        let q : cmp x z ≡ Greater = turned z x Less first in
        rw q refl

  pub thirdly : IsStrictWeakOrder (is_before_by storage by)
  thirdly = record {
    one_way = λ x y. back (cmp x y) (cmp y x) (by x y) (by y x) (turned x y (cmp x y) refl) (order.one_way x y);
    chain = λ x y z. chained x y z (cmp x y) (cmp y z) refl refl;
  }

  not_below : (o : Ordering) (b : Bool) → is_below_or o b ≡ false → is_lt o ≡ false
  not_below Less b e = cc
  not_below Equal b e = refl
  not_below Greater b e = refl

  -- in that order, the entries are in order by path and stage
  pub ordered_first : (xs : List Entry) → IsSortedBy (is_before_by storage by) xs → IsOrdered (records_in storage xs)
  ordered_first xs s = sorted_map storage xs (λ k d low h.
      not_below (cmp (get_or xs (k + 1) d) (get_or xs k d)) (by (get_or xs (k + 1) d) (get_or xs k d)) (s k d low h))
