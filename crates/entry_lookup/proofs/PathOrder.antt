-- Whether paths never fall, from adjacent paths.
use Rattle.std.proofs.Common.{◌≡◌, ◌≢◌, ℕ, ◌+◌, ◌-◌, ◌<◌, ◌≤◌, ◌⊎◌, inl, inr, true, false, List, [], ◌∷◌, ◌++◌, length}
use Rattle.std.proofs.Common.{get_or, take, refl, sym, ap, ◌∙◌, subst, arith, length-take}
use Rattle.std.specs.List.{AllPairs, HoldsAt}
use Rattle.std.specs.Ordering.{is_gt}
use Rattle.std.specs.declared.cmp.Ordering.{Ordering}
use Rattle.std.specs.declared.cmp.Ordering.TheVariants.{Less, Equal, Greater}
use Rattle.std.proofs.lemmas.Bool.{cases_lt}
use Rattle.std.proofs.lemmas.List.{get_or-take, get_or_default, take_more}
use Rattle.std.proofs.lemmas.List.Quantifiers.{all_pairs_push}
use Rattle.entry_list.specs.Order.{path_cmp, IsOrderedByPath}
use Rattle.entry_list.specs.Record.{Record}
use Rattle.entry_list.proofs.Orders.{paths_total, same_path}
use Rattle.base_search.proofs.Places.{some_of}

chain : (o : Ordering) (x y z : List ℕ) → path_cmp x y ≡ o → o ≢ Greater → path_cmp y z ≢ Greater
    → path_cmp x z ≢ Greater
chain Less x y z e g h = by (path_cmp y z) refl h
  where
    by : (p : Ordering) → path_cmp y z ≡ p → path_cmp y z ≢ Greater → path_cmp x z ≢ Greater
    by Less f h' t = let less : path_cmp x z ≡ Less = paths_total.trans x y z e f in cc
    by Equal f h' t =
        let same : y ≡ z = (same_path y z).0 f in
        let less : path_cmp x z ≡ Less = ap (path_cmp x) (sym same) ∙ e in
        cc
    by Greater f h' t = h' f
chain Equal x y z e g h = λ t. h (sym (paths_total.congr x y z e) ∙ t)
chain Greater x y z e g h = absurd (g refl)

not_gt : (o : Ordering) → is_gt o ≡ false → o ≢ Greater
not_gt Less e t = cc
not_gt Equal e t = cc
not_gt Greater e t = cc

gt_is : (o : Ordering) → is_gt o ≡ true → o ≡ Greater
gt_is Less e = cc
gt_is Equal e = cc
gt_is Greater e = refl

pub first_one : (rs : List Record) (i : ℕ) → i ≡ 0
    → AllPairs (λ r q. path_cmp r.path q.path ≢ Greater) (take (i + 1) rs)
first_one rs i e j k d before inside = absurd (omega (arith, length-take (i + 1) rs))

module _ (rs : List Record) (i : ℕ) (within : i < length rs) where
  z : Record
  z = some_of rs i within

  step_is : (a b : List ℕ) (o : Ordering) → HoldsAt (λ r. r.path ≡ a) rs (i - 1) → HoldsAt (λ r. r.path ≡ b) rs i
      → o ≡ path_cmp a b → path_cmp (get_or rs (i - 1) z).path (get_or rs i z).path ≡ o
  step_is a b o ea eb eo = rw (ea z, eb z) (sym eo)

  pub falls_here : (a b : List ℕ) (o : Ordering) → 0 < i → HoldsAt (λ r. r.path ≡ a) rs (i - 1)
      → HoldsAt (λ r. r.path ≡ b) rs i → o ≡ path_cmp a b → is_gt o ≡ true → IsOrderedByPath rs → ⊥
  falls_here a b o some ea eb eo g ordered =
      ordered.never_falls (i - 1) i z (omega arith) (omega (arith, within)) (step_is a b o ea eb eo ∙ gt_is o g)

  module _ (so_far : AllPairs (λ r q. path_cmp r.path q.path ≢ Greater) (take i rs)) where
    more : take (i + 1) rs ≡ take i rs ++ get_or rs i z ∷ []
    more = take_more rs i z (omega (arith, within))

    pub next_one : (a b : List ℕ) (o : Ordering) → 0 < i → HoldsAt (λ r. r.path ≡ a) rs (i - 1)
        → HoldsAt (λ r. r.path ≡ b) rs i → o ≡ path_cmp a b → is_gt o ≡ false
        → AllPairs (λ r q. path_cmp r.path q.path ≢ Greater) (take (i + 1) rs)
    next_one a b o some ea eb eo g = subst (λ (xs : List Record). AllPairs (λ r q. path_cmp r.path q.path ≢ Greater) xs)
        (sym more) (all_pairs_push (λ r q. path_cmp r.path q.path ≢ Greater) (take i rs) (get_or rs i z) so_far
        (λ k d inside. by k d (omega (arith, inside, length-take i rs)) (cases_lt k (i - 1))))
      where
        last : List ℕ
        last = (get_or rs (i - 1) z).path

        step : path_cmp (get_or rs (i - 1) z).path (get_or rs i z).path ≢ Greater
        step t = not_gt o g (sym (step_is a b o ea eb eo) ∙ t)

        read : (k : ℕ) (d : Record) → k < i → get_or (take i rs) k d ≡ get_or rs k z
        read k d u = get_or-take i rs k d u ∙ get_or_default rs k d z (omega (arith, within))

        by : (k : ℕ) (d : Record) → k < i → (k < i - 1) ⊎ (i - 1 ≤ k)
            → path_cmp (get_or (take i rs) k d).path (get_or rs i z).path ≢ Greater
        by k d u (inl before) =
            let z' : Record = z in
            let pair : path_cmp (get_or rs k z).path (get_or rs (i - 1) z).path ≢ Greater =
            subst (λ (r : Record). path_cmp r.path (get_or rs (i - 1) z).path ≢ Greater) (read k z' u)
            (subst (λ (r : Record). path_cmp (get_or (take i rs) k z).path r.path ≢ Greater) (read (i - 1) z'
            (omega arith)) (so_far k (i - 1) z before (omega (arith, length-take i rs, within)))) in
            subst (λ (r : Record). path_cmp r.path (get_or rs i z).path ≢ Greater) (sym (read k d u))
            (chain _ (get_or rs k z).path (get_or rs (i - 1) z).path (get_or rs i z).path refl pair step)
        by k d u (inr back) =
            let same : k ≡ i - 1 = omega arith in
            subst (λ (r : Record). path_cmp r.path (get_or rs i z).path ≢ Greater)
            (sym (read k d u ∙ ap (λ (j : ℕ). get_or rs j z) same)) step
