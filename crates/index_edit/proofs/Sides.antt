-- Two sides of another path or another stage are recorded in either order.
use Rattle.std.proofs.Common.{◌≡◌, ◌≢◌, ℕ, zero, suc, ◌-◌, ◌≤◌, false, List, [], ◌∷◌, refl, sym, ap, ◌∙◌, arith}
use Rattle.std.proofs.Math.ListN.{set}
use Rattle.std.specs.Ordering.{is_lt, ordering_reverse}
use Rattle.std.specs.declared.cmp.Ordering.{Ordering}
use Rattle.std.specs.declared.cmp.Ordering.TheVariants.{Less, Equal, Greater}
use Rattle.entry_list.specs.Order.{path_cmp, record_stage}
use Rattle.entry_list.specs.Record.{Record}
use Rattle.entry_list.proofs.Orders.{paths_total, same_path}
use Rattle.ext_small.specs.ResolveUndo.{PathStages, side_of}
use Rattle.index_edit.specs.Recorded.{no_sides, recorded, with_side}
use Rattle.index_edit.proofs.Recordings.{alone, at, before, behind}
use Rattle.index_edit.proofs.Risings.{Stands, above, below, stands, there}

set_apart : {A : Type 0} (xs : List A) (i j : ℕ) (x y : A) → i ≢ j → set (set xs i x) j y ≡ set (set xs j y) i x
set_apart [] i j x y n = refl
set_apart (z ∷ zs) zero zero x y n = absurd (n refl)
set_apart (z ∷ zs) zero (suc j) x y n = refl
set_apart (z ∷ zs) (suc i) zero x y n = refl
set_apart (z ∷ zs) (suc i) (suc j) x y n = ap (λ l. z ∷ l) (set_apart zs i j x y (λ e. n (ap suc e)))

-- sides of a conflict, of another path or another stage
pub record AreSidesApart (r q : Record) : Type 0 where
  pub first : record_stage r ≢ 0
  pub second : record_stage q ≢ 0
  pub apart : r.path ≡ q.path → record_stage r ≢ record_stage q

pub sides_back : (r q : Record) → AreSidesApart r q → AreSidesApart q r
sides_back r q a = record { first = a.second; second = a.first; apart = λ e f. a.apart (sym e) (sym f) }

sides_swap : (r q : Record) (p : PathStages) → AreSidesApart r q → r.path ≡ q.path
    → with_side q (with_side r p) ≡ with_side r (with_side q p)
sides_swap r q p a e =
    let n : record_stage r - 1 ≢ record_stage q - 1 = λ f.
    a.apart e (omega (arith, f, positive (record_stage r) a.first, positive (record_stage q) a.second)) in
    let s = set_apart p.stages (record_stage r - 1) (record_stage q - 1) (side_of r.mode r.id) (side_of q.mode q.id) n in
    λ i. record { name = p.name; stages = s i }
  where
    positive : (n : ℕ) → n ≢ 0 → 1 ≤ n
    positive zero h = absurd (h refl)
    positive (suc n) h = omega arith

abbrev new : Record → PathStages
new r = with_side r (no_sides r.path)

abbrev Swap : Record → Record → List PathStages → Type 0
Swap r q ps = recorded q (recorded r ps) ≡ recorded r (recorded q ps)

not_there : (o : Ordering) → o ≡ Less → o ≢ Equal
not_there o e f = cc

-- ---- both are recorded before the first path

fronts : (r q : Record) (ps : List PathStages) → recorded r ps ≡ new r ∷ ps → recorded q ps ≡ new q ∷ ps
    → path_cmp r.path q.path ≡ Less → Swap r q ps
fronts r q ps e f less =
    let back : path_cmp q.path r.path ≡ Greater = paths_total.antisymm q.path r.path ∙ ap ordering_reverse less in
    ap (recorded q) e ∙ behind q (new r) ps (ap is_lt less) ∙ ap (λ l. new r ∷ l) f
    ∙ sym (ap (recorded r) f ∙ before r (new q) ps (ap is_lt back)
    (λ s. let same = sym back ∙ (same_path q.path r.path).1 s in cc))

front : (r q : Record) (ps : List PathStages) → AreSidesApart r q → recorded r ps ≡ new r ∷ ps
    → recorded q ps ≡ new q ∷ ps → Swap r q ps
front r q ps a e f = by (path_cmp r.path q.path) refl
  where
    by : (o : Ordering) → path_cmp r.path q.path ≡ o → Swap r q ps
    by Less h = fronts r q ps e f h
    by Equal h =
        let s = (same_path r.path q.path).0 h in
        ap (recorded q) e ∙ at q (new r) ps s ∙ ap (λ p. p ∷ ps) (sides_swap r q (no_sides r.path) a s)
        ∙ ap (λ (n : List ℕ). with_side r (with_side q (no_sides n)) ∷ ps) s
        ∙ sym (ap (recorded r) f ∙ at r (new q) ps (sym s))
    by Greater h =
        sym (fronts q r ps f e (paths_total.antisymm q.path r.path ∙ ap ordering_reverse h))

-- ---- the two are recorded at different indexes

below_there : (r q : Record) (p : PathStages) (ps : List PathStages) → path_cmp p.name r.path ≡ Less → p.name ≡ q.path
    → Swap r q (p ∷ ps)
below_there r q p ps e f =
    ap (recorded q) (behind r p ps (ap is_lt e)) ∙ at q p (recorded r ps) f
    ∙ sym (ap (recorded r) (at q p ps f) ∙ behind r (with_side q p) ps (ap is_lt e))

below_above : (r q : Record) (p : PathStages) (ps : List PathStages) → path_cmp p.name r.path ≡ Less
    → path_cmp q.path p.name ≡ Less → is_lt (path_cmp p.name q.path) ≡ false → p.name ≢ q.path → Swap r q (p ∷ ps)
below_above r q p ps e f l n =
    let less : path_cmp q.path r.path ≡ Less = paths_total.trans q.path p.name r.path f e in
    ap (recorded q) (behind r p ps (ap is_lt e)) ∙ before q p (recorded r ps) l n
    ∙ sym (ap (recorded r) (before q p ps l n) ∙ behind r (new q) (p ∷ ps) (ap is_lt less)
    ∙ ap (λ l. new q ∷ l) (behind r p ps (ap is_lt e)))

there_above : (r q : Record) (p : PathStages) (ps : List PathStages) → p.name ≡ r.path
    → path_cmp q.path p.name ≡ Less → is_lt (path_cmp p.name q.path) ≡ false → p.name ≢ q.path → Swap r q (p ∷ ps)
there_above r q p ps e f l n =
    let less : path_cmp q.path r.path ≡ Less = ap (path_cmp q.path) (sym e) ∙ f in
    ap (recorded q) (at r p ps e) ∙ before q (with_side r p) ps l n
    ∙ sym (ap (recorded r) (before q p ps l n) ∙ behind r (new q) (p ∷ ps) (ap is_lt less)
    ∙ ap (λ l. new q ∷ l) (at r p ps e))

pub recorded_swap : (r q : Record) (ps : List PathStages) → AreSidesApart r q → Swap r q ps
recorded_swap r q [] a = front r q [] a (alone r) (alone q)
recorded_swap r q (p ∷ ps) a = by (stands r p) (stands q p) (recorded_swap r q ps a)
  where
    by : Stands r p → Stands q p → Swap r q ps → Swap r q (p ∷ ps)
    by (below e) (below f) rest =
        ap (recorded q) (behind r p ps (ap is_lt e)) ∙ behind q p (recorded r ps) (ap is_lt f) ∙ ap (λ l. p ∷ l) rest
        ∙ sym (ap (recorded r) (behind q p ps (ap is_lt f)) ∙ behind r p (recorded q ps) (ap is_lt e))
    by (below e) (there f) rest = below_there r q p ps e f
    by (below e) (above f l n) rest = below_above r q p ps e f l n
    by (there e) (below f) rest = sym (below_there q r p ps f e)
    by (there e) (there f) rest =
        ap (recorded q) (at r p ps e) ∙ at q (with_side r p) ps f
        ∙ ap (λ x. x ∷ ps) (sides_swap r q p a (sym e ∙ f))
        ∙ sym (ap (recorded r) (at q p ps f) ∙ at r (with_side q p) ps e)
    by (there e) (above f l n) rest = there_above r q p ps e f l n
    by (above e l n) (below f) rest = sym (below_above q r p ps f e l n)
    by (above e l n) (there f) rest = sym (there_above q r p ps f e l n)
    by (above e l n) (above f m o) rest = front r q (p ∷ ps) a (before r p ps l n) (before q p ps m o)
