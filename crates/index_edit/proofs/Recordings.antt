-- A side that is put at the place of its path is recorded.
use Rattle.std.proofs.Common.{◌≡◌, ◌≢◌, ℕ, zero, suc, true, false, List, [], ◌∷◌, map, take}
use Rattle.std.proofs.Common.{All, get_or, refl, sym, ap, ◌∙◌, arith}
use Rattle.std.proofs.Math.ListN.{set}
use Rattle.std.proofs.lemmas.List.Elements.{All-head, All-tail}
use Rattle.std.specs.List.{insert}
use Rattle.std.specs.Ordering.{is_eq, is_lt}
use Rattle.std.specs.declared.cmp.Ordering.{Ordering}
use Rattle.std.specs.declared.cmp.Ordering.TheVariants.{Less, Equal, Greater}
use Rattle.entry_list.specs.Order.{path_cmp}
use Rattle.entry_list.specs.Record.{Record}
use Rattle.entry_list.proofs.Orders.{same_path}
use Rattle.ext_small.specs.ResolveUndo.{PathStages}
use Rattle.index_edit.specs.Recorded.{no_sides, recorded, with_side}
use Rattle.index_edit.specs.RecordingSteps.{IsHere, IsOther, IsPlaceFor, StandsBefore}

equal_is : (o : Ordering) → o ≡ Equal → (is_lt o ≡ false) × (is_eq o ≡ true)
equal_is Less e = cc
equal_is Equal e = (refl, refl)
equal_is Greater e = cc

other_is : (o : Ordering) → o ≢ Equal → is_eq o ≡ false
other_is Less n = refl
other_is Equal n = absurd (n refl)
other_is Greater n = refl

module _ (r : Record) (p : PathStages) (ps : List PathStages) where
  -- after a path that is before it
  pub behind : is_lt (path_cmp p.name r.path) ≡ true → recorded r (p ∷ ps) ≡ p ∷ recorded r ps
  unfolding recorded
  behind h = rw h refl

  -- at its path
  pub at : p.name ≡ r.path → recorded r (p ∷ ps) ≡ with_side r p ∷ ps
  unfolding recorded
  at e = let s = equal_is (path_cmp p.name r.path) ((same_path p.name r.path).1 e) in rw (s.0, s.1) refl

  -- before a path that is greater
  pub before : is_lt (path_cmp p.name r.path) ≡ false → p.name ≢ r.path
      → recorded r (p ∷ ps) ≡ with_side r (no_sides r.path) ∷ p ∷ ps
  unfolding recorded
  before l n =
      let s = other_is (path_cmp p.name r.path) (λ e. n ((same_path p.name r.path).0 e)) in rw (l, s) refl

pub alone : (r : Record) → recorded r [] ≡ with_side r (no_sides r.path) ∷ []
unfolding recorded
alone r = refl

module _ {X : Type 0} (f : X → PathStages) (r : Record) where
  over : (d u : X) (xs : List X) (i : ℕ) → All (StandsBefore f r.path) (take i xs)
      → IsHere f r.path xs i → f u ≡ with_side r (f (get_or xs i d)) → map f (set xs i u) ≡ recorded r (map f xs)
  over d u [] i h e is = absurd (omega (arith, e.0))
  over d u (x ∷ xs) zero h e is = ap (λ p. p ∷ map f xs) is ∙ sym (at r (f x) (map f xs) (e.1 d))
  over d u (x ∷ xs) (suc i) h e is =
      let P = StandsBefore f r.path in
      ap (λ ps. f x ∷ ps) (over d u xs i (All-tail P x (take i xs) h) (omega (arith, e.0), e.1) is)
      ∙ sym (behind r (f x) (map f xs) (All-head P x (take i xs) h))

  between : (u : X) (xs : List X) (i : ℕ) → IsPlaceFor f r.path xs i → IsOther f r.path xs i
      → f u ≡ with_side r (no_sides r.path) → map f (insert xs i u) ≡ recorded r (map f xs)
  between u [] zero p n is = ap (λ p. p ∷ []) is ∙ sym (alone r)
  between u [] (suc i) p n is = absurd (omega (arith, p.inside))
  between u (x ∷ xs) zero p n is =
      ap (λ q. q ∷ map f (x ∷ xs)) is
      ∙ sym (before r (f x) (map f xs) (p.here (omega arith) x) (n (omega arith) x))
  between u (x ∷ xs) (suc i) p n is =
      let P = StandsBefore f r.path in
      let rest : IsPlaceFor f r.path xs i = record {
        inside = omega (arith, p.inside);
        before = All-tail P x (take i xs) p.before;
        here = λ l. p.here (omega (arith, l));
      } in
      ap (λ ps. f x ∷ ps) (between u xs i rest (λ l. n (omega (arith, l))) is)
      ∙ sym (behind r (f x) (map f xs) (All-head P x (take i xs) p.before))

  -- over the path that is there
  pub recorded_over : (d u : X) (xs : List X) (i : ℕ) → IsPlaceFor f r.path xs i → IsHere f r.path xs i
      → f u ≡ with_side r (f (get_or xs i d)) → map f (set xs i u) ≡ recorded r (map f xs)
  recorded_over d u xs i p = over d u xs i p.before

  -- between the paths before it and those after it
  pub recorded_between : (u : X) (xs : List X) (i : ℕ) → IsPlaceFor f r.path xs i → IsOther f r.path xs i
      → f u ≡ with_side r (no_sides r.path) → map f (insert xs i u) ≡ recorded r (map f xs)
  recorded_between = between
