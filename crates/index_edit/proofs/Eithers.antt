-- Bits of records that are set one after another.
use Rattle.std.proofs.Common.{◌≡◌, ℕ, zero, suc, ◌<◌, Bool, true, false, ◌||◌, List, [], ◌∷◌, All, length, map, refl, sym, ap, ◌∙◌, arith, get_or, replicate}
use Rattle.std.specs.Prelude.{slice_set}
use Rattle.std.proofs.lemmas.List.Elements.{All-head, All-tail}
use Rattle.index_edit.specs.DirtySteps.{either}

or_assoc : (a b c : Bool) → ((a || b) || c) ≡ (a || (b || c))
or_assoc true b c = refl
or_assoc false b c = refl

or_true : (a : Bool) → (a || true) ≡ true
or_true true = refl
or_true false = refl

or_false : (a : Bool) → (a || false) ≡ a
or_false true = refl
or_false false = refl

pub either_assoc : (ls bs cs : List Bool) → either (either ls bs) cs ≡ either ls (either bs cs)
either_assoc [] bs cs = refl
either_assoc (a ∷ ls) [] cs = refl
either_assoc (a ∷ ls) (b ∷ bs) [] = refl
either_assoc (a ∷ ls) (b ∷ bs) (c ∷ cs) =
    ap (λ x. x ∷ either (either ls bs) cs) (or_assoc a b c) ∙ ap (λ l. (a || (b || c)) ∷ l) (either_assoc ls bs cs)

module _ {X : Type 0} where
  pub either_map : (p q : X → Bool) (xs : List X) → either (map p xs) (map q xs) ≡ map (λ x. p x || q x) xs
  either_map p q [] = refl
  either_map p q (x ∷ xs) = ap (λ l. (p x || q x) ∷ l) (either_map p q xs)

  pub map_same : (p q : X → Bool) (xs : List X) → ((x : X) → p x ≡ q x) → map p xs ≡ map q xs
  map_same p q [] h = refl
  map_same p q (x ∷ xs) h = ap (λ b. b ∷ map p xs) (h x) ∙ ap (λ l. q x ∷ l) (map_same p q xs h)

  pub either_clear : (p : X → Bool) (xs : List X) → either (replicate (length xs) false) (map p xs) ≡ map p xs
  either_clear p [] = refl
  either_clear p (x ∷ xs) = ap (λ l. p x ∷ l) (either_clear p xs)

  -- if none is set, the bits are unchanged
  pub either_none : (p : X → Bool) (xs : List X) (ls : List Bool) → length ls ≡ length xs → All (λ x. p x ≡ false) xs
      → either ls (map p xs) ≡ ls
  either_none p [] [] e h = refl
  either_none p [] (a ∷ ls) e h = absurd (omega (arith, e))
  either_none p (x ∷ xs) [] e h = absurd (omega (arith, e))
  either_none p (x ∷ xs) (a ∷ ls) e h =
      let P : X → Type 0 = λ y. p y ≡ false in
      ap (λ b. (a || b) ∷ either ls (map p xs)) (All-head P x xs h)
      ∙ ap (λ b. b ∷ either ls (map p xs)) (or_false a)
      ∙ ap (λ l. a ∷ l) (either_none p xs ls (omega (arith, e)) (All-tail P x xs h))

  -- the bit at a place is set, and the test passes there alone
  pub either_set : (p : X → Bool) (xs : List X) (ls : List Bool) (i : ℕ) → length ls ≡ length xs → i < length xs
      → ((d : X) → p (get_or xs i d) ≡ true)
      → ((k : ℕ) (d : X) → k < length xs → p (get_or xs k d) ≡ true → k ≡ i)
      → slice_set ls i true ≡ either ls (map p xs)
  either_set p [] ls i e lt here only = absurd (omega (arith, lt))
  either_set p (x ∷ xs) [] i e lt here only = absurd (omega (arith, e))
  either_set p (x ∷ xs) (a ∷ ls) zero e lt here only =
      let others : All (λ y. p y ≡ false) xs = λ k d within. not_true (p (get_or xs k d)) (λ t.
      let bad = only (suc k) d (omega (arith, within)) t in absurd (omega (arith, bad))) in
      sym (ap (λ b. (a || b) ∷ either ls (map p xs)) (here x) ∙ ap (λ b. b ∷ either ls (map p xs)) (or_true a)
      ∙ ap (λ l. true ∷ l) (either_none p xs ls (omega (arith, e)) others))
    where
      not_true : (b : Bool) → (b ≡ true → ⊥) → b ≡ false
      not_true true h = absurd (h refl)
      not_true false h = refl
  either_set p (x ∷ xs) (a ∷ ls) (suc i) e lt here only =
      let first : p x ≡ false = not_true (p x) (λ t.
      let bad = only zero x (omega (arith, lt)) t in absurd (omega (arith, bad))) in
      sym (ap (λ b. (a || b) ∷ either ls (map p xs)) first ∙ ap (λ b. b ∷ either ls (map p xs)) (or_false a)
      ∙ ap (λ l. a ∷ l) (sym (either_set p xs ls i (omega (arith, e)) (omega (arith, lt)) here
      (λ k d within t. let same = only (suc k) d (omega (arith, within)) t in omega (arith, same)))))
    where
      not_true : (b : Bool) → (b ≡ true → ⊥) → b ≡ false
      not_true true h = absurd (h refl)
      not_true false h = refl
