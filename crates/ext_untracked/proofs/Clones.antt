-- Clones, item by item.
use Rattle.std.proofs.Common.{◌≡◌, ℕ, List, [], ◌∷◌, map, refl}
use Rattle.std.specs.List.{AllZip}
use Rattle.std.proofs.lemmas.List.Elements.{same_from_all_zip}

-- clones that have the values of their sources
pub same_values : {A B : Type 0} (R : A → A → Type 0) (f : A → B) → ((x y : A) → R x y → f y ≡ f x) → (xs ys : List A)
    → AllZip R xs ys → map f ys ≡ map f xs
same_values R f each [] [] h = refl
same_values R f each [] (y ∷ ys) h = absurd h
same_values R f each (x ∷ xs) [] h = absurd h
same_values R f each (x ∷ xs) (y ∷ ys) h =
    let first : f y ≡ f x = each x y h.0 in
    let others : map f ys ≡ map f xs = same_values R f each xs ys h.1 in
    rw (first, others) refl

pub same_numbers : (xs ys : List ℕ) → AllZip (λ x y. y ≡ x) xs ys → ys ≡ xs
same_numbers xs ys h = same_from_all_zip (λ (x : ℕ) (y : ℕ). y ≡ x) xs ys h (λ x y e. e)
