-- What is known of a list at one place.
use Rattle.std.proofs.Common.{◌≡◌, ℕ, ◌<◌, List, [], ◌∷◌, length, map, ◌∙◌, arith}
use Rattle.std.specs.List.{HoldsAt}
use Rattle.std.proofs.lemmas.List.{get_or-map, length-map}

-- an element, if the index is in range
pub some_of : {X : Type 0} (xs : List X) (i : ℕ) → i < length xs → X
some_of [] i within = absurd (omega arith)
some_of (x ∷ xs) i within = x

pub mapped_at : {X Y : Type 0} (f : X → Y) (xs : List X) (place : ℕ) (o : Y) → place < length (map f xs)
    → HoldsAt (λ x. f x ≡ o) xs place → HoldsAt (λ q. q ≡ o) (map f xs) place
mapped_at f [] place o inside h d = absurd (omega (arith, inside))
mapped_at f (x ∷ xs) place o inside h d =
    get_or-map f (x ∷ xs) place x d (omega (arith, inside, length-map (x ∷ xs) f)) ∙ h x
