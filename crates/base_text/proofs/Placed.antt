-- The lines of a list of which each item has its place before it.
use Rattle.std.proofs.Common.{◌≡◌, ℕ, suc, ◌+◌, ◌<◌, ◌≤◌, List, [], ◌∷◌, ◌++◌, length, map, take, get_or, refl, sym, ap}
use Rattle.std.proofs.Common.{◌∙◌, append_assoc, append-nil, arith}
use Rattle.std.proofs.lemmas.List.{length-take-le, take_more, take_all}
use Rattle.std.proofs.lemmas.List.Concat.{flat_map-cons}
use Rattle.std.specs.List.{enumerate_from, flat_map}

-- one more after the others
placed_last : {X : Type 0} (f : ℕ × X → List ℕ) (k : ℕ) (xs : List X) (x : X)
    → flat_map f (enumerate_from k (xs ++ x ∷ [])) ≡ flat_map f (enumerate_from k xs) ++ f (k + length xs, x)
placed_last f k [] x = let e : k + 0 ≡ k = omega arith in rw e (flat_map-cons f (k, x) [] ∙ append-nil (f (k, x)))
placed_last f k (y ∷ xs) x =
    let e : k + 1 + length xs ≡ k + suc (length xs) = omega arith in
    flat_map-cons f (k, y) (enumerate_from (k + 1) (xs ++ x ∷ []))
    ∙ ap (λ (l : List ℕ). f (k, y) ++ l)
    (placed_last f (k + 1) xs x ∙ ap (λ (n : ℕ). flat_map f (enumerate_from (k + 1) xs) ++ f (n, x)) e)
    ∙ sym (append_assoc (f (k, y)) (flat_map f (enumerate_from (k + 1) xs)) (f (k + suc (length xs), x)))
    ∙ ap (λ (l : List ℕ). l ++ f (k + suc (length xs), x)) (sym (flat_map-cons f (k, y) (enumerate_from (k + 1) xs)))

placed_behind : {X : Type 0} (f : ℕ × X → List ℕ) (xs : List X) (x : X)
    → flat_map f (enumerate_from 0 (xs ++ x ∷ [])) ≡ flat_map f (enumerate_from 0 xs) ++ f (length xs, x)
placed_behind f xs x =
    let e : 0 + length xs ≡ length xs = omega arith in
    placed_last f 0 xs x ∙ ap (λ (n : ℕ). flat_map f (enumerate_from 0 xs) ++ f (n, x)) e

-- the lines up to a place, and those of this place
pub placed_more : {X : Type 0} (f : ℕ × X → List ℕ) (xs : List X) (i : ℕ) (d : X) (old mid new : List ℕ)
    → i < length xs → mid ≡ old ++ flat_map f (enumerate_from 0 (take i xs)) → new ≡ mid ++ f (i, get_or xs i d)
    → new ≡ old ++ flat_map f (enumerate_from 0 (take (i + 1) xs))
placed_more f xs i d old mid new lt a b =
    let all = flat_map f (enumerate_from 0 (take i xs)) in
    b ∙ ap (λ (l : List ℕ). l ++ f (i, get_or xs i d)) a ∙ append_assoc old all (f (i, get_or xs i d))
    ∙ ap (λ (l : List ℕ). old ++ l) (
    ap (λ (n : ℕ). all ++ f (n, get_or xs i d)) (sym (length-take-le i xs (omega arith)))
    ∙ sym (placed_behind f (take i xs) (get_or xs i d))
    ∙ ap (λ (l : List _). flat_map f (enumerate_from 0 l)) (sym (take_more xs i d lt)))

-- the lines of items are those of their values
pub placed_map : {X Y : Type 0} (f : ℕ × Y → List ℕ) (g : X → Y) (k : ℕ) (xs : List X)
    → flat_map (λ (p : ℕ × X). f (p.0, g p.1)) (enumerate_from k xs) ≡ flat_map f (enumerate_from k (map g xs))
placed_map f g k [] = refl
placed_map {X} f g k (x ∷ xs) =
    flat_map-cons (λ (p : ℕ × X). f (p.0, g p.1)) (k, x) (enumerate_from (k + 1) xs)
    ∙ ap (λ (l : List ℕ). f (k, g x) ++ l) (placed_map f g (k + 1) xs)
    ∙ sym (flat_map-cons f (k, g x) (enumerate_from (k + 1) (map g xs)))

-- the lines of all
pub placed_all : {X Y : Type 0} (f : ℕ × Y → List ℕ) (g : X → Y) (old new : List ℕ) (items : List X) (i : ℕ)
    → length items ≤ i → new ≡ old ++ flat_map (λ (p : ℕ × X). f (p.0, g p.1)) (enumerate_from 0 (take i items))
    → new ≡ old ++ flat_map f (enumerate_from 0 (map g items))
placed_all {X} f g old new items i le h =
    let lines : List X → List ℕ = λ xs. flat_map (λ (p : ℕ × X). f (p.0, g p.1)) (enumerate_from 0 xs) in
    h ∙ ap (λ (xs : List X). old ++ lines xs) (take_all i items le)
    ∙ ap (λ (l : List ℕ). old ++ l) (placed_map f g 0 items)
