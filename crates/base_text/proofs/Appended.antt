-- What is appended piece by piece.
use Rattle.std.proofs.Common.{◌≡◌, ℕ, List, ◌++◌, length, map, take, ap, sym, ◌∙◌, ◌≤◌, append_assoc, Result, Ok, Err}
use Rattle.std.specs.Prelude.{OnOk, flat_map, if◌then◌else◌}
use Rattle.std.specs.Result.{is_ok}
use Rattle.std.proofs.lemmas.List.{take_all}
use Rattle.std.proofs.lemmas.List.Folds.{flat_map-map}

pub on_ok_items : {A E : Type 0} (r : Result A E) (new all old : List ℕ)
    → new ≡ (if is_ok r then all else old) → OnOk r (new ≡ all)
on_ok_items (Ok x) new all old e = e
on_ok_items (Err x) new all old e = tt

pub two_more : (old a b x y : List ℕ) → a ≡ old ++ x → b ≡ a ++ y → b ≡ old ++ (x ++ y)
two_more old a b x y e f = f ∙ ap (λ (l : List ℕ). l ++ y) e ∙ append_assoc old x y

pub four_more : (old a b c d w x y z : List ℕ) → a ≡ old ++ w → b ≡ a ++ x → c ≡ b ++ y → d ≡ c ++ z
    → d ≡ old ++ (((w ++ x) ++ y) ++ z)
four_more old a b c d w x y z e f g h =
    two_more old c d ((w ++ x) ++ y) z (two_more old b c (w ++ x) y (two_more old a b w x e f) g) h

-- the lines of items are those of their values
pub mapped_all : {X Y : Type 0} (f : Y → List ℕ) (g : X → Y) (old new : List ℕ) (items : List X)
    (values : List Y) (i : ℕ) → length items ≤ i → map g items ≡ values
    → new ≡ old ++ flat_map (λ x. f (g x)) (take i items) → new ≡ old ++ flat_map f values
mapped_all {X} f g old new items values i le e h =
    h ∙ ap (λ (xs : List X). old ++ flat_map (λ x. f (g x)) xs) (take_all i items le)
    ∙ ap (λ (l : List ℕ). old ++ l) (sym (flat_map-map f g items) ∙ ap (flat_map f) e)
