-- Pieces of text that are appended one after another.
use Rattle.std.proofs.Common.{◌≡◌, ℕ, List, ◌++◌, ap, sym, ◌∙◌, append_assoc}
use Rattle.std.specs.Prelude.{decimal}

-- a piece after others
pub piece_more : (old a b x y : List ℕ) → a ≡ old ++ x → b ≡ a ++ y → b ≡ old ++ (x ++ y)
piece_more old a b x y e f = f ∙ ap (λ (l : List ℕ). l ++ y) e ∙ append_assoc old x y

-- two that come at once
pub pair_more : (old a b x y z : List ℕ) → a ≡ old ++ x → b ≡ a ++ (y ++ z) → b ≡ old ++ ((x ++ y) ++ z)
pair_more old a b x y z e f =
    piece_more old a b x (y ++ z) e f ∙ ap (λ (l : List ℕ). old ++ l) (sym (append_assoc x y z))

-- a piece, and a number after it
pub number_is : (old a x : List ℕ) (m n : ℕ) → m ≡ n → a ≡ old ++ (x ++ decimal m) → a ≡ old ++ (x ++ decimal n)
number_is old a x m n e f = f ∙ ap (λ (k : ℕ). old ++ (x ++ decimal k)) e

-- a piece, by what it is
pub piece_is : (old a x y : List ℕ) → x ≡ y → a ≡ old ++ x → a ≡ old ++ y
piece_is old a x y e f = f ∙ ap (λ (l : List ℕ). old ++ l) e
