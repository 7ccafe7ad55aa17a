-- What is put together from its end, piece by piece.
use Rattle.std.proofs.Common.{◌≡◌, ℕ, ◌+◌, List, ◌++◌, length, ap, sym, ◌∙◌, append_assoc, length-append, arith}

pub four_before : (w x y z from one two three all : List ℕ) → one ≡ z ++ from → two ≡ y ++ one → three ≡ x ++ two
    → all ≡ w ++ three → all ≡ (((w ++ x) ++ y) ++ z) ++ from
four_before w x y z from one two three all a b c d =
    d ∙ ap (λ (l : List ℕ). w ++ l) (c ∙ ap (λ (l : List ℕ). x ++ l) (b ∙ ap (λ (l : List ℕ). y ++ l) a))
    ∙ sym (append_assoc w x (y ++ (z ++ from))) ∙ sym (append_assoc (w ++ x) y (z ++ from))
    ∙ sym (append_assoc ((w ++ x) ++ y) z from)

pub length_four : (w x y z : List ℕ) (end one two three all : ℕ) → one + length z ≡ end → two + length y ≡ one
    → three + length x ≡ two → all + length w ≡ three → all + length (((w ++ x) ++ y) ++ z) ≡ end
length_four w x y z end one two three all a b c d =
    omega (arith, length-append ((w ++ x) ++ y) z, length-append (w ++ x) y, length-append w x)
