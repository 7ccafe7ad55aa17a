-- Three that are put at the end of a list, one after another.
use Rattle.std.proofs.Common.{◌≡◌, List, [], ◌∷◌, ◌++◌, append_assoc, ap, ◌∙◌}
use Rattle.std.specs.Prelude.{OnOk, Result, Ok, Err}

pub three_pushed : {A : Type 0} (l l1 l2 l3 : List A) (a b c : A) → l1 ≡ l ++ a ∷ [] → l2 ≡ l1 ++ b ∷ []
    → l3 ≡ l2 ++ c ∷ [] → l3 ≡ l ++ a ∷ (b ∷ (c ∷ []))
three_pushed l l1 l2 l3 a b c e1 e2 e3 =
    e3 ∙ (ap (λ x. x ++ c ∷ []) (e2 ∙ (ap (λ x. x ++ b ∷ []) e1 ∙ append_assoc l (a ∷ []) (b ∷ [])))
    ∙ append_assoc l (a ∷ b ∷ []) (c ∷ []))

pub on_ok : {T E P : Type 0} (r : Result T E) → P → OnOk r P
on_ok (Ok x) p = p
on_ok (Err e) p = tt
