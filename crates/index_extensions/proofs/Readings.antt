-- What is read of bytes, decided: a value, or that there is none.
use Rattle.std.proofs.Common.{◌≡◌, ℕ, true, false, eqb, ◌⊎◌, inl, inr, List, Option, Some, None, refl, sym, ap, ◌∙◌}
use Rattle.std.proofs.lemmas.Bool.{eqb-true, eqb-false}
use Rattle.index_extensions.specs.ExtensionValue.{IsRead, IsValue}

-- a value that is so, or that no value is
abbrev pub Decided : {A : Type 0} → (A → Type 0) → Type 0
Decided {A} P = ((x : A) × P x) ⊎ ((x : A) → P x → ⊥)

pub same_or_not : (m n : ℕ) → (m ≡ n) ⊎ (m ≡ n → ⊥)
same_or_not m n = elim (eqb m n) as (λ t. eqb m n ≡ t
    → (m ≡ n) ⊎ (m ≡ n → ⊥)) [ true ↦ λ e. inl (eqb-true m n e) | false ↦ λ e. inr (eqb-false m n e) ] refl

pub read_of : {A : Type 0} (Is : List ℕ → A → Type 0) (bytes : List ℕ) → Decided (Is bytes)
    → (v : Option A) × IsRead Is bytes v
read_of Is bytes (inl h) = (Some h.0, h.1)
read_of Is bytes (inr refused) = (None, refused)

-- if bytes encode at most one value, they are read in one way
pub one_read : {A : Type 0} (Is : List ℕ → A → Type 0) (bytes : List ℕ) → ((x y : A) → Is bytes x → Is bytes y → x ≡ y)
    → (v w : Option A) → IsRead Is bytes v → IsRead Is bytes w → v ≡ w
one_read Is bytes one None None p q = refl
one_read Is bytes one None (Some y) p q = absurd (p y q)
one_read Is bytes one (Some x) None p q = absurd (q x p)
one_read Is bytes one (Some x) (Some y) p q = ap Some (one x y p q)

-- what a content encodes is decided if it is for all bytes
pub value_reading : {A : Type 0} (Is : List ℕ → A → Type 0) → ((bytes : List ℕ) → (v : Option A) × IsRead Is bytes v)
    → (content : Option (List ℕ)) → (v : Option A) × IsValue Is content v
value_reading Is reading None = (None, refl)
value_reading Is reading (Some bytes) = reading bytes

-- and is one value
pub one_value : {A : Type 0} (Is : List ℕ → A → Type 0)
    → ((bytes : List ℕ) (v w : Option A) → IsRead Is bytes v → IsRead Is bytes w → v ≡ w)
    → (content : Option (List ℕ)) (v w : Option A) → IsValue Is content v → IsValue Is content w → v ≡ w
one_value Is one None v w h k = h ∙ sym k
one_value Is one (Some bytes) v w h k = one bytes v w h k
