-- What was split is joined again, and what is joined is split.
use Rattle.std.proofs.Common.{◌≡◌, ℕ, suc, ◌+◌, ◌<◌, ◌≤◌, Bool, true, false, cond, ltb, eqb, not, List, [], ◌∷◌, ◌++◌}
use Rattle.std.proofs.Common.{length, take, drop, Option, Some, None, All, refl, sym, ap, subst, ◌∙◌, append_assoc}
use Rattle.std.proofs.Common.{arith}
use Rattle.std.specs.Prelude.{◌≢◌, IfSome, IfNone}
use Rattle.std.specs.List.{position_or_len}
use Rattle.std.specs.Option.{option_map}
use Rattle.std.proofs.lemmas.Bool.{ltb-true, ltb-false, lt-ltb, le-ltb, eqb-true, eqb-false, eq-eqb}
use Rattle.std.proofs.lemmas.List.{take_at, drop_at, take-append-drop, length-append, length-take}
use Rattle.std.proofs.lemmas.List.Elements.{All-nil, All-cons, All-head, All-tail}
use Rattle.index_parts.specs.Numbers.{IsUpTo}
use Rattle.index_parts.specs.ReadingSteps.{piece_at, split_at_byte}
use Rattle.index_parts.proofs.Steps.{guard_some}

-- ---- a piece of a given size

pub piece_takes : (size : ℕ) (bytes : List ℕ) (x : List ℕ × List ℕ) → piece_at size bytes ≡ Some x
    → (bytes ≡ x.0 ++ x.1) × (length x.0 ≡ size)
piece_takes size bytes x e =
    let g = guard_some (ltb (length bytes) size) (take size bytes, drop size bytes) x e in
    let long : size ≤ length bytes = ltb-false _ _ g.0 in
    subst (λ (y : List ℕ × List ℕ). (bytes ≡ y.0 ++ y.1) × (length y.0 ≡ size)) g.1
    (sym (take-append-drop size bytes), omega (arith, length-take size bytes))

pub piece_again : (size : ℕ) (piece rest : List ℕ) → length piece ≡ size
    → piece_at size (piece ++ rest) ≡ Some (piece, rest)
piece_again size piece rest len =
    let long : ltb (length (piece ++ rest)) size ≡ false = le-ltb _ _ (omega (arith, length-append piece rest)) in
    rw (long, take_at piece rest size len, drop_at piece rest size len) refl

-- ---- up to a byte

-- the first b after a piece without it is at the piece's length
place_behind : (b : ℕ) (piece rest : List ℕ) → All (λ x. x ≢ b) piece
    → position_or_len (λ x. eqb x b) (piece ++ b ∷ rest) ≡ length piece
place_behind b [] rest h = rw (eq-eqb b b refl) refl
place_behind b (x ∷ piece) rest h =
    let other : eqb x b ≡ false = elim (eqb x b) as (λ v. eqb x b ≡ v → eqb x b
    ≡ false) [ true ↦ λ e. absurd (All-head (λ x. x ≢ b) x piece h (eqb-true x b e)) | false ↦ λ e. e ] refl in
    rw (other, place_behind b piece rest (All-tail (λ x. x ≢ b) x piece h)) (omega arith)

-- the first b is after n bytes
abbrev StandsAt : ℕ → ℕ → List ℕ → Type 0
StandsAt b n bytes = (bytes ≡ take n bytes ++ b ∷ drop (n + 1) bytes) × All (λ x. x ≢ b) (take n bytes)

stands_next : (b x n : ℕ) (bytes : List ℕ) → (x ≡ b → ⊥) → StandsAt b n bytes → StandsAt b (1 + n) (x ∷ bytes)
stands_next b x n bytes ne h =
    let one : 1 + n ≡ suc n = omega arith in
    let two : suc n + 1 ≡ suc (n + 1) = omega arith in
    rw (one, two) (ap (λ (t : List ℕ). x ∷ t) h.0, All-cons (λ y. y ≢ b) x (take n bytes) ne h.1)

stands_by : (b x : ℕ) (bytes : List ℕ) (n : ℕ) (t : Bool) → eqb x b ≡ t → cond (not t) (1 + n) 0 < length (x ∷ bytes)
    → (n < length bytes → StandsAt b n bytes) → StandsAt b (cond (not t) (1 + n) 0) (x ∷ bytes)
stands_by b x bytes n true e lt h = (ap (λ (y : ℕ). y ∷ bytes) (eqb-true x b e), All-nil (λ y. y ≢ b))
stands_by b x bytes n false e lt h = stands_next b x n bytes (eqb-false x b e) (h (omega arith))

stands : (b : ℕ) (bytes : List ℕ) → position_or_len (λ x. eqb x b) bytes < length bytes
    → StandsAt b (position_or_len (λ x. eqb x b) bytes) bytes
stands b [] lt = absurd (omega arith)
stands b (x ∷ bytes) lt = stands_by b x bytes (position_or_len (λ y. eqb y b) bytes) (eqb x b) refl lt (stands b bytes)

two_tests : {A : Type 0} (u t : Bool) (f : ℕ → A) (n : ℕ) (x : A)
    → cond u None (option_map f (cond t (Some n) None)) ≡ Some x → (u ≡ false) × (t ≡ true) × (f n ≡ x)
two_tests true t f n x e = absurd cc
two_tests false true f n x e = (refl, refl, cc)
two_tests false false f n x e = absurd cc

pub split_takes : (b : ℕ) (bytes : List ℕ) (x : List ℕ × List ℕ) → split_at_byte b bytes ≡ Some x
    → IsUpTo b bytes x.0 x.1
split_takes b bytes x e =
    let n = position_or_len (λ y. eqb y b) bytes in
    let g = two_tests (ltb (length bytes) 2) (ltb n (length bytes))
    (λ place. (take place bytes, drop (place + 1) bytes)) n x e in
    let at = stands b bytes (ltb-true _ _ g.1) in
    subst (λ (y : List ℕ × List ℕ). IsUpTo b bytes y.0 y.1) g.2
    (record { parts = at.0; apart = at.1; two = ltb-false _ _ g.0 })

pub split_again : (b : ℕ) (bytes piece rest : List ℕ) → IsUpTo b bytes piece rest
    → split_at_byte b bytes ≡ Some (piece, rest)
split_again b bytes piece rest u =
    let at : position_or_len (λ y. eqb y b) bytes ≡ length piece =
    ap (position_or_len (λ y. eqb y b)) u.parts ∙ place_behind b piece rest u.apart in
    let len : length bytes ≡ length piece + suc (length rest) = ap length u.parts ∙ length-append piece (b ∷ rest) in
    let first : ltb (length bytes) 2 ≡ false = le-ltb _ _ u.two in
    let second : ltb (length piece) (length bytes) ≡ true = lt-ltb _ _ (omega arith) in
    let front : take (length piece) bytes ≡ piece =
    ap (take (length piece)) u.parts ∙ take_at piece (b ∷ rest) (length piece) refl in
    let back : drop (length piece + 1) bytes ≡ rest =
    ap (drop (length piece + 1)) (u.parts ∙ sym (append_assoc piece (b ∷ []) rest))
    ∙ drop_at (piece ++ b ∷ []) rest (length piece + 1) (length-append piece (b ∷ [])) in
    rw (first, at, second, front, back) refl

-- ---- the properties of a split that is found, and the consequences if none is

pub found_split : {X : Type 0} (f : X → List ℕ × List ℕ) (b : ℕ) (bytes : List ℕ) (o : Option X)
    → option_map f o ≡ split_at_byte b bytes → IfSome o (λ x. IsUpTo b bytes (f x).0 (f x).1)
found_split f b bytes None e = tt
found_split f b bytes (Some x) e = split_takes b bytes (f x) (sym e)

pub no_split : {X : Type 0} (f : X → List ℕ × List ℕ) (b : ℕ) (bytes : List ℕ) (o : Option X)
    → option_map f o ≡ split_at_byte b bytes → IfNone o ((piece rest : List ℕ) → IsUpTo b bytes piece rest → ⊥)
no_split f b bytes None e = λ piece rest u. let g = e ∙ split_again b bytes piece rest u in cc
no_split f b bytes (Some x) e = tt

no_split_by : (b : ℕ) (bytes : List ℕ) (o : Option (List ℕ × List ℕ)) → split_at_byte b bytes ≡ o
    → ((piece rest : List ℕ) → IsUpTo b bytes piece rest → ⊥) → None ≡ split_at_byte b bytes
no_split_by b bytes None e none = sym e
no_split_by b bytes (Some x) e none = absurd (none x.0 x.1 (split_takes b bytes x e))

-- an answer that is right in both cases is the function's
pub split_exact : {X : Type 0} (f : X → List ℕ × List ℕ) (b : ℕ) (bytes : List ℕ) (o : Option X)
    → IfSome o (λ x. IsUpTo b bytes (f x).0 (f x).1) → IfNone o ((piece rest : List ℕ) → IsUpTo b bytes piece rest → ⊥)
    → option_map f o ≡ split_at_byte b bytes
split_exact f b bytes None found none = no_split_by b bytes (split_at_byte b bytes) refl none
split_exact f b bytes (Some x) found none = sym (split_again b bytes (f x).0 (f x).1 found)
