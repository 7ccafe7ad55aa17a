-- When a path continues after a directory and a slash, with case ignored.
use Rattle.std.proofs.Common.{◌≡◌, ◌<◌, ◌∙◌, ℕ, ◌+◌, List, [], ◌∷◌, ◌++◌, Bool, true, false, cond, nat_eq, length, get_or, map, not}
use Rattle.std.proofs.Common.{take, ap, refl, subst, sym}
use Rattle.std.proofs.lemmas.List.{length-map}
use Rattle.std.specs.Prelude.{position}
use Rattle.std.specs.List.{position_or_len}
use Rattle.std.specs.List.{starts_with}
use Rattle.entry_lookup.specs.Folded.{folded}
use Rattle.entry_lookup.proofs.TableMade.{begins_at, begins_to, folded_length, folded_take, slash_from, slash_to}

-- the path begins with the directory and a slash, in any case
abbrev pub GoesOn : List ℕ → List ℕ → Type 0
GoesOn path dir = starts_with nat_eq (folded true path) (folded true dir ++ 47 ∷ []) ≡ true

pub goes_from : (path dir : List ℕ) → GoesOn path dir
    → (length dir < length path) × (get_or path (length dir) 0 ≡ 47)
    × (folded true (take (length dir) path) ≡ folded true dir)
goes_from path dir t =
    let h = begins_at (folded true dir) (folded true path) 47 t in
    let n : length (folded true dir) ≡ length dir = folded_length true dir in
    let m : length (folded true path) ≡ length path = folded_length true path in (
      rw (n, m) at h.0,
      slash_from true path (length dir) (rw n at h.1),
      folded_take true (length dir) path ∙ (rw n at h.2),
    )

pub goes_to : (path dir : List ℕ) → length dir < length path → get_or path (length dir) 0 ≡ 47
    → folded true (take (length dir) path) ≡ folded true dir → GoesOn path dir
goes_to path dir within slash same =
    let m : length path ≡ length (folded true path) = sym (folded_length true path) in
    subst (λ (xs : List ℕ). starts_with nat_eq (folded true path) (xs ++ 47 ∷ []) ≡ true)
    (sym (folded_take true (length dir) path) ∙ same)
    (begins_to (folded true path) (length dir) 47 (rw m at within) (slash_to true path (length dir) slash))

-- what is true together is the same
pub same_truth : (a b : Bool) → (a ≡ true → b ≡ true) → (b ≡ true → a ≡ true) → a ≡ b
same_truth true b f g = sym (f refl)
same_truth false true f g = g refl
same_truth false false f g = refl

-- ---- the first of a list

or_len_map : {A B : Type 0} (p : B → Bool) (f : A → B) (xs : List A)
    → position_or_len p (map f xs) ≡ position_or_len (λ x. p (f x)) xs
or_len_map p f [] = refl
or_len_map p f (x ∷ xs) = ap (λ (n : ℕ). cond (not (p (f x))) (1 + n) 0) (or_len_map p f xs)

-- the first place at which it holds of what the elements are made to
pub position_map : {A B : Type 0} (p : B → Bool) (f : A → B) (xs : List A)
    → position p (map f xs) ≡ position (λ x. p (f x)) xs
position_map p f xs = rw (or_len_map p f xs, length-map xs f) refl
