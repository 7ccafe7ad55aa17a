-- What two names begin with alike, with the case of letters ignored.
use Rattle.std.proofs.Common.{◌≡◌, ℕ, zero, suc, ◌+◌, ◌<◌, Bool, true, false, List, [], ◌∷◌, length, get_or, map, take}
use Rattle.std.proofs.Common.{drop, refl, sym, ap, ◌∙◌, subst, arith}
use Rattle.std.specs.Prelude.{◌==◌}
use Rattle.std.specs.Char.{to_ascii_lowercase}
use Rattle.std.specs.List.{take-map}
use Rattle.std.proofs.lemmas.Bool.Decides.{nat_tests}
use Rattle.std.proofs.lemmas.List.{length-map}
use Rattle.entry_list.specs.Shared.{shared_len}
use Rattle.entry_list.proofs.SharedFronts.{shared_behind, shared_front, shared_within, shared_within_second}
use Rattle.entry_lookup.specs.Folded.{folded}

pub shared_folded : (a b : List ℕ) (n : ℕ) → n ≡ shared_len a b
    → shared_len (folded true a) (folded true b) ≡ n + shared_len (drop n (folded true a)) (drop n (folded true b))
shared_folded a b n e = shared_behind n (folded true a) (folded true b)
    (omega (arith, e, shared_within a b, length-map a to_ascii_lowercase))
    (omega (arith, e, shared_within_second a b, length-map b to_ascii_lowercase))
    (take-map to_ascii_lowercase n a ∙ ap (map to_ascii_lowercase)
    (subst (λ (k : ℕ). take k a ≡ take k b) (sym e) (shared_front a b)) ∙ sym (take-map to_ascii_lowercase n b))

pub shared_more : (a b : List ℕ) (n : ℕ) → n < length a → n < length b
    → to_ascii_lowercase (get_or a n 0) ≡ to_ascii_lowercase (get_or b n 0)
    → shared_len (drop n (folded true a)) (drop n (folded true b))
    ≡ suc (shared_len (drop (n + 1) (folded true a)) (drop (n + 1) (folded true b)))
shared_more [] b n l u e = absurd (omega arith)
shared_more (x ∷ a) [] n l u e = absurd (omega arith)
shared_more (x ∷ a) (y ∷ b) zero l u e =
    let t : (to_ascii_lowercase x == to_ascii_lowercase y) ≡ true = grind (arith, nat_tests, e) in
    rw t refl
shared_more (x ∷ a) (y ∷ b) (suc n) l u e =
    let next : suc n + 1 ≡ suc (n + 1) = omega arith in
    rw next (shared_more a b n (omega arith) (omega arith) e)

pub shared_other : (a b : List ℕ) (n : ℕ) → n < length a → n < length b
    → (to_ascii_lowercase (get_or a n 0) ≡ to_ascii_lowercase (get_or b n 0) → ⊥)
    → shared_len (drop n (folded true a)) (drop n (folded true b)) ≡ 0
shared_other [] b n l u e = absurd (omega arith)
shared_other (x ∷ a) [] n l u e = absurd (omega arith)
shared_other (x ∷ a) (y ∷ b) zero l u e = by (to_ascii_lowercase x == to_ascii_lowercase y) refl
  where
    by : (t : Bool) → (to_ascii_lowercase x == to_ascii_lowercase y) ≡ t
        → shared_len (folded true (x ∷ a)) (folded true (y ∷ b)) ≡ 0
    by true t = let same : to_ascii_lowercase x ≡ to_ascii_lowercase y = grind (arith, nat_tests, t) in absurd (e same)
    by false t = rw t refl
shared_other (x ∷ a) (y ∷ b) (suc n) l u e = shared_other a b n (omega arith) (omega arith) e
