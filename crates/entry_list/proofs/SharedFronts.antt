-- What two paths begin with alike.
use Rattle.std.proofs.Common.{◌≡◌, ℕ, zero, suc, ◌+◌, ◌≤◌, ◌⊎◌, inl, inr, Bool, true, false, List, [], ◌∷◌, length}
use Rattle.std.proofs.Common.{take, drop, get_or, refl, ap, arith}
use Rattle.std.specs.Prelude.{◌==◌}
use Rattle.std.proofs.lemmas.Bool.Decides.{nat_tests}
use Rattle.entry_list.specs.Shared.{shared_len}

pub shared_end : (xs ys : List ℕ) → (length xs ≡ 0) ⊎ (length ys ≡ 0) → shared_len xs ys ≡ 0
shared_end [] ys h = refl
shared_end (x ∷ xs) [] h = refl
shared_end (x ∷ xs) (y ∷ ys) h = elim h [ inl e ↦ absurd (omega arith) | inr e ↦ absurd (omega arith) ]

-- after a common prefix of n bytes, the rest is compared
pub shared_behind : (n : ℕ) (xs ys : List ℕ) → n ≤ length xs → n ≤ length ys → take n xs ≡ take n ys
    → shared_len xs ys ≡ n + shared_len (drop n xs) (drop n ys)
shared_behind zero xs ys first second same = omega arith
shared_behind (suc n) [] ys first second same = absurd (omega (arith, first))
shared_behind (suc n) (x ∷ xs) [] first second same = absurd (omega (arith, second))
shared_behind (suc n) (x ∷ xs) (y ∷ ys) first second same =
    let tails = shared_behind n xs ys (omega (arith, first)) (omega (arith, second)) (ap (drop 1) same) in
    let heads : x ≡ y = ap (λ (zs : List ℕ). get_or zs 0 0) same in
    let equal : (x == y) ≡ true = grind (arith, nat_tests, heads) in
    rw equal (omega (arith, tails))

-- the front that both have is the same of each
pub shared_front : (xs ys : List ℕ) → take (shared_len xs ys) xs ≡ take (shared_len xs ys) ys
shared_front [] ys = refl
shared_front (x ∷ xs) [] = refl
shared_front (x ∷ xs) (y ∷ ys) = by (shared_front xs ys) (x == y) refl
  where
    by : take (shared_len xs ys) xs ≡ take (shared_len xs ys) ys → (b : Bool) → (x == y) ≡ b
        → take (shared_len (x ∷ xs) (y ∷ ys)) (x ∷ xs) ≡ take (shared_len (x ∷ xs) (y ∷ ys)) (y ∷ ys)
    by tails true e =
        let same : x ≡ y = grind (arith, nat_tests, e) in
        rw (e, same) (ap (λ (zs : List ℕ). y ∷ zs) tails)
    by tails false e = rw e refl

pub shared_within : (xs ys : List ℕ) → shared_len xs ys ≤ length xs
shared_within [] ys = omega arith
shared_within (x ∷ xs) [] = omega arith
shared_within (x ∷ xs) (y ∷ ys) = by (shared_within xs ys) (x == y) refl
  where
    by : shared_len xs ys ≤ length xs → (b : Bool) → (x == y) ≡ b → shared_len (x ∷ xs) (y ∷ ys) ≤ length (x ∷ xs)
    by tails true e = rw e (omega (arith, tails))
    by tails false e = rw e (omega arith)

pub shared_within_second : (xs ys : List ℕ) → shared_len xs ys ≤ length ys
shared_within_second [] ys = omega arith
shared_within_second (x ∷ xs) [] = omega arith
shared_within_second (x ∷ xs) (y ∷ ys) = by (shared_within_second xs ys) (x == y) refl
  where
    by : shared_len xs ys ≤ length ys → (b : Bool) → (x == y) ≡ b → shared_len (x ∷ xs) (y ∷ ys) ≤ length (y ∷ ys)
    by tails true e = rw e (omega (arith, tails))
    by tails false e = rw e (omega arith)
