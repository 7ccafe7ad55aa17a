-- The number of binary digits of a number, by which a search's comparisons are bounded (the library's own).
use Rattle.std.specs.Prelude.{ℕ, zero, suc, ◌/◌}

-- the number of binary digits of m: one more than that of its half; n bounds the number of halvings
abbrev pub digits_within : ℕ → ℕ → ℕ
digits_within zero m = 0
digits_within (suc n) zero = 0
digits_within (suc n) (suc m) = suc (digits_within n (suc m / 2))

-- the number of binary digits of n, and 0 for 0
unfoldable pub digits : ℕ → ℕ
digits n = digits_within n n
