-- One more binary digit is a doubling.
use Rattle.std.proofs.Common.{◌≡◌, ℕ, zero, suc, ◌+◌, ◌*◌, ◌/◌, ◌^◌, ◌<◌, ◌≤◌, refl, ap, arith, lit<, lit≤}
use Rattle.std.proofs.Math.Nat.{pow-succ'}
use Rattle.base_search.specs.Digits.{digits_within, digits}

within_same : (f g n : ℕ) → n ≤ f → n ≤ g → digits_within f n ≡ digits_within g n
within_same zero zero n h k = refl
within_same zero (suc g) zero h k = refl
within_same zero (suc g) (suc n) h k = absurd (omega arith)
within_same (suc f) zero zero h k = refl
within_same (suc f) zero (suc n) h k = absurd (omega arith)
within_same (suc f) (suc g) zero h k = refl
within_same (suc f) (suc g) (suc n) h k = ap suc (within_same f g (suc n / 2) (omega arith) (omega arith))

within_rises : (f m n : ℕ) → m ≤ n → digits_within f m ≤ digits_within f n
within_rises zero m n h = omega arith
within_rises (suc f) zero n h = omega arith
within_rises (suc f) (suc m) zero h = absurd (omega arith)
within_rises (suc f) (suc m) (suc n) h = omega (arith, within_rises f (suc m / 2) (suc n / 2) (omega arith))

pub digits-half : (n : ℕ) → 0 < n → digits n ≡ digits (n / 2) + 1
unfolding digits
digits-half zero h = absurd (omega arith)
digits-half (suc m) h = omega (arith, within_same m (suc m / 2) (suc m / 2) (omega arith) (omega arith))

pub digits_rise : (m n : ℕ) → m ≤ n → digits m ≤ digits n
unfolding digits
digits_rise m n h = omega (arith, within_same m n m (omega arith) h, within_rises n m n h)

-- what is left after one comparison in the middle has a digit less
pub digits_left : (rest n : ℕ) → 0 < n → rest ≤ n / 2 → digits rest + 1 ≤ digits n
digits_left rest n some half = omega (arith, digits-half n some, digits_rise rest (n / 2) half)

within_small : (f n : ℕ) → digits_within f n ≤ n
within_small zero n = omega arith
within_small (suc f) zero = omega arith
within_small (suc f) (suc n) = omega (arith, within_small f (suc n / 2))

pub digits_small : (n : ℕ) → digits n ≤ n
unfolding digits
digits_small n = within_small n n

-- ---- between which powers of two a number is

within_below : (f n : ℕ) → n ≤ f → n < 2 ^ digits_within f n
within_below zero zero h = lit< tt
within_below zero (suc n) h = absurd (omega arith)
within_below (suc f) zero h = lit< tt
within_below (suc f) (suc n) h =
    omega (arith, within_below f (suc n / 2) (omega arith), pow-succ' 2 (digits_within f (suc n / 2)))

within_above : (f n : ℕ) → n ≤ f → 0 < n → 2 ^ digits_within f n ≤ 2 * n
within_above f zero h some = absurd (omega arith)
within_above zero (suc n) h some = absurd (omega arith)
within_above (suc zero) (suc zero) h some = lit≤ tt
within_above (suc zero) (suc (suc n)) h some = absurd (omega arith)
within_above (suc (suc f)) (suc zero) h some = lit≤ tt
within_above (suc (suc f)) (suc (suc n)) h some =
    omega (
      arith,
      within_above (suc f) (suc (suc n) / 2) (omega arith) (omega arith),
      pow-succ' 2 (digits_within (suc f) (suc (suc n) / 2)),
    )

pub digits_below : (n : ℕ) → n < 2 ^ digits n
unfolding digits
digits_below n = within_below n n (omega arith)

pub digits_above : (n : ℕ) → 0 < n → 2 ^ digits n ≤ 2 * n
unfolding digits
digits_above n some = within_above n n (omega arith) some

-- a search of a window makes no more comparisons than half of it and one
pub count_small : (m n count : ℕ) → m ≡ n → 0 < n → count ≤ digits m → count ≤ n / 2 + 1
count_small m n count e some h =
    let same : digits m ≡ digits n = ap digits e in
    omega (arith, same, h, digits-half n some, digits_small (n / 2))
