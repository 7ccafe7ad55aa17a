-- Offsets in a bar.
use Rattle.std.proofs.Common.{◌≡◌, ℕ, suc, zero, ◌*◌, ◌/◌, ◌≤◌, arith}
use Rattle.std.proofs.Math.Nat.{div-le_of_le-mul, div-mul-le_self, div-zero, le-div_iff_mul-le, mul-le-mul_right}
use Rattle.std.specs.Prelude.{min}
use Rattle.view_layout.specs.Scale.{bar_width, scaled}

pub scaled_empty : (offset : ℕ) → scaled 0 offset ≡ 0
unfolding scaled
scaled_empty offset = div-zero (min offset 0 * 8800)

pub scaled_inside : (len offset : ℕ) → scaled len offset ≤ bar_width
unfolding scaled
scaled_inside len offset = div-le_of_le-mul len (mul-le-mul_right 8800 (omega arith))

divided_rises : (k a b : ℕ) → a ≤ b → a / k ≤ b / k
divided_rises zero a b le = omega (arith, div-zero a, div-zero b)
divided_rises (suc n) a b le =
    (le-div_iff_mul-le {k = suc n} {x = a / suc n} {y = b} (omega arith)).1
    (omega (arith, div-mul-le_self a (suc n), le))

-- a larger offset in a file isn't nearer to the begin of its bar
pub scaled_rises : (len a b : ℕ) → a ≤ b → scaled len a ≤ scaled len b
unfolding scaled
scaled_rises len a b le =
    divided_rises len (min a len * 8800) (min b len * 8800) (mul-le-mul_right 8800 (omega (arith, le)))
