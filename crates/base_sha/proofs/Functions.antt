-- The functions of the rounds (FIPS 180-4, section 4.1.1), in the forms that are computed.
use Rattle.std.proofs.Common.{◌≡◌, ℕ, ◌+◌, ◌%◌, ◌<◌, ◌^◌, bit_and, bit_xor, arith, sym, ◌∙◌}
use Rattle.std.specs.Int.{w32, bit_not}
use Rattle.std.specs.Int.Bits.{xor_disjoint}
use Rattle.std.proofs.lemmas.Nat.{xor_lt, and_le_l}
use Rattle.std.proofs.lemmas.Nat.Bits.{bit_at-lt, bit_at-zero, bit_at_and, bit_at_not, bit_at_xor, same_from_bits, same_from_bits_below}
use Rattle.sha1.specs.Sha1.{ch, maj}

pub ch_by_xor : (x y z : ℕ) → x < 2 ^ 32 → y < 2 ^ 32 → z < 2 ^ 32 → bit_xor z (bit_and x (bit_xor y z)) ≡ ch x y z
ch_by_xor x y z hx hy hz =
    let hn : bit_not w32 x < 2 ^ 32 = omega arith in
    same_from_bits_below 32 _ _ (xor_lt 32 z (bit_and x (bit_xor y z)) hz (omega (arith, and_le_l x (bit_xor y z)))) (xor_lt 32 (bit_and x y) (bit_and (bit_not w32 x) z) (omega (arith, and_le_l x y)) (omega (arith, and_le_l (bit_not w32 x) z))) (λ i lt.
    rw (bit_at_xor z (bit_and x (bit_xor y z)) i, bit_at_and x (bit_xor y z) i, bit_at_xor y z i, bit_at_xor (bit_and x y) (bit_and (bit_not w32 x) z) i, bit_at_and x y i, bit_at_and (bit_not w32 x) z i, bit_at_not w32 x i hx lt)
    (omega (arith, bit_at-lt x i, bit_at-lt y i, bit_at-lt z i)))

-- no bit is in both x and y and also in z and exactly one of them
apart : (x y z : ℕ) → bit_and (bit_and x y) (bit_and z (bit_xor x y)) ≡ 0
apart x y z = same_from_bits _ 0 (λ i.
    rw (bit_at-zero i, bit_at_and (bit_and x y) (bit_and z (bit_xor x y)) i, bit_at_and x y i, bit_at_and z (bit_xor x y) i, bit_at_xor x y i)
    (omega (arith, bit_at-lt x i, bit_at-lt y i, bit_at-lt z i)))

maj_by_xor : (x y z : ℕ) → bit_xor (bit_and x y) (bit_and z (bit_xor x y)) ≡ maj x y z
maj_by_xor x y z = same_from_bits _ _ (λ i.
    rw (bit_at_xor (bit_and x y) (bit_and z (bit_xor x y)) i, bit_at_and z (bit_xor x y) i, bit_at_xor x y i, bit_at_xor (bit_xor (bit_and x y) (bit_and x z)) (bit_and y z) i, bit_at_xor (bit_and x y) (bit_and x z) i, bit_at_and x y i, bit_at_and x z i, bit_at_and y z i)
    (omega (arith, bit_at-lt x i, bit_at-lt y i, bit_at-lt z i)))

pub maj_by_wrapping_sum : (x y z : ℕ) → x < 2 ^ 32 → z < 2 ^ 32 → (bit_and x y + bit_and z (bit_xor x y)) % 2 ^ 32 ≡ maj x y z
maj_by_wrapping_sum x y z hx hz =
    let whole : bit_xor (bit_and x y) (bit_and z (bit_xor x y)) ≡ bit_and x y + bit_and z (bit_xor x y) = xor_disjoint (bit_and x y) (bit_and z (bit_xor x y)) (apart x y z) in
    let fits : bit_xor (bit_and x y) (bit_and z (bit_xor x y)) < 2 ^ 32 = xor_lt 32 (bit_and x y) (bit_and z (bit_xor x y)) (omega (arith, and_le_l x y)) (omega (arith, and_le_l z (bit_xor x y))) in
    let stays : (bit_and x y + bit_and z (bit_xor x y)) % 2 ^ 32 ≡ bit_and x y + bit_and z (bit_xor x y) = omega arith in
    stays ∙ sym whole ∙ maj_by_xor x y z
