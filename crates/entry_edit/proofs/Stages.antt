-- The stage that flags name, as a number.
use Rattle.std.proofs.Common.{◌≡◌, ℕ, ◌≤◌, ◌⊎◌, inl, inr, refl, arith}
use Rattle.std.proofs.lemmas.Nat.{and_le_r}
use Rattle.std.specs.Int.Bits.{bit_and}
use Rattle.entry_fields.specs.Flags.{stage_code, stage_named, stage_number, stage_of}

few : (n : ℕ) → n ≤ 3 → (n ≡ 0) ⊎ ((n ≡ 1) ⊎ ((n ≡ 2) ⊎ (n ≡ 3)))
few n h = grind arith

named : (n : ℕ) → (n ≡ 0) ⊎ ((n ≡ 1) ⊎ ((n ≡ 2) ⊎ (n ≡ 3))) → stage_code (stage_named n) ≡ n
named n (inl e) = rw e refl
named n (inr (inl e)) = rw e refl
named n (inr (inr (inl e))) = rw e refl
named n (inr (inr (inr e))) = rw e refl

at_most_three : (flags : ℕ) → stage_number flags ≤ 3
at_most_three flags = let h : bit_and flags 0x3000 ≤ 0x3000 = and_le_r flags 0x3000 in omega arith

-- the stage that flags name has their number
pub stage_is : (flags : ℕ) → stage_code (stage_of flags) ≡ stage_number flags
stage_is flags = named (stage_number flags) (few (stage_number flags) (at_most_three flags))
