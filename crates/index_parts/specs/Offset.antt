-- An offset number, a varint (gitformat-index, version 4: "encoded in the same encoding as the offset for OFS_DELTA
-- pack entries"): a digit of seven bits a byte, and a continuation bit in each byte but the last.
use Rattle.std.specs.Prelude.{◌≡◌, ℕ, zero, suc, ◌+◌, ◌-◌, ◌*◌, ◌/◌, ◌%◌, ◌^◌, ◌<◌, ◌≤◌, nat_lt, List, [], ◌∷◌, ◌++◌}
use Rattle.std.specs.Prelude.{length, if◌then◌else◌}

-- The continuation bit is bit 7. Each byte except the last has it, the last doesn't, and there is a last byte.
abbrev pub AreContinued : List ℕ → Type 0
AreContinued [] = ⊥
AreContinued (b ∷ []) = b < 128
AreContinued (b ∷ c ∷ bytes) = (128 ≤ b) × AreContinued (c ∷ bytes)

-- the number whose digits in base 128 are the low seven bits of the bytes
abbrev pub digits_value : List ℕ → ℕ
digits_value [] = 0
digits_value (b ∷ bytes) = (b % 128) * 128 ^ length bytes + digits_value bytes

-- 128 + 128 ^ 2 + .., a power for each byte except one
abbrev pub powers_sum : List ℕ → ℕ
powers_sum [] = 0
powers_sum (b ∷ []) = 0
powers_sum (b ∷ c ∷ bytes) = 128 ^ length (c ∷ bytes) + powers_sum (c ∷ bytes)

-- the bytes encode the number n, which has at most 64 bits
pub record IsOffset (bytes : List ℕ) (n : ℕ) : Type 0 where
  pub continued : AreContinued bytes
  pub value : n ≡ digits_value bytes + powers_sum bytes
  pub fits : n < 2 ^ 64

-- the bytes are an encoding of n, and the rest
pub record StartsWithOffset (bytes : List ℕ) (n : ℕ) (rest : List ℕ) : Type 0 where
  pub spelling : List ℕ
  pub parts : bytes ≡ spelling ++ rest
  pub is_offset : IsOffset spelling n

-- The bytes before the last one of a number's encoding, at most `most` of them. They encode the higher part less one,
-- with the continuation bit in each byte.
unfoldable pub continued_bytes : ℕ → ℕ → List ℕ
continued_bytes zero n = []
continued_bytes (suc most) n =
    if nat_lt n 128 then [] else continued_bytes most (n / 128 - 1) ++ (128 + (n / 128 - 1) % 128) ∷ []

-- the only encoding of a number of at most 64 bits; it has at most ten bytes
unfoldable pub offset_bytes : ℕ → List ℕ
offset_bytes n = continued_bytes 9 n ++ n % 128 ∷ []
