-- The blocks of a message (FIPS 180-4, section 5.2.1), and the hash value after some of them (sections 6.1.2 and
-- 6.2.2).
use Rattle.std.specs.Prelude.{ℕ, zero, suc, ◌*◌, ◌/◌, List, length, take, drop}
use Rattle.sha2.specs.Sha256.{padded_message}

-- block i of bytes
abbrev pub block : List ℕ → ℕ → List ℕ
block bytes i = take 64 (drop (i * 64) bytes)

-- the hash value after the first `count` blocks of these bytes were compressed into it, in order
unfoldable pub compressed : (List ℕ → List ℕ → List ℕ) → List ℕ → List ℕ → ℕ → List ℕ
compressed compress hash bytes zero = hash
compressed compress hash bytes (suc count) = compress (compressed compress hash bytes count) (block bytes count)

-- the hash value of a message: that of all its blocks, with the padding
abbrev pub hash_of : (List ℕ → List ℕ → List ℕ) → List ℕ → List ℕ → List ℕ
hash_of compress initial message =
    compressed compress initial (padded_message message) (length (padded_message message) / 64)
