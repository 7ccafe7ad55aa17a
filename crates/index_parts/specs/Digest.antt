-- The digest of a list of bytes (FIPS 180-4), and the bytes that a hasher has taken in.
use Rattle.std.specs.Prelude.{◌≡◌, ℕ, zero, suc, List}
use Rattle.sha1.specs.Sha1.{sha1}
use Rattle.sha2.specs.Sha256.{sha256}
use Rattle.base_sha.specs.Hasher.{HoldsSha1, HoldsSha256}
use Rattle.index_parts.specs.declared.hash.Kind.{Kind}
use Rattle.index_parts.specs.declared.hash.Kind.TheVariants as kinds
use Rattle.index_parts.specs.declared.hash.Hasher.{Hasher}
use Rattle.index_parts.specs.declared.hash.Hasher.TheVariants as hashers

-- The message digest: SHA-1 (section 6.1) or SHA-256 (section 6.2), which are defined below 2 ^ 64 bits. For a longer
-- message the padding has the number of bits modulo 2 ^ 64.
abbrev pub digest : Kind → List ℕ → List ℕ
digest kinds.Sha1 message = sha1 message
digest kinds.Sha256 message = sha256 message

-- the hash algorithm of a hasher
abbrev pub hasher_kind : Hasher → Kind
hasher_kind (hashers.Sha1 state) = kinds.Sha1
hasher_kind (hashers.Sha256 state) = kinds.Sha256

-- the hasher has taken in these bytes
abbrev pub Holds : Hasher → List ℕ → Type 0
Holds (hashers.Sha1 state) message = HoldsSha1 state message
Holds (hashers.Sha256 state) message = HoldsSha256 state message

-- the bytes that a hasher over others has taken in, at depth 0, and those of the hashers below it
abbrev pub hashed_over : Hasher → (ℕ → Kind → List ℕ → Type 0) → ℕ → Kind → List ℕ → Type 0
hashed_over hasher below zero k message = (hasher_kind hasher ≡ k) × Holds hasher message
hashed_over hasher below (suc depth) k message = below depth k message
