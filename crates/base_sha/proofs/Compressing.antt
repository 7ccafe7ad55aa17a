-- The hash value after some blocks of a message, from any hash value on.
use Rattle.std.proofs.Common.{◌≡◌, ℕ, zero, suc, ◌+◌, ◌-◌, ◌*◌, ◌≤◌, List, ◌++◌, length, take, drop, slice_index, refl, sym, ap, ◌∙◌, arith, add-one, add-zero, zero-add}
use Rattle.std.proofs.lemmas.List.{drop-append-le, drop-drop, drop-take, drop_all, take-take, take_all, take_at}
use Rattle.std.specs.Int.{w32, to_be_bytes}
use Rattle.sha1.specs.Sha1 as S1
use Rattle.sha2.specs.Sha256 as S2
use Rattle.base_sha.specs.Blocks.{block, compressed}

-- a block of a part of the bytes
pub block_of_part : (bytes part : List ℕ) (a n len : ℕ) → part ≡ take len (drop (a * 64) bytes) → n * 64 + 64 ≤ len → block part n ≡ block bytes (a + n)
block_of_part bytes part a n len e fits =
    let behind : ℕ = len - n * 64 in
    let split : len ≡ n * 64 + behind = omega arith in
    let at : a * 64 + n * 64 ≡ (a + n) * 64 = omega arith in
    rw (e, split, drop-take (n * 64) behind (drop (a * 64) bytes), take-take 64 behind (drop (n * 64) (drop (a * 64) bytes)) (omega arith), drop-drop (n * 64) (a * 64) bytes, at) refl

module _ (compress : List ℕ → List ℕ → List ℕ) where
  pub compressed_none : (hash bytes : List ℕ) → compressed compress hash bytes 0 ≡ hash
  unfolding compressed
  compressed_none hash bytes = refl

  pub compressed_next : (hash bytes : List ℕ) (n : ℕ) → compressed compress hash bytes (n + 1) ≡ compress (compressed compress hash bytes n) (block bytes n)
  unfolding compressed
  compressed_next hash bytes n = rw add-one refl

  -- one block more
  pub compressed_more : (hash value next bytes : List ℕ) (n : ℕ) → value ≡ compressed compress hash bytes n → next ≡ compress value (block bytes n)
      → next ≡ compressed compress hash bytes (n + 1)
  compressed_more hash value next bytes n held made = made ∙ ap (λ (h : List ℕ). compress h (block bytes n)) held ∙ sym (compressed_next hash bytes n)

  -- the blocks of a part, after those before it
  pub compressed_part : (hash bytes part : List ℕ) (a n len : ℕ) → part ≡ take len (drop (a * 64) bytes) → n * 64 ≤ len
      → compressed compress (compressed compress hash bytes a) part n ≡ compressed compress hash bytes (a + n)
  compressed_part hash bytes part a zero len e fits = rw add-zero (compressed_none (compressed compress hash bytes a) part)
  compressed_part hash bytes part a (suc n) len e fits =
      let next : suc n ≡ n + 1 = omega arith in
      let whole : a + suc n ≡ a + n + 1 = omega arith in
      rw (whole, next) (compressed_next (compressed compress hash bytes a) part n
      ∙ ap (λ (h : List ℕ). compress h (block part n)) (compressed_part hash bytes part a n len e (omega arith))
      ∙ ap (λ (b : List ℕ). compress (compressed compress hash bytes (a + n)) b) (block_of_part bytes part a n len e (omega arith))
      ∙ sym (compressed_next hash bytes (a + n)))

  -- one group more
  pub compressed_group : (hash value next bytes : List ℕ) (i : ℕ) → value ≡ compressed compress hash bytes (4 * i)
      → next ≡ compressed compress value (take 256 (drop (256 * i) bytes)) 4 → next ≡ compressed compress hash bytes (4 * (i + 1))
  compressed_group hash value next bytes i held made =
      let start : 256 * i ≡ 4 * i * 64 = omega arith in
      let behind : 4 * (i + 1) ≡ 4 * i + 4 = omega arith in
      made ∙ ap (λ (h : List ℕ). compressed compress h (take 256 (drop (256 * i) bytes)) 4) held
      ∙ rw (start, behind) (compressed_part hash bytes (take 256 (drop (4 * i * 64) bytes)) (4 * i) 4 256 refl (omega arith))

  -- only the blocks that are counted are read
  pub compressed-append : (hash bytes more : List ℕ) (n : ℕ) → n * 64 ≤ length bytes
      → compressed compress hash (bytes ++ more) n ≡ compressed compress hash bytes n
  compressed-append hash bytes more n fits =
      let part : bytes ≡ take (length bytes) (drop (0 * 64) (bytes ++ more)) = sym (take_at bytes more (length bytes) refl) in
      sym (rw (compressed_none hash (bytes ++ more), zero-add) at (compressed_part hash (bytes ++ more) bytes 0 n (length bytes) part fits))

  -- the blocks after a message of complete blocks
  pub compressed_behind : (hash message bytes : List ℕ) (q n : ℕ) → length message ≡ q * 64 → n * 64 ≤ length bytes
      → compressed compress (compressed compress hash message q) bytes n ≡ compressed compress hash (message ++ bytes) (q + n)
  compressed_behind hash message bytes q n e fits =
      let past : drop (q * 64) (message ++ bytes) ≡ bytes = drop-append-le (q * 64) message bytes (omega arith) ∙ rw (drop_all (q * 64) message (omega arith)) refl in
      let same : bytes ≡ take (length bytes) (drop (q * 64) (message ++ bytes)) = rw past (sym (take_all (length bytes) bytes (omega arith))) in
      ap (λ (h : List ℕ). compressed compress h bytes n) (sym (compressed-append hash message bytes q (omega arith)))
      ∙ compressed_part hash (message ++ bytes) bytes q n (length bytes) same fits

-- the definitions of the kit's crates
pub sha1_hash_after : (message : List ℕ) (n : ℕ) → S1.hash_after message n ≡ compressed S1.compress S1.initial_hash message n
unfolding S1.hash_after compressed
sha1_hash_after message zero = refl
sha1_hash_after message (suc n) = ap (λ (h : List ℕ). S1.compress h (block message n)) (sha1_hash_after message n)

pub sha256_hash_after : (hash message : List ℕ) (n : ℕ) → S2.hash_after hash message n ≡ compressed S2.compress hash message n
unfolding S2.hash_after compressed
sha256_hash_after hash message zero = refl
sha256_hash_after hash message (suc n) = ap (λ (h : List ℕ). S2.compress h (block message n)) (sha256_hash_after hash message n)

pub sha1_digest_bytes : (hash : List ℕ) (n : ℕ) → S1.digest_bytes hash n ≡ S2.digest_bytes hash n
unfolding S1.digest_bytes S2.digest_bytes
sha1_digest_bytes hash zero = refl
sha1_digest_bytes hash (suc n) = ap (λ (bytes : List ℕ). bytes ++ to_be_bytes w32 (slice_index hash n)) (sha1_digest_bytes hash n)
