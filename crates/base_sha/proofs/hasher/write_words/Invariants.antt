use Rattle.std.proofs.Common.{◌≡◌, ◌*◌, length, take}
use Rattle.sha2.specs.Sha256.{digest_bytes}
use Rattle.base_sha.proofs.hasher.write_words.Given as goal

abbrev pub invariant-loop-i : goal.invariant-loop-i
invariant-loop-i l = (length l.digest ≡ 4 * length l.words) × (take (4 * l.i) l.digest ≡ digest_bytes l.words l.i)
