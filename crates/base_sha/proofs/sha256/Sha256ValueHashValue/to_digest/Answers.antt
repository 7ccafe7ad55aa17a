use Rattle.std.proofs.Common.{◌≡◌, ℕ, ◌/◌, List, length, arith, ap, sym, ◌∙◌}
use Rattle.sha2.specs.Sha256.{digest_bytes, initial_hash_256, padded_message, sha256}
use Rattle.base_sha.proofs.Compressing.{sha256_hash_after}
use Rattle.base_sha.proofs.sha256.Sha256ValueHashValue.to_digest.Goals as goal

pub returns : goal.returns
unfolding sha256
returns c = λ m held.
    let long : length c.args.self.now.0 ≡ 8 = omega arith in
    let hash = held ∙ sym (sha256_hash_after initial_hash_256 (padded_message m) (length (padded_message m) / 64)) in
    rw long at c.write_words.ensures ∙ ap (λ (h : List ℕ). digest_bytes h 8) hash
