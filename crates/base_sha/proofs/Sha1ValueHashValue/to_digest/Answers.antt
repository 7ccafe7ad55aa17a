use Rattle.std.proofs.Common.{◌≡◌, ℕ, ◌/◌, List, length, arith, ap, sym, ◌∙◌}
use Rattle.sha1.specs.Sha1.{digest_bytes, padded_message, sha1}
use Rattle.base_sha.proofs.Compressing.{sha1_digest_bytes, sha1_hash_after}
use Rattle.base_sha.proofs.Sha1ValueHashValue.to_digest.Goals as goal

pub returns : goal.returns
unfolding sha1
returns c = λ m held.
    let long : length c.args.self.now.0 ≡ 5 = omega arith in
    let hash = held ∙ sym (sha1_hash_after (padded_message m) (length (padded_message m) / 64)) in
    rw long at c.write_words.ensures ∙ sym (sha1_digest_bytes c.args.self.now.0 5) ∙ ap (λ (h : List ℕ). digest_bytes h 5) hash
