-- How long a digest is.
use Rattle.std.proofs.Common.{◌≡◌, List, ℕ, length, refl}
use Rattle.sha1.specs.Sha1.{sha1, digest_bytes}
use Rattle.sha2.specs.Sha256.{sha256}
use Rattle.sha2.specs.Sha256 as S2
use Rattle.index_parts.specs.declared.hash.Kind.{Kind}
use Rattle.index_parts.specs.declared.hash.Kind.TheVariants as kinds
use Rattle.index_parts.specs.Digest.{digest}
use Rattle.index_parts.specs.Id.{id_len}

pub length-digest : (k : Kind) (l : List ℕ) → length (digest k l) ≡ id_len k
unfolding sha1 digest_bytes sha256 S2.digest_bytes
length-digest kinds.Sha1 l = refl
length-digest kinds.Sha256 l = refl
