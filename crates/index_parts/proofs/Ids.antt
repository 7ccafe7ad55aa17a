-- The parts of an id that was made of them.
use Rattle.std.proofs.Common.{◌≡◌, List, ℕ, refl}
use Rattle.index_parts.specs.declared.hash.Kind.{Kind}
use Rattle.index_parts.specs.declared.hash.Kind.TheVariants as kinds
use Rattle.index_parts.specs.Id.{id_bytes, id_kind, make_id}

pub id_bytes-make_id : (k : Kind) (l : List ℕ) → id_bytes (make_id k l) ≡ l
id_bytes-make_id kinds.Sha1 l = refl
id_bytes-make_id kinds.Sha256 l = refl

pub id_kind-make_id : (k : Kind) (l : List ℕ) → id_kind (make_id k l) ≡ k
id_kind-make_id kinds.Sha1 l = refl
id_kind-make_id kinds.Sha256 l = refl
