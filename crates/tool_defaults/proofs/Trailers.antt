-- Whether the trailer of a file is the digest that was taken of all bytes before it.
use Rattle.std.proofs.Common.{◌≡◌, ◌-◌, ◌∙◌, ℕ, List, [], Bool, false, length, Option, None, Some, ap, arith}
use Rattle.std.proofs.Common.{refl, subst, sym}
use Rattle.std.specs.Prelude.{◌↔◌, IfSome, IsTrue}
use Rattle.std.proofs.lemmas.List.{length-drop}
use Rattle.gix_index.specs.Disk.World.{Stored, whole_of}
use Rattle.gix_index.specs.Hashing.Digest.{digest}
use Rattle.gix_index.specs.Id.{id_bytes, id_kind, id_len, make_id}
use Rattle.gix_index.specs.Intact.{checked_part, digest_id, trailer_part}
use Rattle.gix_index.specs.Kind.{Kind}
use Rattle.gix_index.specs.Kind.TheVariants as kinds
use Rattle.gix_index.specs.ObjectId.{ObjectId}
use Rattle.tool_defaults.specs.Digests.{EndsWithDigest}
use Rattle.file_windows.specs.ReadWhole.{AreHashed}

made_bytes : (kind : Kind) (d : List ℕ) → id_bytes (make_id kind d) ≡ d
made_bytes kinds.Sha1 d = refl
made_bytes kinds.Sha256 d = refl

made_kind : (kind : Kind) (d : List ℕ) → id_kind (make_id kind d) ≡ kind
made_kind kinds.Sha1 d = refl
made_kind kinds.Sha256 d = refl

module _ (kind : Kind) (bytes after : List ℕ) (id : ObjectId) (is : id ≡ digest_id kind bytes)
    (last : after ≡ trailer_part kind bytes) (id_long : length (id_bytes id) ≡ id_len (id_kind id)) where
  is_digest : id_bytes id ≡ digest kind (checked_part kind bytes)
  is_digest = ap id_bytes is ∙ made_bytes kind (digest kind (checked_part kind bytes))

  is_long : length (id_bytes id) ≡ id_len kind
  is_long = id_long ∙ ap id_len (ap id_kind is ∙ made_kind kind (digest kind (checked_part kind bytes)))

  ends_so : id_bytes id ≡ after → EndsWithDigest kind bytes
  ends_so same = (
    omega (arith, is_long, ap length same, ap length last, length-drop (length bytes - id_len kind) bytes),
    sym last ∙ sym same ∙ is_digest,
  )

  ends_then : EndsWithDigest kind bytes → id_bytes id ≡ after
  ends_then h = is_digest ∙ sym h.1 ∙ sym last

all_of : (stored : Option Stored) (more : List ℕ) (P : List ℕ → Type 0) → IfSome (whole_of stored) (λ l. more ≡ l)
    → P more → IfSome stored (λ file. P file.bytes)
all_of None more P all h = tt
all_of (Some file) more P all h = subst P all h

-- a file was read from its start to its end: what is at hand is compared
pub compared : (kind : Kind) (stored : Option Stored) (left : Option (List ℕ)) (after : List ℕ) (id : ObjectId)
    (is : Bool) → AreHashed kind false left [] after id → left ≡ whole_of stored
    → length (id_bytes id) ≡ id_len (id_kind id) → IsTrue is ↔ (id_bytes id ≡ after)
    → IfSome stored (λ file. IsTrue is ↔ EndsWithDigest kind file.bytes)
compared kind stored left after id is s start id_long same =
    all_of stored s.more (λ l. IsTrue is ↔ EndsWithDigest kind l)
    (subst (λ (o : Option (List ℕ)). IfSome o (λ l. s.more ≡ l)) start s.whole) (
      λ t. ends_so kind s.more after id s.digest (s.let_go refl) id_long (same.0 t),
      λ h. same.1 (ends_then kind s.more after id s.digest (s.let_go refl) id_long h),
    )
