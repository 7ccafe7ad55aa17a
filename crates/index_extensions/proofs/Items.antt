-- What is read as an extension is in the bytes, and an extension in the bytes is read.
use Rattle.std.proofs.Common.{◌≡◌, ℕ, ◌+◌, ◌<◌, List, ◌++◌, length, Some, None, refl, sym, ap, subst, ◌∙◌, arith}
use Rattle.std.proofs.lemmas.List.{length-append}
use Rattle.std.proofs.lemmas.Option.{same_Some}
use Rattle.index_parts.proofs.Splits.{piece_takes, piece_again}
use Rattle.index_parts.proofs.Steps.{bind_some}
use Rattle.index_parts.specs.Numbers.{be}
use Rattle.index_parts.specs.ReadingSteps.{◌>>=◌, piece_at}
use Rattle.index_extensions.specs.WalkSteps.{item_at}
use Rattle.index_extensions.specs.Walk.{Item, IsItem, NoItem}

item_from : (bytes signature behind size after content rest : List ℕ) → bytes ≡ signature ++ behind → length signature
    ≡ 4 → behind ≡ size ++ after → length size ≡ 4 → after ≡ content ++ rest → length content ≡ be size
    → IsItem bytes (record { signature = signature; size = size; content = content }) rest
item_from bytes signature behind size after content rest a al b bl c cl = record {
  parts = a ∙ ap (λ (t : List ℕ). signature ++ t) (b ∙ ap (λ (t : List ℕ). size ++ t) c);
  signature_len = al;
  size_len = bl;
  content_len = cl;
}

pub item_takes : (bytes : List ℕ) (x : Item × List ℕ) → item_at bytes ≡ Some x → IsItem bytes x.0 x.1
unfolding item_at
item_takes bytes x e =
    let s = bind_some (piece_at 4 bytes) (λ signature. piece_at 4 signature.1 >>= λ size. piece_at (be size.0) size.1
    >>= λ content. Some (record { signature = signature.0; size = size.0; content = content.0 }, content.1)) x e in
    let n = bind_some (piece_at 4 s.0.1) (λ size. piece_at (be size.0) size.1 >>= λ content.
    Some (record { signature = s.0.0; size = size.0; content = content.0 }, content.1)) x s.2 in
    let c = bind_some (piece_at (be n.0.0) n.0.1)
    (λ content. Some (record { signature = s.0.0; size = n.0.0; content = content.0 }, content.1)) x n.2 in
    let ts = piece_takes 4 bytes s.0 s.1 in
    let tn = piece_takes 4 s.0.1 n.0 n.1 in
    let tc = piece_takes (be n.0.0) n.0.1 c.0 c.1 in
    let made : Item × List ℕ = (record { signature = s.0.0; size = n.0.0; content = c.0.0 }, c.0.1) in
    let is : made ≡ x = same_Some made x c.2 in
    subst (λ (y : Item × List ℕ). IsItem bytes y.0 y.1) {x = made} is
    (item_from bytes s.0.0 s.0.1 n.0.0 n.0.1 c.0.0 c.0.1 ts.0 ts.1 tn.0 tn.1 tc.0 tc.1)

pub item_again : (bytes : List ℕ) (i : Item) (rest : List ℕ) → IsItem bytes i rest → item_at bytes ≡ Some (i, rest)
unfolding item_at
item_again bytes i rest h =
    ap item_at h.parts ∙ rw (
      piece_again 4 i.signature (i.size ++ (i.content ++ rest)) h.signature_len,
      piece_again 4 i.size (i.content ++ rest) h.size_len,
      piece_again (be i.size) i.content rest h.content_len,
    ) refl

pub no_item : (bytes : List ℕ) → item_at bytes ≡ None → NoItem bytes
no_item bytes e = λ i rest h. absurd (cc (item_again bytes i rest h, e))

-- one extension begins bytes, or none
pub one_item : (bytes : List ℕ) (i j : Item) (r s : List ℕ) → IsItem bytes i r → IsItem bytes j s
    → ◌≡◌ {A = Item × List ℕ} (i, r) (j, s)
one_item bytes i j r s h k = same_Some _ _ (sym (item_again bytes i r h) ∙ item_again bytes j s k)

-- the eight bytes of a head, the content and the rest are all bytes
pub item_len : (bytes : List ℕ) (i : Item) (rest : List ℕ) → IsItem bytes i rest
    → length bytes ≡ 8 + length i.content + length rest
item_len bytes i rest h = omega (
  arith,
  ap length h.parts,
  length-append i.signature (i.size ++ (i.content ++ rest)),
  length-append i.size (i.content ++ rest),
  length-append i.content rest,
  h.signature_len,
  h.size_len,
)

-- below eight bytes there is no extension
pub short_item : (bytes : List ℕ) → length bytes < 8 → NoItem bytes
short_item bytes lt = λ i rest h. absurd (omega (arith, item_len bytes i rest h))
