-- Extensions that were written are in the bytes, and an end marker after them has their offset.
use Rattle.std.proofs.Common.{◌≡◌, ℕ, ◌+◌, ◌^◌, ◌<◌, ◌≤◌, List, [], ◌∷◌, ◌++◌, length, refl, sym, ap, subst, ◌∙◌}
use Rattle.std.proofs.Common.{append_assoc, append-nil, length-append, arith}
use Rattle.std.specs.Prelude.{codes}
use Rattle.std.specs.Int.{w32, from_be_bytes}
use Rattle.std.specs.List.{flat_map, AllByRecursion}
use Rattle.std.proofs.lemmas.List.Concat.{flat_map-cons}
use Rattle.std.proofs.lemmas.Nat.{from_be_bytes-to_be_bytes_4}
use Rattle.index_parts.proofs.Digests.{length-digest}
use Rattle.index_parts.specs.Digest.{digest}
use Rattle.index_parts.specs.Numbers.{be}
use Rattle.index_parts.specs.Id.{id_len}
use Rattle.index_parts.specs.declared.hash.Kind.{Kind}
use Rattle.index_parts.specs.declared.hash.Kind.TheVariants.{Sha1}
use Rattle.index_extensions.specs.EndMarker.{heads, EndsInMarker}
use Rattle.index_extensions.specs.Encoding.{item_bytes, item_of, marker_item}
use Rattle.index_parts.specs.Numbers.{be32}
use Rattle.index_extensions.specs.Walk.{Item, IsItem, AreItems}

four : (a b c d : ℕ) → be (a ∷ b ∷ c ∷ d ∷ []) ≡ from_be_bytes w32 (a ∷ b ∷ c ∷ d ∷ [])
four a b c d = omega arith

pub be_be32 : (n : ℕ) → n < 2 ^ 32 → be (be32 n) ≡ n
be_be32 n lt = four _ _ _ _ ∙ from_be_bytes-to_be_bytes_4 n lt

-- a signature and a size of four bytes each, and the size is the content's
pub record IsWhole (i : Item) : Type 0 where
  pub signature : length i.signature ≡ 4
  pub size : length i.size ≡ 4
  pub content : length i.content ≡ be i.size

pub whole_item : (signature content : List ℕ) → length signature ≡ 4 → length content < 2 ^ 32
    → IsWhole (item_of signature content)
whole_item signature content s lt = record { signature = s; size = refl; content = sym (be_be32 (length content) lt) }

item_joined : (s n c rest : List ℕ) → (s ++ (n ++ c)) ++ rest ≡ s ++ (n ++ (c ++ rest))
item_joined s n c rest = simp append_assoc refl

pub item_there : (i : Item) (rest : List ℕ) → IsWhole i → IsItem (item_bytes i ++ rest) i rest
item_there i rest h = record {
  parts = item_joined i.signature i.size i.content rest;
  signature_len = h.signature;
  size_len = h.size;
  content_len = h.content;
}

pub items_there : (items : List Item) (rest : List ℕ) → AllByRecursion IsWhole items
    → AreItems (flat_map item_bytes items ++ rest) items rest
items_there [] rest h = refl
items_there (i ∷ items) rest h =
    let after : List ℕ = flat_map item_bytes items ++ rest in
    let parts : flat_map item_bytes (i ∷ items) ++ rest ≡ item_bytes i ++ after =
    ap (λ (l : List ℕ). l ++ rest) (flat_map-cons item_bytes i items)
    ∙ append_assoc (item_bytes i) (flat_map item_bytes items) rest in
    (after, subst (λ (l : List ℕ). IsItem l i after) (sym parts) (item_there i after h.0), items_there items rest h.1)

marker_parts : (f b e s o h t : List ℕ)
    → f ++ (b ++ ((e ++ (s ++ (o ++ h))) ++ t)) ≡ f ++ (b ++ (e ++ (s ++ (o ++ (h ++ t)))))
marker_parts f b e s o h t = simp append_assoc refl

marker_size : (offset : ℕ) (hs : List ℕ) → be32 (length (be32 offset ++ digest Sha1 hs)) ≡ 0 ∷ 0 ∷ 0 ∷ 24 ∷ []
marker_size offset hs =
    let n : length (be32 offset ++ digest Sha1 hs) ≡ 24 =
    omega (arith, length-append (be32 offset) (digest Sha1 hs), length-digest Sha1 hs) in
    rw n refl

-- the marker after one or more extensions
pub marker_there : (front trailer : List ℕ) (first : Item) (others : List Item) → 12 ≤ length front
    → length front < 2 ^ 32 → AllByRecursion IsWhole (first ∷ others) → length trailer ≡ 20
    → EndsInMarker Sha1 (front ++ (flat_map item_bytes (first ∷ others)
    ++ (item_bytes (marker_item Sha1 (length front) (heads (first ∷ others))) ++ trailer))) (length front)
marker_there front trailer first others low high whole len =
    let items : List Item = first ∷ others in
    let between : List ℕ = flat_map item_bytes items in
    let offset : List ℕ = be32 (length front) in
    let hash : List ℕ = digest Sha1 (heads items) in
    record {
      before = front;
      between = between;
      offset = offset;
      hash = hash;
      trailer = trailer;
      is_sha1 = refl;
      parts = ap (λ (s : List ℕ). front ++ (between ++ ((codes "EOIE" ++ (s ++ (offset ++ hash))) ++ trailer)))
          (marker_size (length front) (heads items))
          ∙ marker_parts front between (codes "EOIE") (0 ∷ 0 ∷ 0 ∷ 24 ∷ []) offset hash trailer;
      offset_len = refl;
      hash_len = length-digest Sha1 (heads items);
      trailer_len = len;
      is_offset = be_be32 (length front) high;
      behind_header = low;
      first = first;
      others = others;
      items = subst (λ (l : List ℕ). AreItems l items []) (append-nil between) (items_there items [] whole);
      is_digest = refl;
      place_is = refl;
    }

marker_joined : (e s o h : List ℕ) → (e ++ (s ++ o)) ++ h ≡ e ++ (s ++ (o ++ h))
marker_joined e s o h = simp append_assoc refl

-- the twelve bytes before a marker's digest, and the digest
pub marker_is : (kind : Kind) (offset : ℕ) (hs front hash : List ℕ)
    → front ≡ codes "EOIE" ++ (be32 (4 + id_len kind) ++ be32 offset) → hash ≡ digest kind hs
    → front ++ hash ≡ item_bytes (marker_item kind offset hs)
marker_is kind offset hs front hash e d =
    let size : 4 + id_len kind ≡ length (be32 offset ++ digest kind hs) =
    omega (arith, length-append (be32 offset) (digest kind hs), length-digest kind hs) in
    ap (λ (f : List ℕ). f ++ hash) e
    ∙ ap (λ (h : List ℕ). (codes "EOIE" ++ (be32 (4 + id_len kind) ++ be32 offset)) ++ h) d
    ∙ ap (λ (n : ℕ). (codes "EOIE" ++ (be32 n ++ be32 offset)) ++ digest kind hs) size
    ∙ marker_joined (codes "EOIE") (be32 (length (be32 offset ++ digest kind hs))) (be32 offset) (digest kind hs)
