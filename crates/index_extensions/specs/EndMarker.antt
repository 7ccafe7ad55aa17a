-- The end marker (gitformat-index, "End of Index Entry"), which has the offset at which the extensions begin.
use Rattle.std.specs.Prelude.{◌≡◌, ℕ, ◌≤◌, List, [], ◌∷◌, ◌++◌, length, codes, Option}
use Rattle.std.specs.List.{flat_map}
use Rattle.index_parts.specs.Numbers.{be}
use Rattle.index_parts.specs.Digest.{digest}
use Rattle.index_parts.specs.declared.hash.Kind.{Kind}
use Rattle.index_parts.specs.declared.hash.Kind.TheVariants.{Sha1}
use Rattle.index_extensions.specs.ExtensionValue.{IsRead}
use Rattle.index_extensions.specs.Walk.{Item, AreItems}

-- the signatures and sizes of extensions, one after another
abbrev pub heads : List Item → List ℕ
heads items = flat_map (λ i. i.signature ++ i.size) items

-- A file of SHA-1 ends in one or more complete extensions, the marker, and the trailer. The marker has the size 24, the
-- offset at which the extensions begin, and the digest of their signatures and sizes.
pub record EndsInMarker (kind : Kind) (bytes : List ℕ) (place : ℕ) : Type 0 where
  pub before : List ℕ
  pub between : List ℕ
  pub offset : List ℕ
  pub hash : List ℕ
  pub trailer : List ℕ
  pub is_sha1 : kind ≡ Sha1
  pub parts : bytes ≡ before ++ (between ++ (codes "EOIE" ++ ((0 ∷ 0 ∷ 0 ∷ 24 ∷ []) ++ (offset ++ (hash ++ trailer)))))
  pub offset_len : length offset ≡ 4
  pub hash_len : length hash ≡ 20
  pub trailer_len : length trailer ≡ 20
  pub is_offset : be offset ≡ length before
  pub behind_header : 12 ≤ length before
  pub first : Item
  pub others : List Item
  pub items : AreItems between (first ∷ others) []
  pub is_digest : hash ≡ digest Sha1 (heads (first ∷ others))
  pub place_is : place ≡ length before

-- the offset in an end marker, or None if there is no marker
abbrev pub IsMarker : Kind → List ℕ → Option ℕ → Type 0
IsMarker kind bytes place = IsRead (EndsInMarker kind) bytes place
