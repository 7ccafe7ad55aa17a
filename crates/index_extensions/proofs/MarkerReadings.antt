-- All bytes have an end marker or have none.
use Rattle.std.proofs.Common.{◌≡◌, ℕ, Bool, true, false, arith, eqb, not, inl, inr, List, [], ◌∷◌, Option, Some, None}
use Rattle.std.proofs.Common.{refl, sym}
use Rattle.std.specs.Cmp.Lexicographic.{pointwise}
use Rattle.index_parts.specs.Digest.{digest}
use Rattle.index_parts.specs.declared.hash.Kind.{Kind}
use Rattle.index_parts.specs.declared.hash.Kind.TheVariants.{Sha1, Sha256}
use Rattle.index_extensions.specs.EndMarker.{heads, EndsInMarker, IsMarker}
use Rattle.index_extensions.specs.WalkSteps.{marker_at}
use Rattle.index_extensions.specs.Walk.{Item, AreItems, IsWalk}
use Rattle.index_extensions.proofs.EndMarks.{marked_from, marked_none, marked_items, marked_digest, bytes_agree}
use Rattle.index_extensions.proofs.EndMarks.{bytes_differ, marked_one}
use Rattle.index_extensions.proofs.Readings.{Decided, read_of, one_read}
use Rattle.index_extensions.proofs.Walks.{walk_of, walk_one, no_empty}

-- extensions that are all of some bytes are the whole walk
whole_walk : (bytes tail : List ℕ) (xs ys : List Item) → IsWalk bytes xs tail → AreItems bytes ys []
    → (xs ≡ ys) × (tail ≡ [])
whole_walk bytes tail xs ys w h = walk_one bytes xs ys tail [] w (record { items_are = h; ended = no_empty })

module _ (bytes : List ℕ) (x : ℕ × List ℕ × List ℕ) (read : marker_at 0 bytes ≡ Some x) where
  -- the digest of the extensions is the marker's, or isn't
  marked_by : (first : Item) (others : List Item) → AreItems x.1 (first ∷ others) [] → (t : Bool)
      → not (pointwise eqb (digest Sha1 (heads (first ∷ others))) x.2) ≡ t → Decided (EndsInMarker Sha1 bytes)
  marked_by first others items false e =
      inl (x.0, marked_from [] bytes 0 refl x read first others items (sym (bytes_agree _ _ e)))
  marked_by first others items true e = inr
      (λ place. marked_digest [] bytes 0 refl Sha1 place x first others read items (bytes_differ _ _ e) (omega arith))

  -- the bytes between are extensions, one or more, or they aren't
  between_by : (items : List Item) (tail : List ℕ) → IsWalk x.1 items tail → Decided (EndsInMarker Sha1 bytes)
  between_by (first ∷ others) [] w = marked_by first others w.items_are _ refl
  between_by (first ∷ others) (b ∷ tail) w = inr (λ place. marked_items [] bytes 0 refl Sha1 place x read
      (λ i is h. let e = (whole_walk x.1 (b ∷ tail) (first ∷ others) (i ∷ is) w h).1 in absurd cc) (omega arith))
  between_by [] tail w = inr (λ place. marked_items [] bytes 0 refl Sha1 place x read
      (λ i is h. let e = (whole_walk x.1 tail [] (i ∷ is) w h).0 in absurd cc) (omega arith))

read_by : (bytes : List ℕ) (o : Option (ℕ × List ℕ × List ℕ)) → marker_at 0 bytes ≡ o
    → Decided (EndsInMarker Sha1 bytes)
read_by bytes None e = inr (λ place. marked_none [] bytes 0 refl Sha1 place e (omega arith))
read_by bytes (Some x) e = let w = walk_of x.1 in between_by bytes x e w.0 w.1 w.2

-- a file of SHA-256 has no marker
marked_reading : (kind : Kind) (bytes : List ℕ) → Decided (EndsInMarker kind bytes)
marked_reading Sha1 bytes = read_by bytes (marker_at 0 bytes) refl
marked_reading Sha256 bytes = inr (λ place h. let e = h.is_sha1 in absurd cc)

-- bytes are read as having a marker or as having none
pub marker_reading : (kind : Kind) (bytes : List ℕ) → (place : Option ℕ) × IsMarker kind bytes place
marker_reading kind bytes = read_of (EndsInMarker kind) bytes (marked_reading kind bytes)

-- and in one way
pub marker_reading_one : (kind : Kind) (bytes : List ℕ) (p q : Option ℕ) → IsMarker kind bytes p → IsMarker kind bytes q
    → p ≡ q
marker_reading_one kind bytes = one_read (EndsInMarker kind) bytes (marked_one kind bytes)
