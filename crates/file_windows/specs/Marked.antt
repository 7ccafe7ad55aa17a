-- An end marker at the end of a file that is read in windows (gitformat-index, "End of Index Entry"). Its digest is
-- that of extensions most of which aren't in memory any more.
use Rattle.std.specs.Prelude.{◌≡◌, ℕ, Bool, List, [], ◌∷◌, ◌++◌, length, drop, codes, None, true, IfSome}
use Rattle.index_parts.specs.Digest.{hasher_kind, Holds}
use Rattle.index_parts.specs.Numbers.{be}
use Rattle.index_parts.specs.declared.hash.Hasher.{Hasher}
use Rattle.index_parts.specs.declared.hash.Kind.{Kind}
use Rattle.index_parts.specs.declared.hash.Kind.TheVariants.{Sha1}
use Rattle.index_extensions.specs.EndMarker.{EndsInMarker, IsMarker, heads}
use Rattle.index_extensions.specs.Walk.{Item, AreItems}
use Rattle.file_windows.specs.Intact.{IsIntact}
use Rattle.file_windows.specs.declared.plan.Plan.{Plan}

-- The bytes end with a marker that names an offset and has a digest, valid or not, and with a trailer of SHA-1.
pub record EndsAsMarker (bytes : List ℕ) (place : ℕ) (hash : List ℕ) : Type 0 where
  pub front : List ℕ
  pub offset : List ℕ
  pub trailer : List ℕ
  pub parts : bytes ≡ front ++ (codes "EOIE" ++ ((0 ∷ 0 ∷ 0 ∷ 24 ∷ []) ++ (offset ++ (hash ++ trailer))))
  pub offset_len : length offset ≡ 4
  pub hash_len : length hash ≡ 20
  pub trailer_len : length trailer ≡ 20
  pub is_offset : be offset ≡ place

-- The hasher took the heads of extensions, whose bytes are these.
pub record HoldsHeads (passed : List ℕ) (hasher : Hasher) : Type 0 where
  pub items : List Item
  pub are : AreItems passed items []
  pub is_sha1 : hasher_kind hasher ≡ Sha1
  pub hashed : Holds hasher (heads items)

-- All bytes of a file end with the tail. From the offset that the end marker must name, they are extensions that were
-- passed. The hasher took their heads. From index `start` of the tail on, the bytes weren't passed.
pub record HasPassed (plan : Plan) (bytes tail : List ℕ) (start : ℕ) (hasher : Hasher) : Type 0 where
  pub gone : List ℕ
  pub before : List ℕ
  pub passed : List ℕ
  pub ends : bytes ≡ gone ++ tail
  pub parts : bytes ≡ before ++ (passed ++ drop start tail)
  pub len : length bytes ≡ plan.len
  pub heads : HoldsHeads passed hasher
  pub named : IfSome plan.offset (λ place. length before ≡ place)

-- ---- what the last bytes of a file imply

-- No file that ends with these bytes has a marker.
abbrev pub LacksMarker : List ℕ → Type 0
LacksMarker tail = (kind : Kind) (before : List ℕ) → IsMarker kind (before ++ tail) None

-- A file that ends with these bytes has a marker that names this offset. Before them are extensions from this offset
-- on, and the hasher took their heads.
abbrev pub Closes : Plan → ℕ → Hasher → List ℕ → Type 0
Closes plan place heads end =
    (before passed : List ℕ) → length before ≡ place → HoldsHeads passed heads
    → length (before ++ (passed ++ end)) ≡ plan.len → EndsInMarker plan.kind (before ++ (passed ++ end)) place

-- The marker of such a file is that of the plan.
abbrev pub IsMarkedAs : Plan → List ℕ → ℕ → Hasher → Type 0
IsMarkedAs plan tail start heads =
    (bytes : List ℕ) → HasPassed plan bytes tail start heads → IsMarker plan.kind bytes plan.offset

-- A file that ends with these bytes is intact. The hasher took the bytes before them, if they were to be hashed.
abbrev pub IsIntactBehind : Plan → Hasher → List ℕ → Bool → Type 0
IsIntactBehind plan hasher tail skip =
    hasher_kind hasher ≡ plan.kind → (message : List ℕ) → (plan.is_hashed ≡ true → Holds hasher message)
    → IsIntact skip plan.kind (message ++ tail)
