-- Parts of a file as consecutive bytes, and as offsets and lengths (the library's own).
use Rattle.std.specs.Prelude.{◌≡◌, ℕ, ◌+◌, List, [], ◌∷◌, ◌++◌, length}
use Rattle.std.specs.List.{flat_map}
use Rattle.index_extensions.specs.Walk.{Item}
use Rattle.view_layout.specs.declared.part.Part.{Part}
use Rattle.view_layout.specs.declared.part.What.{What}
use Rattle.view_layout.specs.declared.part.What.TheVariants as whats

-- Bytes, and what they are.
pub record Piece : Type 0 where
  pub what : What
  pub bytes : List ℕ

-- All bytes of pieces, in their order.
abbrev pub piece_bytes : List Piece → List ℕ
piece_bytes pieces = flat_map (λ p. p.bytes) pieces

-- The parts for pieces, from an offset on. Each begins at the end of the one before.
abbrev pub laid : ℕ → List Piece → List Part
laid place [] = []
laid place (p ∷ pieces) = record { offset = place; len = length p.bytes; what = p.what }
    ∷ laid (place + length p.bytes) pieces

-- The parts for the pieces of any bytes of this length were appended, from an offset on.
abbrev pub Lays : (List ℕ → List Piece) → ℕ → ℕ → List Part → List Part → Type 0
Lays pieces place len old new = (bytes : List ℕ) → length bytes ≡ len → new ≡ old ++ laid place (pieces bytes)

-- The parts are consecutive, from an offset to an end.
abbrev pub LieBetween : ℕ → List Part → ℕ → Type 0
LieBetween place [] end = place ≡ end
LieBetween place (p ∷ parts) end = (p.offset ≡ place) × LieBetween (place + p.len) parts end

-- The pieces of an extension: its head and its content. Then the pieces of several extensions.
abbrev pub pieces_of_item : Item → List Piece
pieces_of_item i = record { what = whats.ExtensionHead i.signature; bytes = i.signature ++ i.size }
    ∷ record { what = whats.ExtensionContent i.signature; bytes = i.content } ∷ []

abbrev pub item_pieces : List Item → List Piece
item_pieces items = flat_map pieces_of_item items

-- These bytes as one piece; no piece if there are none.
abbrev pub some_piece : What → List ℕ → List Piece
some_piece what [] = []
some_piece what (b ∷ bytes) = record { what = what; bytes = b ∷ bytes } ∷ []

abbrev pub one_piece : What → List ℕ → List Piece
one_piece what bytes = record { what = what; bytes = bytes } ∷ []
