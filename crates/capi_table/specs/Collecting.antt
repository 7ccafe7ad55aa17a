-- The trees that are collected, by the number of bytes of each (the library's own steps).
use Rattle.std.specs.Prelude.{ℕ, ◌+◌, nat_eq, List, [], ◌∷◌, length, take, drop, Some, None, if◌then◌else◌}
use Rattle.gix_index.specs.Trees.Objects.{Taken}
use Rattle.capi_table.specs.Table.{padded_id}
use Rattle.capi_table.specs.Trees.{Objects}
use Rattle.capi_table.specs.declared.collected.Collected.{Collected}
use Rattle.capi_table.specs.declared.collected.Piece.{Piece}
use Rattle.capi_table.specs.declared.trees.Tree.{Tree}

-- how many bytes pieces have together
abbrev pub pieces_len : List Piece → ℕ
pieces_len [] = 0
pieces_len (p ∷ ps) = p.len + pieces_len ps

-- the objects of pieces whose bytes are concatenated in `bytes`
abbrev pub split_objects : List Piece → List ℕ → Objects
split_objects [] bytes = []
split_objects (p ∷ ps) bytes = (p.id, take p.len bytes) ∷ split_objects ps (drop p.len bytes)

-- the rows of pieces whose bytes are concatenated, beginning at the position `start`
abbrev pub piece_rows : ℕ → List Piece → List Tree
piece_rows start [] = []
piece_rows start (p ∷ ps) =
    record { id = padded_id p.id; start = start; len = p.len } ∷ piece_rows (start + p.len) ps

-- the objects that are collected, if there are as many bytes as the pieces have
abbrev pub collected : Collected → Taken
collected c =
    if nat_eq (pieces_len c.pieces.items) (length c.bytes.items) then Some (split_objects c.pieces.items c.bytes.items)
    else None
