-- The results of the readers of extensions, as functions: a value and the rest, or nothing (gitformat-index,
-- "Extensions", "End of Index Entry"). Public clauses cite none of these.
use Rattle.std.specs.Prelude.{ℕ, ◌-◌, nat_eq, nat_lt, List, [], ◌∷◌, ◌++◌, length, take, drop, codes, Option, Some}
use Rattle.std.specs.Prelude.{None, if◌then◌else◌}
use Rattle.std.specs.List.{starts_with}
use Rattle.index_parts.specs.Numbers.{be}
use Rattle.index_parts.specs.ReadingSteps.{◌>>=◌, piece_at}
use Rattle.index_extensions.specs.Walk.{Item}

-- ---- the traversal

-- the extension at the start, and the rest
unfoldable pub item_at : List ℕ → Option (Item × List ℕ)
item_at bytes =
    piece_at 4 bytes >>= λ signature.
    piece_at 4 signature.1 >>= λ size.
    piece_at (be size.0) size.1 >>= λ content.
    Some (record { signature = signature.0; size = size.0; content = content.0 }, content.1)

-- the last 52 bytes, which have room for a marker and a trailer of 20 bytes
abbrev pub ending_of : List ℕ → List ℕ
ending_of bytes = drop (length bytes - 52) bytes

-- the signature of a marker, and its size
abbrev pub marker_start : List ℕ
marker_start = codes "EOIE" ++ (0 ∷ 0 ∷ 0 ∷ 24 ∷ [])

abbrev pub offset_in : List ℕ → ℕ
offset_in ending = be (take 4 (drop 8 ending))

-- A marker's offset, the bytes from there to the marker, and its digest. The bytes are the last of a file, of which
-- `skipped` bytes before them are missing.
unfoldable pub marker_at : ℕ → List ℕ → Option (ℕ × List ℕ × List ℕ)
marker_at skipped bytes =
    if nat_lt (length bytes) 52 then None
    else (if starts_with nat_eq (take 8 (ending_of bytes)) marker_start then
    (if nat_lt (offset_in (ending_of bytes)) 12 then None
    else (if nat_lt (offset_in (ending_of bytes)) skipped then None
    else (piece_at (offset_in (ending_of bytes) - skipped) (take (length bytes - 52) bytes) >>= λ pieces.
    Some (offset_in (ending_of bytes), pieces.1, take 20 (drop 4 (drop 8 (ending_of bytes)))))))
    else None)
