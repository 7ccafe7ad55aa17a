-- The results of the readers, as functions: a value and the rest, or nothing (gitformat-index). The relations of
-- Numbers and Offset state the equivalent in the format's terms. Clauses for users don't use these definitions.
use Rattle.std.specs.Prelude.{ℕ, ◌+◌, ◌*◌, ◌%◌, ◌^◌, ◌==◌, nat_lt, List, [], ◌∷◌, length, take, drop}
use Rattle.std.specs.Prelude.{Option, Some, None, if◌then◌else◌, position}
use Rattle.std.specs.Option.{option_map}
use Rattle.index_parts.specs.Numbers.{be}
use Rattle.index_parts.specs.Id.{id_len, make_id}
use Rattle.index_parts.specs.declared.hash.Kind.{Kind}
use Rattle.index_parts.specs.declared.hash.ObjectId.{ObjectId}

-- the answer of the next step, if there is a value
infixl 10 ◌>>=◌
abbrev pub ◌>>=◌ : {A B : Type 0} → Option A → (A → Option B) → Option B
None >>= f = None
(Some x) >>= f = f x

-- a piece of `size` bytes, and the rest
abbrev pub piece_at : ℕ → List ℕ → Option (List ℕ × List ℕ)
piece_at size bytes = if nat_lt (length bytes) size then None else Some (take size bytes, drop size bytes)

-- a number of `size` bytes, and the rest
abbrev pub number_at : ℕ → List ℕ → Option (ℕ × List ℕ)
number_at size bytes = piece_at size bytes >>= λ piece. Some (be piece.0, piece.1)

-- an id of a hash algorithm, and the rest
abbrev pub object_id_at : Kind → List ℕ → Option (ObjectId × List ℕ)
object_id_at kind bytes = piece_at (id_len kind) bytes >>= λ piece. Some (make_id kind piece.0, piece.1)

-- the bytes before the first b, and those after it; there are at least two bytes
abbrev pub split_at_byte : ℕ → List ℕ → Option (List ℕ × List ℕ)
split_at_byte b bytes = if nat_lt (length bytes) 2 then None else option_map
    (λ place. (take place bytes, drop (place + 1) bytes)) (position (λ x. x == b) bytes)

-- the offset number at the start, and the rest; `high` is the value of the bytes before
abbrev pub offset_from : ℕ → List ℕ → Option (ℕ × List ℕ)
offset_from high [] = None
offset_from high (b ∷ bytes) =
    if nat_lt (high * 128 + b % 128) (2 ^ 64) then
    (if nat_lt b 128 then Some (high * 128 + b % 128, bytes)
    else (if nat_lt (high * 128 + b % 128 + 1) (2 ^ 64) then offset_from (high * 128 + b % 128 + 1) bytes else None))
    else None

abbrev pub offset_at : List ℕ → Option (ℕ × List ℕ)
offset_at bytes = offset_from 0 bytes
