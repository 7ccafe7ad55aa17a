-- The results of the reader of a cache tree, as functions: a value and the rest, or nothing (gitformat-index, "Cache
-- tree"). Public clauses cite none of these.
use Rattle.std.specs.Prelude.{ℕ, ◌+◌, ◌-◌, ◌*◌, ◌/◌, ◌^◌, ◌==◌, nat_lt, List, [], ◌∷◌, length, Option, Some, None}
use Rattle.std.specs.Prelude.{if◌then◌else◌}
use Rattle.std.specs.Char.{is_ascii_digit}
use Rattle.index_parts.specs.Id.{null_id}
use Rattle.index_parts.specs.ReadingSteps.{◌>>=◌, split_at_byte, object_id_at}
use Rattle.index_parts.specs.declared.hash.Kind.{Kind}
use Rattle.index_parts.specs.declared.hash.ObjectId.{ObjectId}
use Rattle.index_parts.specs.Limit.{is_within}
use Rattle.ext_tree.specs.Tree.{NodeHead}
use Rattle.ext_tree.specs.declared.head.NodeHead.{NodeHead as LentNodeHead}

-- the number that digits encode after earlier digits with the value `high`
abbrev pub decimal_from : ℕ → List ℕ → Option ℕ
decimal_from high [] = Some high
decimal_from high (b ∷ text) =
    if is_ascii_digit b then
    (if nat_lt (high * 10 + (b - 48)) (2 ^ 64) then decimal_from (high * 10 + (b - 48)) text else None)
    else None

-- the number that one or more digits encode
abbrev pub decimal_of : List ℕ → Option ℕ
decimal_of [] = None
decimal_of (b ∷ text) = decimal_from 0 (b ∷ text)

-- the count that a number represents: `nonnegative_count` without a minus, `negated_count` with one
abbrev pub nonnegative_count : ℕ → Option (Option ℕ)
nonnegative_count n = if nat_lt n (2 ^ 31) then Some (Some n) else None

abbrev pub negated_count : ℕ → Option (Option ℕ)
negated_count n = if n == 0 then Some (Some 0) else (if nat_lt (2 ^ 31) n then None else Some None)

-- the count that an optional sign and digits encode
abbrev pub entry_count_of : List ℕ → Option (Option ℕ)
entry_count_of [] = None
entry_count_of (b ∷ text) =
    if b == 45 then decimal_of text >>= negated_count
    else (if b == 43 then decimal_of text >>= nonnegative_count
    else decimal_of (b ∷ text) >>= nonnegative_count)

-- the id of a node with this count
abbrev pub id_at : Kind → Option ℕ → List ℕ → Option (ObjectId × List ℕ)
id_at kind None bytes = Some (null_id kind, bytes)
id_at kind (Some n) bytes = object_id_at kind bytes

-- the id of a node with this count, if `number` children are within the limit
abbrev pub limited_id_at : Kind → Option ℕ → ℕ → Option ℕ → List ℕ → Option (ObjectId × List ℕ)
limited_id_at kind limit number count bytes = if is_within limit (104 * number) then id_at kind count bytes else None

-- the head of a node: the parts before its children
unfoldable pub node_head_at : Kind → Option ℕ → List ℕ → Option (NodeHead × List ℕ)
node_head_at kind limit bytes = do
  name ← split_at_byte 0 bytes
  text ← split_at_byte 32 name.1
  count ← entry_count_of text.0
  digits ← split_at_byte 10 text.1
  number ← decimal_of digits.0
  id ← limited_id_at kind limit number count digits.1
  Some (record { name = name.0; count = count; id = id.0; number = number }, id.1)

-- the head of a node, if the rest is long enough for its children, at six or more bytes each
unfoldable pub roomy_head_at : Kind → Option ℕ → List ℕ → Option (NodeHead × List ℕ)
roomy_head_at kind limit bytes =
    node_head_at kind limit bytes >>= λ h. if nat_lt (length h.1 / 6) h.0.number then None else Some h

-- the value of a head that borrows its name
abbrev pub lent_node_head : LentNodeHead → NodeHead
lent_node_head h = record { name = h.name.now; count = h.count; id = h.id; number = h.number }
