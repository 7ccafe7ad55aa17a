-- The entry at the start of bytes, as functions ("Pro Git", "Git Objects"). Public clauses don't use these definitions.
use Rattle.std.specs.Prelude.{ℕ, ◌^◌, nat_lt, List, [], ◌∷◌, Option, Some, None, if◌then◌else◌}
use Rattle.index_parts.specs.Octal.{octal_number}
use Rattle.index_parts.specs.ReadingSteps.{◌>>=◌, split_at_byte, object_id_at}
use Rattle.index_parts.specs.TreeObject.{TreeEntry}
use Rattle.index_parts.specs.declared.hash.Kind.{Kind}

-- a number, if it has at most 16 bits
abbrev pub short : ℕ → Option ℕ
short n = if nat_lt n (2 ^ 16) then Some n else None

-- the mode that octal digits encode, if it has at most 16 bits
abbrev pub tree_mode_of : List ℕ → Option ℕ
tree_mode_of text = octal_number text >>= short

-- a name, if it has a byte
abbrev pub named : List ℕ → Option (List ℕ)
named [] = None
named (b ∷ name) = Some (b ∷ name)

-- the entry at the start of bytes, and the bytes after it
unfoldable pub tree_entry_at : Kind → List ℕ → Option (TreeEntry × List ℕ)
tree_entry_at kind bytes = do
  text ← split_at_byte 32 bytes
  mode ← tree_mode_of text.0
  up ← split_at_byte 0 text.1
  name ← named up.0
  id ← object_id_at kind up.1
  Some (record { mode = mode; name = name; id = id.0 }, id.1)
