-- The bytes and the id of a tree object (the book "Pro Git", "Git Objects").
use Rattle.std.specs.Prelude.{ℕ, List, ◌∷◌, ◌++◌, length, codes, decimal, Option, Some, None}
use Rattle.index_parts.specs.Digest.{digest}
use Rattle.index_parts.specs.Id.{id_bytes, make_id}
use Rattle.index_parts.specs.declared.hash.Kind.{Kind}
use Rattle.index_parts.specs.declared.hash.ObjectId.{ObjectId}
use Rattle.index_parts.specs.declared.object.tree.EntryKind.{EntryKind}
use Rattle.index_parts.specs.declared.object.tree.EntryKind.TheVariants as kinds

-- The mode in octal digits, without leading zeros.
abbrev pub tree_mode_text : EntryKind → List ℕ
tree_mode_text kinds.Tree = codes "40000"
tree_mode_text kinds.Blob = codes "100644"
tree_mode_text kinds.BlobExecutable = codes "100755"
tree_mode_text kinds.Link = codes "120000"
tree_mode_text kinds.Commit = codes "160000"

-- The bytes of an entry: its mode, a space, its name, a NUL and its id.
abbrev pub tree_entry_bytes : List ℕ → EntryKind → ObjectId → List ℕ
tree_entry_bytes name k id = tree_mode_text k ++ 32 ∷ (name ++ 0 ∷ id_bytes id)

-- The bytes that are hashed: the object's type, a space, the number of its bytes, a NUL, and these bytes.
abbrev pub tree_message : List ℕ → List ℕ
tree_message bytes = codes "tree " ++ (decimal (length bytes) ++ 0 ∷ bytes)

unfoldable pub tree_id : Kind → List ℕ → ObjectId
tree_id kind bytes = make_id kind (digest kind (tree_message bytes))

-- The trees that a sink has taken, each by its id and with its bytes. `None` if they can't be stated, as for a store on
-- a disk.
abbrev pub Taken : Type 0
Taken = Option (List (ObjectId × List ℕ))

-- What a sink has taken, and then these objects.
abbrev pub with_objects : Taken → List (ObjectId × List ℕ) → Taken
with_objects None objects = None
with_objects (Some taken) objects = Some (taken ++ objects)
