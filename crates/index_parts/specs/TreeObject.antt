-- Tree objects (the book "Pro Git", "Git Objects", on tree objects): entries, one after another.
use Rattle.std.specs.Prelude.{◌≡◌, ◌≢◌, ℕ, ◌^◌, ◌<◌, ◌==◌, Bool, List, [], ◌∷◌, ◌++◌, All, length, bit_and, Option}
use Rattle.std.specs.Prelude.{Some, None, Result, Ok, Err, if◌then◌else◌}
use Rattle.index_parts.specs.Id.{id_len, make_id}
use Rattle.index_parts.specs.Octal.{IsOctal}
use Rattle.index_parts.specs.declared.hash.Kind.{Kind}
use Rattle.index_parts.specs.declared.hash.ObjectId.{ObjectId}
use Rattle.index_parts.specs.declared.object.tree.Entries.{Entries}
use Rattle.index_parts.specs.declared.object.tree.EntryKind.{EntryKind}
use Rattle.index_parts.specs.declared.object.tree.EntryKind.TheVariants as kinds
use Rattle.index_parts.specs.declared.object.tree.EntryRef.{EntryRef}
use Rattle.index_parts.specs.declared.object.tree.Malformed.{Malformed}

-- ---- an entry

-- an entry of a tree, as a value
pub record TreeEntry : Type 0 where
  pub mode : ℕ
  pub name : List ℕ
  pub id : ObjectId

-- The bytes are an entry, and the rest. An entry is a mode of at most 16 bits in octal digits, a space, a name of one
-- byte or more, a NUL, and an id.
pub record IsTreeEntry (kind : Kind) (bytes : List ℕ) (e : TreeEntry) (rest : List ℕ) : Type 0 where
  pub text : List ℕ
  pub id : List ℕ
  pub parts : bytes ≡ text ++ 32 ∷ (e.name ++ 0 ∷ (id ++ rest))
  pub is_mode : IsOctal text e.mode
  pub fits : e.mode < 2 ^ 16
  pub named : e.name ≢ []
  pub apart : All (λ b. b ≢ 0) e.name
  pub id_size : length id ≡ id_len kind
  pub is_id : e.id ≡ make_id kind id

-- the bytes begin with no entry
abbrev pub NoTreeEntry : Kind → List ℕ → Type 0
NoTreeEntry kind bytes = (e : TreeEntry) (rest : List ℕ) → IsTreeEntry kind bytes e rest → ⊥

-- ---- a tree

-- the bytes are these entries, one after another, and the rest
abbrev pub AreTreeEntries : Kind → List ℕ → List TreeEntry → List ℕ → Type 0
AreTreeEntries kind bytes [] rest = bytes ≡ rest
AreTreeEntries kind bytes (e ∷ es) rest =
    (after : List ℕ) × IsTreeEntry kind bytes e after × AreTreeEntries kind after es rest

-- the bytes are the tree object with these entries
abbrev pub IsTreeObject : Kind → List ℕ → List TreeEntry → Type 0
IsTreeObject kind bytes es = AreTreeEntries kind bytes es []

-- the bytes are no tree object
abbrev pub IsMalformedTree : Kind → List ℕ → Type 0
IsMalformedTree kind bytes = (es : List TreeEntry) → IsTreeObject kind bytes es → ⊥

-- The bytes begin with these entries, and no entry follows them. They are all entries of a tree object, or those before
-- the malformed bytes.
abbrev pub Lists : Kind → List ℕ → List TreeEntry → Type 0
Lists kind bytes es = (rest : List ℕ) × AreTreeEntries kind bytes es rest × NoTreeEntry kind rest

-- ---- modes

-- the bits for the type of an entry
abbrev pub type_bits : ℕ → ℕ
type_bits mode = bit_and mode 0o170000

abbrev pub is_tree_mode : ℕ → Bool
is_tree_mode mode = type_bits mode == 0o040000

-- The type of an entry. For a file, the bit of 0o100 is whether its owner may run it. What is neither a tree, a link
-- nor a file is a commit.
abbrev pub kind_of_mode : ℕ → EntryKind
kind_of_mode mode =
    if is_tree_mode mode then kinds.Tree
    else (if type_bits mode == 0o120000 then kinds.Link
    else (if type_bits mode == 0o100000 then (if bit_and mode 0o100 == 0 then kinds.Blob else kinds.BlobExecutable)
    else kinds.Commit))

-- ---- the entries that an iterator has still to return

-- the value of an entry that borrows its name
abbrev pub tree_entry_of : EntryRef → TreeEntry
tree_entry_of e = record { mode = e.mode.0; name = e.filename.now; id = e.oid }

-- the bytes that aren't read yet
abbrev pub unread_entries : Entries → List ℕ
unread_entries entries = entries.rest.now

-- the hash algorithm of the ids
abbrev pub kind_of_entries : Entries → Kind
kind_of_entries entries = entries.kind

-- The result of a step, and the bytes after it. The result is the entry at the start. If bytes are left that begin with
-- no entry, it is `Malformed`, and no bytes are left. If no bytes are left, it is None.
abbrev pub YieldsEntry : Kind → List ℕ → Option (Result EntryRef Malformed) → List ℕ → Type 0
YieldsEntry kind bytes None rest = (bytes ≡ []) × (rest ≡ [])
YieldsEntry kind bytes (Some (Ok e)) rest = IsTreeEntry kind bytes (tree_entry_of e) rest
YieldsEntry kind bytes (Some (Err m)) rest = (bytes ≢ []) × NoTreeEntry kind bytes × (rest ≡ [])
