-- The directories of a list of staged entries (git-write-tree): one tree of names, with the list as its leaves.
use Rattle.std.specs.Prelude.{◌≡◌, ◌≢◌, ℕ, List, [], ◌∷◌, ◌++◌, All, length, Bool, Option, Some, None, if◌then◌else◌}
use Rattle.std.specs.List.{list_any}
use Rattle.index_parts.specs.Id.{id_kind, id_bytes, id_len}
use Rattle.index_parts.specs.Mode.{mode_of_kind}
use Rattle.index_parts.specs.TreeObject.{TreeEntry}
use Rattle.index_parts.specs.declared.hash.Kind.{Kind}
use Rattle.index_parts.specs.declared.hash.ObjectId.{ObjectId}
use Rattle.index_parts.specs.declared.object.tree.EntryKind.{EntryKind}
use Rattle.index_parts.specs.declared.object.tree.EntryKind.TheVariants as kinds
use Rattle.entry_list.specs.TreeOrder.{IsGitOrdered}
use Rattle.tree_encode.specs.Objects.{Taken, tree_entry_bytes, tree_id, with_objects}
use Rattle.tree_encode.specs.Staged.{Staged}

mutual
  -- An item of a directory: a leaf, or a directory with its items. A leaf isn't a directory, or is a sparse directory,
  -- of which only the id is known. It may be an intent-to-add entry (`later`).
  pub data DirectoryItem : Type 0 where
    leaf : (name : List ℕ) (kind : EntryKind) (id : ObjectId) (later : Bool) → DirectoryItem
    directory : (name : List ℕ) (items : DirectoryItems) → DirectoryItem

  pub data DirectoryItems : Type 0 where
    no_more : DirectoryItems
    next : (first : DirectoryItem) (others : DirectoryItems) → DirectoryItems

-- ---- leaves

-- The bytes by which a name is sorted, and which a path has for it. A slash follows the name of a directory.
abbrev pub key : List ℕ → EntryKind → List ℕ
key name kinds.Tree = name ++ 47 ∷ []
key name kinds.Blob = name
key name kinds.BlobExecutable = name
key name kinds.Link = name
key name kinds.Commit = name

abbrev mutual
  pub item_leaves : List ℕ → DirectoryItem → List Staged
  item_leaves prefix (leaf name kind id later) =
      record { path = prefix ++ key name kind; kind = kind; id = id; later = later } ∷ []
  item_leaves prefix (directory name items) = leaves (prefix ++ key name kinds.Tree) items

  -- The leaves of these items and of all directories below, in order. Their paths begin with `prefix`.
  pub leaves : List ℕ → DirectoryItems → List Staged
  leaves prefix no_more = []
  leaves prefix (next x xs) = item_leaves prefix x ++ leaves prefix xs

-- The number of leaves, or `None` if one of them is an intent-to-add entry.
abbrev pub leaf_count : List Staged → Option ℕ
leaf_count staged = if list_any (λ s. s.later) staged then None else Some (length staged)

-- ---- objects

-- The entry for a directory with these bytes. Without bytes nothing in the directory is in a tree, and it has no entry.
abbrev pub directory_bytes : Kind → List ℕ → List ℕ → List ℕ
directory_bytes kind name [] = []
directory_bytes kind name (b ∷ bytes) = tree_entry_bytes name kinds.Tree (tree_id kind (b ∷ bytes))

-- The entry for a leaf. An intent-to-add leaf is in no tree, and has no entry.
abbrev pub leaf_bytes : List ℕ → EntryKind → ObjectId → Bool → List ℕ
leaf_bytes name k id later = if later then [] else tree_entry_bytes name k id

abbrev mutual
  pub directory_item_bytes : Kind → DirectoryItem → List ℕ
  directory_item_bytes kind (leaf name k id later) = leaf_bytes name k id later
  directory_item_bytes kind (directory name items) = directory_bytes kind name (content kind items)

  -- The bytes of the directory's object.
  pub content : Kind → DirectoryItems → List ℕ
  content kind no_more = []
  content kind (next x xs) = directory_item_bytes kind x ++ content kind xs

-- The id of the directory's object.
abbrev pub items_id : Kind → DirectoryItems → ObjectId
items_id kind items = tree_id kind (content kind items)

-- The object of a directory with these bytes. A directory without bytes has none.
abbrev pub directory_object : Kind → List ℕ → List (ObjectId × List ℕ)
directory_object kind [] = []
directory_object kind (b ∷ bytes) = (tree_id kind (b ∷ bytes), b ∷ bytes) ∷ []

abbrev mutual
  -- The objects of the directories in an item, each after those of the directories below it.
  pub item_objects : Kind → DirectoryItem → List (ObjectId × List ℕ)
  item_objects kind (leaf name k id later) = []
  item_objects kind (directory name items) = objects_below kind items ++ directory_object kind (content kind items)

  pub objects_below : Kind → DirectoryItems → List (ObjectId × List ℕ)
  objects_below kind no_more = []
  objects_below kind (next x xs) = item_objects kind x ++ objects_below kind xs

-- The objects of all directories below, and last the directory's own object. The root has an object even if it is
-- empty.
abbrev pub objects : Kind → DirectoryItems → List (ObjectId × List ℕ)
objects kind items = objects_below kind items ++ (items_id kind items, content kind items) ∷ []

-- ---- valid directories

-- The tree entry of an item, by which items are ordered.
abbrev pub entry_of : Kind → DirectoryItem → TreeEntry
entry_of kind (leaf name k id later) = record { mode = mode_of_kind k; name = name; id = id }
entry_of kind (directory name items) = record { mode = mode_of_kind kinds.Tree; name = name; id = items_id kind items }

abbrev pub entries : Kind → DirectoryItems → List TreeEntry
entries kind no_more = []
entries kind (next x xs) = entry_of kind x ∷ entries kind xs

-- A component of a path: one byte or more, without NUL and slash.
pub record IsPathComponent (name : List ℕ) : Type 0 where
  pub some : name ≢ []
  pub apart : All (λ b. b ≢ 0) name
  pub component : All (λ b. b ≢ 47) name

abbrev mutual
  pub IsDirectoryItem : Kind → DirectoryItem → Type 0
  IsDirectoryItem kind (leaf name k id later) = IsPathComponent name × (id_kind id ≡ kind)
      × (length (id_bytes id) ≡ id_len kind)
  IsDirectoryItem kind (directory name items) =
      IsPathComponent name × (items ≢ no_more) × AreDirectoryItems kind items × IsGitOrdered (entries kind items)

  pub AreDirectoryItems : Kind → DirectoryItems → Type 0
  AreDirectoryItems kind no_more = Unit {0}
  AreDirectoryItems kind (next x xs) = IsDirectoryItem kind x × AreDirectoryItems kind xs

-- The items are a valid directory. Names are components of paths, ids have the hash algorithm `kind`, and items are in
-- git's order. No directory below is empty.
pub record IsDirectory (kind : Kind) (items : DirectoryItems) : Type 0 where
  pub made : AreDirectoryItems kind items
  pub ordered : IsGitOrdered (entries kind items)

-- The items are the directory of these staged entries.
pub record IsTreeOf (kind : Kind) (staged : List Staged) (items : DirectoryItems) : Type 0 where
  pub directory : IsDirectory kind items
  pub leaves : leaves [] items ≡ staged

-- ---- after an error

-- The sink has what it had before, and then the first objects of the directories below that of these entries. These are
-- none, some or all of the objects, but never the directory's own.
pub record HoldsFirst (kind : Kind) (staged : List Staged) (old new : Taken) : Type 0 where
  pub items : DirectoryItems
  pub is_tree : IsTreeOf kind staged items
  pub first : List (ObjectId × List ℕ)
  pub others : List (ObjectId × List ℕ)
  pub parts : objects_below kind items ≡ first ++ others
  pub stored : new ≡ with_objects old first
