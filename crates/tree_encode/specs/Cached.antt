-- The cached tree of a directory (gitformat-index, "Cache tree").
use Rattle.std.specs.Prelude.{◌≡◌, ℕ, List, [], ◌∷◌, ◌++◌, Bool, Some, if◌then◌else◌}
use Rattle.std.specs.List.Sorted.{IsPermutation, IsSorted}
use Rattle.index_parts.specs.declared.hash.Kind.{Kind}
use Rattle.index_parts.specs.declared.hash.ObjectId.{ObjectId}
use Rattle.index_parts.specs.declared.object.tree.EntryKind.{EntryKind}
use Rattle.index_parts.specs.declared.object.tree.EntryKind.TheVariants as kinds
use Rattle.ext_tree.specs.Tree.{Node, node, none, nodes_from, name_cmp}
use Rattle.tree_encode.specs.Directory.{DirectoryItem, DirectoryItems, leaf, directory, no_more, next, content, leaves}
use Rattle.tree_encode.specs.Directory.{leaf_count}
use Rattle.tree_encode.specs.Directory.{items_id}

-- The node of a leaf that is a sparse directory: its count is 1, and it has no children. An intent-to-add leaf and a
-- leaf of another kind have no node.
abbrev pub leaf_nodes : List ℕ → EntryKind → ObjectId → Bool → List Node
leaf_nodes name kinds.Tree id later = if later then [] else node name id (Some 1) none ∷ []
leaf_nodes name kinds.Blob id later = []
leaf_nodes name kinds.BlobExecutable id later = []
leaf_nodes name kinds.Link id later = []
leaf_nodes name kinds.Commit id later = []

-- One node for which `P` holds if the directory has bytes, and otherwise no node.
abbrev pub IsNodeWhere : List ℕ → (Node → Type 0) → List Node → Type 0
IsNodeWhere [] P ts = ts ≡ []
IsNodeWhere (b ∷ bytes) P ts = (t : Node) × (ts ≡ t ∷ []) × P t

-- The node has this name, and the id and the count of these items. Its children are these nodes, in the order of their
-- names.
abbrev pub IsNodeOver : List ℕ → Kind → DirectoryItems → List Node → Node → Type 0
IsNodeOver name kind items ts t =
    (vs : List Node) × IsPermutation ts vs × IsSorted name_cmp vs
    × (t ≡ node name (items_id kind items) (leaf_count (leaves [] items)) (nodes_from vs))

abbrev mutual
  pub AreItemNodes : Kind → DirectoryItem → List Node → Type 0
  AreItemNodes kind (leaf name k id later) ts = ts ≡ leaf_nodes name k id later
  AreItemNodes kind (directory name items) ts =
      IsNodeWhere (content kind items)
      (λ t. (us : List Node) × AreNodes kind items us × IsNodeOver name kind items us t) ts

  -- The nodes of the directories among the items that have an object, in the order of the items.
  pub AreNodes : Kind → DirectoryItems → List Node → Type 0
  AreNodes kind no_more ts = ts ≡ []
  AreNodes kind (next x xs) ts = (us vs : List Node) × (ts ≡ us ++ vs) × AreItemNodes kind x us × AreNodes kind xs vs

-- The node of the directory with this name. It has the directory's id, the number of entries below it, and the nodes of
-- its subdirectories in the order of their names. It has no count if an entry below it is an intent-to-add entry.
abbrev pub IsCached : Kind → List ℕ → DirectoryItems → Node → Type 0
IsCached kind name items t = (us : List Node) × AreNodes kind items us × IsNodeOver name kind items us t
