-- The node that entries give to a directory. Public clauses cite none of these.
use Rattle.std.specs.Prelude.{◌≡◌, ◌≢◌, ◌⊎◌, ℕ, List, [], ◌∷◌, ◌-◌, ◌++◌, All, Contains, false, true, length, take}
use Rattle.std.specs.Prelude.{Option, Some, None}
use Rattle.std.specs.List.Sorted.{IsSorted}
use Rattle.bstr.specs.Owned.{bstring_bytes}
use Rattle.index_parts.specs.declared.hash.Kind.{Kind}
use Rattle.index_parts.specs.declared.hash.ObjectId.{ObjectId}
use Rattle.ext_tree.specs.Tree.{Node, Nodes, node, none, name_cmp, node_name, nodes_from}
use Rattle.index_parts.specs.declared.object.tree.EntryKind.TheVariants as kinds
use Rattle.entry_list.specs.Record.{Record}
use Rattle.tree_encode.specs.Cached.{IsCached}
use Rattle.tree_encode.specs.Directory.{DirectoryItems, IsTreeOf}
use Rattle.tree_encode.specs.Staged.{Staged}
use Rattle.tree_encode.specs.TreeIds.{Spot, GivesTreeId, GivesNone, IsRight, IsFirstWrongSpot, Names, staged_at}
use Rattle.tree_encode.specs.declared.error.Error.{Error as WriteError}
use Rattle.tree_encode.specs.declared.error.Error.TheVariants as writes
use Rattle.tree_encode.specs.declared.tree_ids.Error.{Error}
use Rattle.tree_encode.specs.declared.tree_ids.Error.TheVariants as errors

-- What is staged below a directory gives it this node: that of its tree, that of its sparse directory entry, or none,
-- since nothing there is in a tree.
pub data GivesNode (kind : Kind) (names : List (List ℕ)) (below : List Staged) : Option Node → Type 0 where
  nothing : names ≢ [] → All (λ s. s.later ≡ true) below → GivesNode kind names below None
  its_tree : (name : List ℕ) (items : DirectoryItems) (t : Node) → IsTreeOf kind below items
      → (names ≡ []) ⊎ (below ≢ [])
      → IsCached kind name items t → GivesNode kind names below (Some t)
  whole : (name : List ℕ) (id : ObjectId) (t : Node)
      → below ≡ record { path = []; kind = kinds.Tree; id = id; later = false } ∷ [] → t ≡ node name id (Some 1) none
      → GivesNode kind names below (Some t)

-- The entries give the node to the directory that is reached by these names.
abbrev pub GivesAt : Kind → List Staged → List (List ℕ) → Option Node → Type 0
GivesAt kind staged names given = GivesNode kind names (staged_at names staged) given

-- The children of a node, in order.
abbrev pub children_of : Option Node → Nodes
children_of None = none
children_of (Some (node name id count children)) = children

-- The children of the node are in the order of their names.
abbrev pub IsSortedBelow : Option Node → Type 0
IsSortedBelow given = (ts : List Node) → children_of given ≡ nodes_from ts → IsSorted name_cmp ts

-- One of these nodes that has the name, or `None` if none has it.
abbrev pub IsAmong : List Node → List ℕ → Option Node → Type 0
IsAmong ts name None = All (λ t. node_name t ≢ name) ts
IsAmong ts name (Some t) = Contains ts t × (node_name t ≡ name)

-- A child of a node that has the name, or `None` if none has it.
abbrev pub IsChildOf : Option Node → List ℕ → Option Node → Type 0
IsChildOf given name found = (ts : List Node) × (children_of given ≡ nodes_from ts) × IsAmong ts name found

-- The path of these names, each with a slash after it.
abbrev pub parent_path : List (List ℕ) → List ℕ
parent_path [] = []
parent_path (name ∷ names) = name ++ 47 ∷ parent_path names

-- ---- errors

-- The node isn't right, and the error describes it. Nothing is stated of an allocation failure.
abbrev pub SpotCause : Kind → List Record → Spot → Error → Type 0
SpotCause kind rs s (errors.Other path id count given number) =
    (IsRight kind rs s → ⊥) × Names (bstring_bytes path) id count s × GivesTreeId kind rs s.names given number
SpotCause kind rs s (errors.Ungiven path id count) =
    (IsRight kind rs s → ⊥) × Names (bstring_bytes path) id count s × GivesNone kind rs s.names
SpotCause kind rs s (errors.Entries fault) = ⊥
SpotCause kind rs s errors.Memory = Unit {0}

-- The error describes the first of these nodes that isn't right. Nothing is stated of an allocation failure.
abbrev pub FirstSpotCause : Kind → List Record → List Spot → Error → Type 0
FirstSpotCause kind rs ss (errors.Other path id count given number) =
    IsFirstWrongSpot kind rs ss (λ s. Names (bstring_bytes path) id count s × GivesTreeId kind rs s.names given number)
FirstSpotCause kind rs ss (errors.Ungiven path id count) =
    IsFirstWrongSpot kind rs ss (λ s. Names (bstring_bytes path) id count s × GivesNone kind rs s.names)
FirstSpotCause kind rs ss (errors.Entries fault) = ⊥
FirstSpotCause kind rs ss errors.Memory = Unit {0}

-- An error of the entries is passed on. An allocation failure becomes `Memory`, and so does an error of the sink of
-- these objects, which fails for no other reason.
abbrev pub IsForwarded : WriteError → Error → Type 0
IsForwarded (writes.Sink number) e = e ≡ errors.Memory
IsForwarded writes.TooManyEntries e = e ≡ errors.Entries writes.TooManyEntries
IsForwarded (writes.Unmerged path) e = e ≡ errors.Entries (writes.Unmerged path)
IsForwarded (writes.Mode path mode) e = e ≡ errors.Entries (writes.Mode path mode)
IsForwarded (writes.Path path fault) e = e ≡ errors.Entries (writes.Path path fault)
IsForwarded (writes.OtherKind path) e = e ≡ errors.Entries (writes.OtherKind path)
IsForwarded (writes.NullId path) e = e ≡ errors.Entries (writes.NullId path)
IsForwarded (writes.Both file below) e = e ≡ errors.Entries (writes.Both file below)
IsForwarded writes.Memory e = e ≡ errors.Memory

-- ---- results

-- The id and the count of the given node, if it has a count.
abbrev pub given_node : Option Node → Option (ObjectId × ℕ)
given_node None = None
given_node (Some (node name id None children)) = None
given_node (Some (node name id (Some count) children)) = Some (id, count)

-- The records give this id and count to the directory, or none if there is none.
abbrev pub IsExpectedNode : Kind → List Record → List (List ℕ) → Option (ObjectId × ℕ) → Type 0
IsExpectedNode kind rs names (Some told) = GivesTreeId kind rs names told.0 told.1
IsExpectedNode kind rs names None = GivesNone kind rs names

-- The error has this id and count, and those of the given node if that has a count. Its path is that of the directory,
-- without the slash at the end.
abbrev pub IsSaid : Option Node → List ℕ → ObjectId → ℕ → Error → Type 0
IsSaid given parent id count (errors.Other path i n given_id given_count) =
    (bstring_bytes path ≡ take (length parent - 1) parent) × (i ≡ id) × (n ≡ count)
    × (given_node given ≡ Some (given_id, given_count))
IsSaid given parent id count (errors.Ungiven path i n) =
    (bstring_bytes path ≡ take (length parent - 1) parent) × (i ≡ id) × (n ≡ count) × (given_node given ≡ None)
IsSaid given parent id count (errors.Entries fault) = ⊥
IsSaid given parent id count errors.Memory = ⊥
