-- Whether a cache tree agrees with the tree objects that it names (gitformat-index, "Cache tree": the object name of
-- each directory).
use Rattle.std.specs.Prelude.{◌≡◌, ℕ, ◌||◌, Bool, false, List, filter, length, All, Option, Some, None, MatchOption}
use Rattle.std.specs.Prelude.{IsTrue}
use Rattle.std.specs.Cmp.Lexicographic.{slice_cmp}
use Rattle.std.specs.Ordering.{nat_cmp, is_eq}
use Rattle.index_parts.specs.Id.{id_kind}
use Rattle.index_parts.specs.Object.{Found, tree_bytes}
use Rattle.index_parts.specs.TreeObject.{TreeEntry, Lists, is_tree_mode}
use Rattle.index_parts.specs.declared.hash.Kind.{Kind}
use Rattle.index_parts.specs.declared.hash.ObjectId.{ObjectId}
use Rattle.ext_tree.specs.Tree.{Node, Nodes, node, none, more, node_name, how_many_nodes}

-- the entries of a store's tree objects, by id; None if there is no tree with the id
abbrev pub Trees : Type 0
Trees = ObjectId → Option (List TreeEntry)

-- bytes list these entries; without bytes there is no list
abbrev pub ListsEntries : Kind → Option (List ℕ) → Option (List TreeEntry) → Type 0
ListsEntries kind (Some bytes) (Some es) = Lists kind bytes es
ListsEntries kind None None = Unit {0}
ListsEntries kind (Some bytes) None = ⊥
ListsEntries kind None (Some es) = ⊥

-- these are the trees of a store, each with ids of its own id's hash algorithm
abbrev pub AreStoredTrees : (ObjectId → Found) → Trees → Type 0
AreStoredTrees found trees = (id : ObjectId) → ListsEntries (id_kind id) (tree_bytes (found id)) (trees id)

-- the entries that are directories
abbrev pub directories : List TreeEntry → List TreeEntry
directories es = filter (λ e. is_tree_mode e.mode) es

-- whether one of the nodes has this name
abbrev pub has_child : List ℕ → Nodes → Bool
has_child name none = false
has_child name (more t ts) = is_eq (slice_cmp nat_cmp (node_name t) name) || has_child name ts

-- the children are the directories of a tree: each directory has a child of its name, and the numbers are equal
pub record AreChildren (children : Nodes) (es : List TreeEntry) : Type 0 where
  pub each : All (λ e. IsTrue (has_child e.name children)) (directories es)
  pub number : length (directories es) ≡ how_many_nodes children

abbrev mutual
  -- Each node with children has a tree, and the children are its directories. A node without children always agrees.
  pub Agrees : Trees → Node → Type 0
  Agrees trees (node name id count none) = Unit {0}
  Agrees trees (node name id count (more t ts)) =
      MatchOption (trees id) ⊥ (λ es. AreChildren (more t ts) es) × Agree trees (more t ts)

  pub Agree : Trees → Nodes → Type 0
  Agree trees none = Unit {0}
  Agree trees (more t ts) = Agrees trees t × Agree trees ts
