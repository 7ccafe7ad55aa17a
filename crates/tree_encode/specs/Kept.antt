-- The counts that a cached tree preserves which was made from entries: those that an old one had (gitformat-index,
-- "Cache tree": the object name of an entry that is valid).
use Rattle.std.specs.Prelude.{◌≡◌, ◌≢◌, ℕ, List, [], Contains, Option, Some, None, IfSome}
use Rattle.std.specs.List.{AllZip}
use Rattle.index_parts.specs.Id.{null_id}
use Rattle.index_parts.specs.declared.hash.Kind.{Kind}
use Rattle.ext_tree.specs.Sound.{RiseFrom}
use Rattle.ext_tree.specs.Tree.{Node, Nodes, node, none, more, node_name}
use Rattle.tree_encode.specs.TreeIds.{Spot, spots}

abbrev mutual
  -- Below the node and each node under it, the names of siblings increase.
  pub HasNamesInOrder : Node → Type 0
  HasNamesInOrder (node name id count children) = RiseFrom None children × HaveNamesInOrder children

  pub HaveNamesInOrder : Nodes → Type 0
  HaveNamesInOrder none = Unit {0}
  HaveNamesInOrder (more t ts) = HasNamesInOrder t × HaveNamesInOrder ts

-- The names, ids and counts of the nodes of a tree that is reached by these names. Without a tree there are none.
abbrev pub spots_of : List (List ℕ) → Option Node → List Spot
spots_of names None = []
spots_of names (Some t) = spots names t

-- The node has a count. The old tree, which is reached by these names, has a node of the same names, id and count.
abbrev pub IsConfirmed : List (List ℕ) → Option Node → Spot → Type 0
IsConfirmed names old s = (s.count ≢ None) × Contains (spots_of names old) s

-- The node without a count, and so with the null id.
abbrev pub uncounted : Kind → Spot → Spot
uncounted kind s = record { names = s.names; id = null_id kind; count = None }

-- What becomes of a node. If the old tree confirms it, it stays as it is. Otherwise it has no count. That all confirmed
-- nodes stay is stated only for an old tree whose siblings are in the order of their names. Trees that were read are.
pub data Becomes (kind : Kind) (names : List (List ℕ)) (old : Option Node) (s t : Spot) : Type 0 where
  kept : IsConfirmed names old s → t ≡ s → Becomes kind names old s t
  dropped : (IfSome old HasNamesInOrder → IsConfirmed names old s → ⊥) → t ≡ uncounted kind s
      → Becomes kind names old s t

-- The tree `new` has the same nodes as `made`. Both are reached by these names. Each node of `new` is what the old tree
-- leaves of that of `made`.
pub record KeepsCounts (kind : Kind) (names : List (List ℕ)) (old : Option Node) (made new : Node) : Type 0 where
  pub name : node_name new ≡ node_name made
  pub each : AllZip (Becomes kind names old) (spots names made) (spots names new)
