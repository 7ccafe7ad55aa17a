-- The cache tree after an edit of a path (gitformat-index, "Cache tree": an entry that is invalidated has a negative
-- number of entries, and no object name). Each definition works for children in any order.
use Rattle.std.specs.Prelude.{ℕ, ◌+◌, Bool, List, Option, Some, None, take, drop, if◌then◌else◌}
use Rattle.std.specs.Cmp.Lexicographic.{slice_cmp}
use Rattle.std.specs.Ordering.{nat_cmp, is_eq}
use Rattle.index_parts.specs.Id.{id_kind, null_id}
use Rattle.index_parts.specs.Path.{slash_of}
use Rattle.ext_tree.specs.Tree.{Node, Nodes, node, none, more, node_name}

-- the node has this name
abbrev pub is_node_named : List ℕ → Node → Bool
is_node_named name t = is_eq (slice_cmp nat_cmp (node_name t) name)

abbrev mutual
  -- The node loses its count and its id. Below it, the path's directories are invalidated too.
  pub invalidated : List ℕ → Node → Node
  invalidated path (node name id count children) =
      node name (null_id (id_kind id)) None (invalidated_below path (slash_of path) children)

  -- With a slash in the path, the first child whose name is before it is invalidated by the rest. Without one, the
  -- first child with that name is removed, since a file is there now. Other children don't change.
  pub invalidated_below : List ℕ → Option ℕ → Nodes → Nodes
  invalidated_below path slash none = none
  invalidated_below path None (more t ts) =
      if is_node_named path t then ts else more t (invalidated_below path None ts)
  invalidated_below path (Some k) (more t ts) =
      if is_node_named (take k path) t then more (invalidated (drop (k + 1) path) t) ts
      else more t (invalidated_below path (Some k) ts)
