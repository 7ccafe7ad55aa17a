-- The order in which git writes the directories of a cache tree: by the length of their names, then by the bytes of
-- their names. gitformat-index, "Cache tree", specifies no order.
use Rattle.std.specs.Prelude.{ℕ, ◌==◌, nat_lt, min, Bool, true, false, List, [], length, if◌then◌else◌}
use Rattle.std.specs.Prelude.{Option, Some, None, is_some}
use Rattle.ext_tree.specs.Tree.{Node, Nodes, node, none, more, node_name}
use Rattle.ext_tree.specs.TreeImage.{node_bytes}

-- The length of a node's name. Names of 256 bytes and more count as equally long; no file system that git uses has such
-- names.
abbrev pub name_len : Node → ℕ
name_len t = min (length (node_name t)) 256

-- nodes with a node inserted before the first whose name isn't shorter than its own
abbrev pub insert_by_length : Node → Nodes → Nodes
insert_by_length t none = more t none
insert_by_length t (more u us) =
    if nat_lt (name_len u) (name_len t) then more u (insert_by_length t us) else more t (more u us)

abbrev mutual
  -- The tree with shorter names first among the children of each node. Names of equal length keep their order, which is
  -- that of their bytes if the tree was read.
  pub in_git_order : Node → Node
  in_git_order (node name id count children) = node name id count (all_in_git_order children)

  pub all_in_git_order : Nodes → Nodes
  all_in_git_order none = none
  all_in_git_order (more t ts) = insert_by_length (in_git_order t) (all_in_git_order ts)

-- the tree in git's order, if requested, or as it is
abbrev pub ordered_if : Bool → Node → Node
ordered_if true t = in_git_order t
ordered_if false t = t

-- whether the node's name has this length; always true if no length is given
abbrev pub has_len : Option ℕ → Node → Bool
has_len None t = true
has_len (Some len) t = name_len t == len

-- The bytes of a node. If a length is given, they are in git's order, and empty if its name doesn't have that length.
abbrev pub bytes_of_len : Option ℕ → Node → List ℕ
bytes_of_len len t = if has_len len t then node_bytes (ordered_if (is_some len) t) else []
