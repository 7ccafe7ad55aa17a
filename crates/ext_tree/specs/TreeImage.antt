-- The bytes that are written for a cache tree (gitformat-index, "Cache tree").
use Rattle.std.specs.Prelude.{ℕ, List, [], ◌∷◌, ◌++◌, codes, decimal, Option, Some, None}
use Rattle.index_parts.specs.Id.{id_bytes}
use Rattle.index_parts.specs.declared.hash.ObjectId.{ObjectId}
use Rattle.index_extensions.specs.Encoding.{item_of}
use Rattle.index_extensions.specs.Walk.{Item}
use Rattle.ext_tree.specs.Tree.{Node, Nodes, node, none, more, how_many_nodes}

-- the number of entries, or -1 if it isn't known
abbrev pub count_bytes : Option ℕ → List ℕ
count_bytes None = codes "-1"
count_bytes (Some n) = decimal n

-- the id of a node; only a node with a known number of entries has one
abbrev pub id_part : Option ℕ → ObjectId → List ℕ
id_part None id = []
id_part (Some n) id = id_bytes id

-- the bytes after a node's name and before its children
unfoldable pub behind_name : ObjectId → Option ℕ → ℕ → List ℕ
behind_name id count number = 0 ∷ (count_bytes count ++ 32 ∷ (decimal number ++ 10 ∷ id_part count id))

-- the bytes of a node before its children
unfoldable pub node_head_bytes : List ℕ → ObjectId → Option ℕ → ℕ → List ℕ
node_head_bytes name id count number = name ++ behind_name id count number

abbrev mutual
  -- a node and everything below it in preorder, the children in the order of the value
  pub node_bytes : Node → List ℕ
  node_bytes (node name id count children) =
      node_head_bytes name id count (how_many_nodes children) ++ nodes_bytes children

  pub nodes_bytes : Nodes → List ℕ
  nodes_bytes none = []
  nodes_bytes (more t ts) = node_bytes t ++ nodes_bytes ts

-- a cache tree as an extension
abbrev pub tree_item : Node → Item
tree_item t = item_of (codes "TREE") (node_bytes t)
