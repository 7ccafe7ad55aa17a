-- The lines of a cache tree extension (TREE), one for each directory (the library's own).
use Rattle.std.specs.Prelude.{ℕ, ◌==◌, List, [], ◌∷◌, ◌++◌, length, Option, if◌then◌else◌}
use Rattle.hex.specs.Hex.{encode_lower}
use Rattle.index_parts.specs.Id.{id_bytes}
use Rattle.index_parts.specs.declared.hash.ObjectId.{ObjectId}
use Rattle.ext_tree.specs.Tree.{Node, Nodes, node, none, more}
use Rattle.ext_tree.specs.TreeImage.{count_bytes}
use Rattle.ext_tree.specs.declared.Tree.{Tree}
use Rattle.ext_tree.specs.declared.Tree.TheViews.{out-Tree}
use Rattle.base_text.specs.Line.{line_end, shown_path}
use Rattle.base_text.specs.declared.lines.Lines.{Lines}
use Rattle.view_list.specs.Line.{space, tab}

abbrev pub slash : ℕ
slash = 47

-- The id in base 16, a space, the number of entries or -1, a tab, the path in the given style, and the end of the line.
abbrev pub directory_line : Lines → List ℕ → ObjectId → Option ℕ → List ℕ
directory_line style path id count = encode_lower (id_bytes id) ++ (space ∷ []) ++ count_bytes count ++ (tab ∷ [])
    ++ shown_path style path ++ (line_end style ∷ [])

-- The line of a tree with this path.
abbrev pub tree_line : Lines → List ℕ → Tree → List ℕ
tree_line style path tree = directory_line style path (out-Tree tree).id (out-Tree tree).num_entries

-- The prefix of the names in a directory with this path: the path and a slash, and nothing for the root.
abbrev pub name_prefix : List ℕ → List ℕ
name_prefix path = if length path == 0 then [] else path ++ (slash ∷ [])

abbrev mutual
  -- The lines of a directory and of all below it, in preorder. The path of the directory is `front` with its name
  -- appended.
  pub subtree_lines : Lines → List ℕ → Node → List ℕ
  subtree_lines style front (node name id count children) =
      directory_line style (front ++ name) id count ++ all_subtree_lines style (name_prefix (front ++ name)) children

  pub all_subtree_lines : Lines → List ℕ → Nodes → List ℕ
  all_subtree_lines style front none = []
  all_subtree_lines style front (more t ts) = subtree_lines style front t ++ all_subtree_lines style front ts
