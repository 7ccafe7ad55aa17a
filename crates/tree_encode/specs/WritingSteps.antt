-- The results of the steps of writing a directory. Public clauses cite none of these.
use Rattle.std.specs.Prelude.{◌≡◌, ◌≢◌, ◌⊎◌, ℕ, List, [], ◌∷◌, ◌++◌, All, drop, length, map, Bool, Option, Some, None}
use Rattle.std.specs.Prelude.{if◌then◌else◌}
use Rattle.std.specs.List.{AllPairs, list_any}
use Rattle.std.specs.List.Sorted.{IsPermutation, IsSorted}
use Rattle.std.specs.declared.cmp.Ordering.TheVariants.{Less}
use Rattle.index_parts.specs.Id.{id_bytes, id_kind, id_len}
use Rattle.index_parts.specs.declared.hash.Kind.{Kind}
use Rattle.entry_list.specs.Order.{path_cmp}
use Rattle.entry_list.specs.Record.{Record}
use Rattle.entry_list.specs.TreeOrder.{IsGitOrdered, sorted_name}
use Rattle.ext_tree.specs.Tree.{Node, name_cmp, node, node_of, nodes_from}
use Rattle.tree_encode.specs.Cached.{AreNodes, IsNodeWhere}
use Rattle.tree_encode.specs.Directory.{DirectoryItems, AreDirectoryItems, content, entries, leaves, objects_below}
use Rattle.tree_encode.specs.Objects.{Taken, tree_id, with_objects}
use Rattle.tree_encode.specs.Refusals.{HasPathPrefix, NameCheck, IsInside, IsTreePath}
use Rattle.tree_encode.specs.Staged.{Staged, without_prefix, staged_in}
use Rattle.tree_encode.specs.declared.write.Made.{Made}

-- The first component of a path's rest, without the slash after it (`name`) and with it (`shown`).
pub record IsComponent (tail name shown : List ℕ) : Type 0 where
  pub component : All (λ b. b ≢ 47) name
  pub is : (shown ≡ name ++ 47 ∷ []) ⊎ ((shown ≡ name) × (tail ≡ name))
  pub rest : List ℕ
  pub parts : tail ≡ shown ++ rest

-- A path in two parts: its first name, and what follows the slash, if there is one.
abbrev pub IsPathSplit : List ℕ → List ℕ → Option (List ℕ) → Type 0
IsPathSplit path name None = path ≡ name
IsPathSplit path name (Some rest) = path ≡ name ++ 47 ∷ rest

-- What records stage, without the first `prefix_len` bytes of the paths.
abbrev pub staged_below : ℕ → List Record → List Staged
staged_below prefix_len rs = map (without_prefix prefix_len) (staged_in rs)

abbrev pub paths : List Staged → List (List ℕ)
paths ss = map (λ s. s.path) ss

-- After its first `prefix_len` bytes, the path continues with `shown`.
abbrev pub Goes : ℕ → List ℕ → Staged → Type 0
Goes prefix_len shown s = HasPathPrefix (drop prefix_len s.path) shown

-- A leaf after a prefix: its path is made of names, and its id has the hash algorithm `kind`.
pub record IsLeaf (kind : Kind) (levels : ℕ) (s : Staged) : Type 0 where
  pub check : NameCheck
  pub path : IsTreePath check levels s.kind s.path
  pub of_kind : id_kind s.id ≡ kind
  pub len : length (id_bytes s.id) ≡ id_len kind

-- What is staged after a prefix can be written as trees.
pub record IsReady (kind : Kind) (levels : ℕ) (ss : List Staged) : Type 0 where
  pub each : All (IsLeaf kind levels) ss
  pub rise : AllPairs (λ s t. path_cmp s.path t.path ≡ Less) ss
  pub outside : AllPairs (λ s t. IsInside t.path s → ⊥) ss

-- The first component of the path is greater than `last`.
abbrev pub Ahead : List ℕ → Staged → Type 0
Ahead last s = (name shown : List ℕ) → IsComponent s.path name shown → path_cmp last shown ≡ Less

-- Whether one of the staged entries is an intent-to-add entry.
abbrev pub any_later : List Staged → Bool
any_later ss = list_any (λ s. s.later) ss

-- The node of a directory that is finished.
abbrev pub IsFinished : Kind → List ℕ → Made → Node → Type 0
IsFinished kind name m t =
    (vs : List Node) × IsPermutation (map node_of m.children.items) vs × IsSorted name_cmp vs
    × (t ≡ node name (tree_id kind m.bytes.items) (if m.later then None else Some m.count) (nodes_from vs))

-- The node of a finished directory if it has bytes, and otherwise no node.
abbrev pub IsMadeNode : Kind → List ℕ → Made → List Node → Type 0
IsMadeNode kind name m ts = IsNodeWhere m.bytes.items (IsFinished kind name m) ts

-- A directory is begun. It has the bytes, the nodes and the number of some items. The sink has what it had before, and
-- then the objects below these items. The names in `left` follow.
pub record IsBegunDirectory (kind : Kind) (staged left : List Staged) (m : Made) (old new : Taken) : Type 0 where
  pub items : DirectoryItems
  pub made : AreDirectoryItems kind items
  pub ordered : IsGitOrdered (entries kind items)
  pub last : List ℕ
  pub follows : All (λ e. (s : List ℕ) → path_cmp last s ≡ Less → path_cmp (sorted_name e) s ≡ Less)
      (entries kind items)
  pub ahead : All (Ahead last) left
  pub listed : leaves [] items ≡ staged
  pub is_content : m.bytes.items ≡ content kind items
  pub nodes : AreNodes kind items (map node_of m.children.items)
  pub count : m.count ≡ length staged
  pub later : m.later ≡ any_later staged
  pub stored : new ≡ with_objects old (objects_below kind items)
