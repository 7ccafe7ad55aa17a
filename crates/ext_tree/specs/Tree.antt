-- The cache tree (gitformat-index, "Cache tree") as plain data, and the bytes that encode one.
use Rattle.std.specs.Prelude.{◌≡◌, ◌≢◌, ℕ, ◌+◌, ◌*◌, ◌≤◌, max, List, [], ◌∷◌, ◌++◌, All, length, Option, MatchOption}
use Rattle.std.specs.List.{AllByRecursion}
use Rattle.std.specs.List.Sorted.{IsPermutation}
use Rattle.std.specs.Ordering.{nat_cmp}
use Rattle.std.specs.declared.cmp.Ordering.{Ordering}
use Rattle.std.specs.declared.cmp.Ordering.TheVariants.{Less}
use Rattle.std.specs.Cmp.Lexicographic.{slice_cmp}
use Rattle.index_parts.specs.Id.{id_len, id_kind, make_id, null_id}
use Rattle.index_parts.specs.declared.hash.Kind.{Kind}
use Rattle.index_parts.specs.declared.hash.ObjectId.{ObjectId}
use Rattle.ext_tree.specs.Decimal.{IsDecimal, IsCount}
use Rattle.index_parts.specs.Limit.{IsWithin}
use Rattle.ext_tree.specs.declared.Tree.{Tree}
use Rattle.ext_tree.specs.declared.Tree.TheOpen.{Tree-F}
use Rattle.ext_tree.specs.declared.Tree.TheFolds.{fold-Tree}

mutual
  -- a directory: its name, its id, the number of entries below it if that is known, and its subdirectories
  pub data Node : Type 0 where
    node : (name : List ℕ) (id : ObjectId) (count : Option ℕ) (children : Nodes) → Node

  pub data Nodes : Type 0 where
    none : Nodes
    more : (first : Node) (others : Nodes) → Nodes

abbrev pub how_many_nodes : Nodes → ℕ
how_many_nodes none = 0
how_many_nodes (more t ts) = how_many_nodes ts + 1

abbrev pub nodes_from : List Node → Nodes
nodes_from [] = none
nodes_from (t ∷ ts) = more t (nodes_from ts)

abbrev pub node_step : Tree-F Node → Node
node_step t = node t.name.items t.id t.num_entries (nodes_from t.children.items)

-- the tree as plain data
abbrev pub node_of : Tree → Node
node_of = fold-Tree Node node_step

-- the head of a node: its name, its count, its id, and the number of its children
pub record NodeHead : Type 0 where
  pub name : List ℕ
  pub count : Option ℕ
  pub id : ObjectId
  pub number : ℕ

-- The name up to a NUL, the count up to a space, the number of children up to a newline, and the id. Only a node with a
-- count has an id. At 104 bytes each, the children are within the limit.
pub record IsNodeHead (kind : Kind) (limit : Option ℕ) (bytes : List ℕ) (h : NodeHead) (tail : List ℕ) : Type 0 where
  pub count : List ℕ
  pub number : List ℕ
  pub id : List ℕ
  pub parts : bytes ≡ h.name ++ 0 ∷ (count ++ 32 ∷ (number ++ 10 ∷ (id ++ tail)))
  pub name_apart : All (λ b. b ≢ 0) h.name
  pub is_count : IsCount count h.count
  pub is_number : IsDecimal number h.number
  pub within : IsWithin limit (104 * h.number)
  pub is_id : MatchOption h.count
      ((id ≡ []) × (h.id ≡ null_id kind)) (λ _. (length id ≡ id_len kind) × (h.id ≡ make_id kind id))

-- Bytes begin with a head, and the rest is long enough for the children that it declares. A node has six bytes or more:
-- a NUL, a count as `-1`, a space, a number as `0`, and a newline.
pub record HasNodeHead (kind : Kind) (limit : Option ℕ) (bytes : List ℕ) : Type 0 where
  pub head : NodeHead
  pub tail : List ℕ
  pub is_head : IsNodeHead kind limit bytes head tail
  pub room : 6 * head.number ≤ length tail

abbrev mutual
  -- bytes encode a node and everything below it, in preorder, and the rest
  pub IsNodeEncoding : Kind → Option ℕ → Node → List ℕ → List ℕ → Type 0
  IsNodeEncoding kind limit (node name id count children) bytes rest =
      (tail : List ℕ)
      × IsNodeHead kind limit bytes
      (record { name = name; count = count; id = id; number = how_many_nodes children }) tail
      × AreNodeEncodings kind limit children tail rest

  -- bytes encode these nodes, one after another, and the rest
  pub AreNodeEncodings : Kind → Option ℕ → Nodes → List ℕ → List ℕ → Type 0
  AreNodeEncodings kind limit none bytes rest = bytes ≡ rest
  AreNodeEncodings kind limit (more t ts) bytes rest =
      (middle : List ℕ) × IsNodeEncoding kind limit t bytes middle × AreNodeEncodings kind limit ts middle rest

abbrev mutual
  -- the number of levels below a node
  pub node_depth : Node → ℕ
  node_depth (node name id count children) = nodes_depth children

  pub nodes_depth : Nodes → ℕ
  nodes_depth none = 0
  nodes_depth (more t ts) = max (node_depth t + 1) (nodes_depth ts)

abbrev mutual
  -- all ids in a tree are of this hash algorithm
  pub NodeIdsAreOf : Kind → Node → Type 0
  NodeIdsAreOf kind (node name id count children) = (id_kind id ≡ kind) × NodesIdsAreOf kind children

  pub NodesIdsAreOf : Kind → Nodes → Type 0
  NodesIdsAreOf kind none = Unit {0}
  NodesIdsAreOf kind (more t ts) = NodeIdsAreOf kind t × NodesIdsAreOf kind ts

abbrev pub node_name : Node → List ℕ
node_name (node name id count children) = name

-- the order of nodes by the bytes of their names
abbrev pub name_cmp : Node → Node → Ordering
name_cmp t u = slice_cmp nat_cmp (node_name t) (node_name u)

-- each name is above those before it
abbrev pub NamesRise : List Node → Type 0
NamesRise [] = Unit {0}
NamesRise (t ∷ ts) = AllByRecursion (λ u. name_cmp t u ≡ Less) ts × NamesRise ts

abbrev mutual
  -- the second node is the first with the children of every node sorted by name; sibling names differ
  pub SortsChildren : Node → Node → Type 0
  SortsChildren (node name id count children) t =
      (ts : List Node) × SortsEach children ts
      × ((vs : List Node) × IsPermutation ts vs × NamesRise vs × (t ≡ node name id count (nodes_from vs)))

  pub SortsEach : Nodes → List Node → Type 0
  SortsEach none ts = ts ≡ []
  SortsEach (more u us) ts = (t : Node) × (rest : List Node) × (ts ≡ t ∷ rest) × SortsChildren u t × SortsEach us rest

-- bytes encode a node with at most `levels` levels below it, and the rest; sorted, the node is t
pub record IsNode (kind : Kind) (limit : Option ℕ) (levels : ℕ) (bytes : List ℕ) (t : Node) (rest : List ℕ)
    : Type 0 where
  pub spelled : Node
  pub spells : IsNodeEncoding kind limit spelled bytes rest
  pub shallow : node_depth spelled ≤ levels
  pub sorts : SortsChildren spelled t

-- bytes are a cache tree: a root with at most 2048 levels below it, and nothing after it
abbrev pub IsTree : Kind → Option ℕ → List ℕ → Node → Type 0
IsTree kind limit bytes t = IsNode kind limit 2048 bytes t []
