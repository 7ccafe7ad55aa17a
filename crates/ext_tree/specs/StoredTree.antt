-- What the bytes of a cache tree preserve, and the trees that bytes can encode (gitformat-index, "Cache tree").
use Rattle.std.specs.Prelude.{◌≡◌, ◌≢◌, ◌<◌, ◌≤◌, ◌^◌, ℕ, All, length, Option, Some, None, IfSome, if◌then◌else◌}
use Rattle.std.specs.Ordering.{is_lt}
use Rattle.index_parts.specs.Id.{id_bytes, id_len, id_kind, null_id}
use Rattle.index_parts.specs.declared.hash.Kind.{Kind}
use Rattle.index_parts.specs.declared.hash.ObjectId.{ObjectId}
use Rattle.ext_tree.specs.Tree.{Node, Nodes, node, none, more, how_many_nodes, node_name, name_cmp, node_depth}
use Rattle.ext_tree.specs.Tree.{NodeIdsAreOf}

-- ---- what bytes preserve

-- without a count no id is stored, and the null id is read
abbrev pub kept_id : Kind → Option ℕ → ObjectId → ObjectId
kept_id kind None id = null_id kind
kept_id kind (Some n) id = id

-- nodes with a node inserted before the first whose name isn't below its own
abbrev pub insert_node : Node → Nodes → Nodes
insert_node t none = more t none
insert_node t (more u us) = if is_lt (name_cmp u t) then more u (insert_node t us) else more t (more u us)

abbrev mutual
  -- the node with the children of each node in the order of their names
  pub stored_node : Kind → Node → Node
  stored_node kind (node name id count children) = node name (kept_id kind count id) count (stored_nodes kind children)

  pub stored_nodes : Kind → Nodes → Nodes
  stored_nodes kind none = none
  stored_nodes kind (more t ts) = insert_node (stored_node kind t) (stored_nodes kind ts)

-- ---- which trees bytes can encode

-- the node's name differs from the name of each of these
abbrev pub IsApartFrom : Node → Nodes → Type 0
IsApartFrom t none = Unit {0}
IsApartFrom t (more u us) = (node_name t ≢ node_name u) × IsApartFrom t us

abbrev mutual
  -- no name has a NUL, no count has more than 31 bits, and siblings have different names
  pub IsPlainNode : Node → Type 0
  IsPlainNode (node name id count children) =
      All (λ b. b ≢ 0) name × IfSome count (λ n. n < 2 ^ 31) × ArePlainNodes children

  pub ArePlainNodes : Nodes → Type 0
  ArePlainNodes none = Unit {0}
  ArePlainNodes (more t ts) = IsPlainNode t × IsApartFrom t ts × ArePlainNodes ts

abbrev mutual
  -- A node has fewer than 2^64 children, and its id has the number of bytes of its hash algorithm. Each tree in memory
  -- is such.
  pub IsSizedNode : Node → Type 0
  IsSizedNode (node name id count children) =
      (length (id_bytes id) ≡ id_len (id_kind id)) × (how_many_nodes children < 2 ^ 64) × AreSizedNodes children

  pub AreSizedNodes : Nodes → Type 0
  AreSizedNodes none = Unit {0}
  AreSizedNodes (more t ts) = IsSizedNode t × AreSizedNodes ts

-- Bytes can encode the tree: all ids are of this hash algorithm, and no node is more than 2048 levels below the root.
-- Names, counts and numbers of children are encodable.
pub record IsStorableTree (kind : Kind) (t : Node) : Type 0 where
  pub plain : IsPlainNode t
  pub ids : NodeIdsAreOf kind t
  pub shallow : node_depth t ≤ 2048
  pub sized : IsSizedNode t
