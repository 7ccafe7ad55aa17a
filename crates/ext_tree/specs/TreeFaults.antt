-- The first error of a cache tree (gitformat-index, "Cache tree").
use Rattle.std.specs.Prelude.{◌≡◌, ◌⊎◌, ℕ, ◌+◌, ◌^◌, ◌==◌, nat_le, nat_lt, length, Result, Ok, Err, List, [], ◌∷◌}
use Rattle.std.specs.Prelude.{Option, Some, None, if◌then◌else◌}
use Rattle.std.specs.Ordering.{is_lt}
use Rattle.bstr.specs.Owned.{bstring_bytes}
use Rattle.index_parts.specs.declared.hash.ObjectId.{ObjectId}
use Rattle.index_parts.specs.TreeObject.{TreeEntry}
use Rattle.ext_tree.specs.Agreement.{Trees, directories, has_child, Agrees}
use Rattle.index_extensions.specs.ExtensionValue.{option_or}
use Rattle.ext_tree.specs.Sound.{counted_entries, entries_sum, IsSoundTree}
use Rattle.ext_tree.specs.Tree.{Node, Nodes, node, none, more, node_name, name_cmp, how_many_nodes}
use Rattle.ext_tree.specs.declared.verify.Error.{Error}
use Rattle.ext_tree.specs.declared.verify.Error.TheVariants as errors

pub data TreeFault : Type 0 where
  root_with_name : (name : List ℕ) → TreeFault
  too_many_entries : TreeFault
  out_of_order : (parent : ObjectId) (current previous : List ℕ) → TreeFault
  too_few_counted : (actual expected : ℕ) → TreeFault
  no_tree : (id : ObjectId) → TreeFault
  missing_directory : (parent id : ObjectId) (name : List ℕ) → TreeFault
  other_number : (id : ObjectId) (expected actual : ℕ) → TreeFault
  too_many_counted : (name : List ℕ) (actual expected : ℕ) → TreeFault

abbrev pub tree_name_fault : List ℕ → Option TreeFault
tree_name_fault [] = None
tree_name_fault (b ∷ name) = Some (root_with_name (b ∷ name))

abbrev pub sum_fault : ℕ → Option TreeFault
sum_fault sum = if nat_lt sum (2 ^ 32) then None else Some too_many_entries

abbrev pub order_fault : ObjectId → Option Node → Node → Option TreeFault
order_fault parent None t = None
order_fault parent (Some u) t =
    if is_lt (name_cmp u t) then None else Some (out_of_order parent (node_name t) (node_name u))

abbrev pub count_fault : Option ℕ → ℕ → Option TreeFault
count_fault None sum = None
count_fault (Some own) sum = if nat_le sum own then None else Some (too_few_counted sum own)

-- The first error among siblings, child by child: their sum, then the order of their names. The children before have
-- the sum `sum`, and `before` is the last of them.
abbrev pub row_fault : ObjectId → ℕ → Option Node → Nodes → Option TreeFault
row_fault parent sum before none = None
row_fault parent sum before (more t ts) =
    option_or (sum_fault (sum + counted_entries t))
    (option_or (order_fault parent before t) (row_fault parent (sum + counted_entries t) (Some t) ts))

-- the error of a directory that a tree lists, if no child has its name
abbrev pub child_fault : ObjectId → Nodes → TreeEntry → Option TreeFault
child_fault parent children e = if has_child e.name children then None else Some (missing_directory parent e.id e.name)

abbrev pub missing_fault : ObjectId → Nodes → List TreeEntry → Option TreeFault
missing_fault parent children [] = None
missing_fault parent children (e ∷ es) = option_or (child_fault parent children e) (missing_fault parent children es)

abbrev pub number_fault : ObjectId → ℕ → ℕ → Option TreeFault
number_fault id expected actual = if expected == actual then None else Some (other_number id expected actual)

-- the first error of a node's tree: directory by directory, and then their number
abbrev pub listed_fault : ObjectId → Nodes → Option (List TreeEntry) → Option TreeFault
listed_fault id children None = Some (no_tree id)
listed_fault id children (Some es) =
    option_or (missing_fault id children (directories es))
    (number_fault id (length (directories es)) (how_many_nodes children))

-- the first error of the tree of a node with children, if trees are looked up
abbrev pub object_fault : Option Trees → ObjectId → Nodes → Option TreeFault
object_fault None id children = None
object_fault (Some trees) id none = None
object_fault (Some trees) id (more t ts) = listed_fault id (more t ts) (trees id)

abbrev mutual
  -- The first error at a node: the children together, then its tree, then each child with everything below it in turn,
  -- and last its own count.
  pub node_fault : Option Trees → Node → Option TreeFault
  node_fault trees (node name id count children) =
      option_or (row_fault id 0 None children)
      (option_or (object_fault trees id children)
      (option_or (nodes_fault trees children) (count_fault count (entries_sum children))))

  pub nodes_fault : Option Trees → Nodes → Option TreeFault
  nodes_fault trees none = None
  nodes_fault trees (more t ts) = option_or (node_fault trees t) (nodes_fault trees ts)

-- the first error of a tree; the root's name comes before everything else
abbrev pub first_fault : Option Trees → Node → Option TreeFault
first_fault trees t = option_or (tree_name_fault (node_name t)) (node_fault trees t)

-- the first error of a tree if no trees are looked up
abbrev pub tree_fault : Node → Option TreeFault
tree_fault t = first_fault None t

-- ---- the first node in preorder that counts more than `entries` entries

abbrev pub excess_fault : ℕ → List ℕ → Option ℕ → Option TreeFault
excess_fault most name None = None
excess_fault most name (Some count) = if nat_le count most then None else Some (too_many_counted name count most)

abbrev mutual
  pub excess_in : ℕ → Node → Option TreeFault
  excess_in most (node name id count children) = option_or (excess_fault most name count) (excess_among most children)

  pub excess_among : ℕ → Nodes → Option TreeFault
  excess_among most none = None
  excess_among most (more t ts) = option_or (excess_in most t) (excess_among most ts)

-- ---- errors

-- an error describes its tree error; out of memory may replace a tree error that has a name
abbrev pub IsErrorOf : Error → TreeFault → Type 0
IsErrorOf (errors.RootWithName name) fault = fault ≡ root_with_name (bstring_bytes name)
IsErrorOf (errors.EntriesCount actual expected) fault = fault ≡ too_few_counted actual expected
IsErrorOf errors.EntriesCountOverflow fault = fault ≡ too_many_entries
IsErrorOf (errors.OutOfOrder parent current previous) fault =
    fault ≡ out_of_order parent (bstring_bytes current) (bstring_bytes previous)
IsErrorOf (errors.EntriesCountExceedsIndex name actual expected) fault =
    fault ≡ too_many_counted (bstring_bytes name) actual expected
IsErrorOf (errors.TreeNodeNotFound id) fault = fault ≡ no_tree id
IsErrorOf (errors.MissingTreeDirectory parent id name) fault = fault ≡ missing_directory parent id (bstring_bytes name)
IsErrorOf (errors.TreeNodeChildcountMismatch id expected actual) fault = fault ≡ other_number id expected actual
IsErrorOf errors.Memory (root_with_name name) = Unit {0}
IsErrorOf errors.Memory (missing_directory parent id name) = Unit {0}
IsErrorOf errors.Memory (no_tree id) = ⊥
IsErrorOf errors.Memory (other_number id expected actual) = ⊥
IsErrorOf errors.Memory (too_many_counted name actual expected) = Unit {0}
IsErrorOf errors.Memory (out_of_order parent current previous) = Unit {0}
IsErrorOf errors.Memory too_many_entries = ⊥
IsErrorOf errors.Memory (too_few_counted actual expected) = ⊥

-- there is a tree error, and the error describes it
abbrev pub NodeCause : Error → Option TreeFault → Type 0
NodeCause e found = (fault : TreeFault) × (found ≡ Some fault) × IsErrorOf e fault

-- there is a tree error that the error describes, or memory for an object couldn't be allocated
abbrev pub NodeOrMemoryCause : Error → Option TreeFault → Type 0
NodeOrMemoryCause e found = (e ≡ errors.Memory) ⊎ NodeCause e found

-- the result of the check if a store's trees are looked up
abbrev pub Judges : Trees → Node → Result (Unit {0}) Error → Type 0
Judges trees t (Ok u) = IsSoundTree t × Agrees trees t
Judges trees t (Err e) = NodeOrMemoryCause e (first_fault (Some trees) t)
