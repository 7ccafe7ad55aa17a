-- Whether a cache tree is valid (gitformat-index, "Cache tree").
use Rattle.std.specs.Prelude.{◌≡◌, ℕ, ◌+◌, ◌^◌, ◌<◌, ◌≤◌, [], Option, Some, None, IfSome}
use Rattle.std.specs.Option.{unwrap_or}
use Rattle.std.specs.declared.cmp.Ordering.TheVariants.{Less}
use Rattle.ext_tree.specs.Tree.{Node, Nodes, node, none, more, node_name, name_cmp}

-- the number of entries that a node counts; an invalid one counts none
abbrev pub counted_entries : Node → ℕ
counted_entries (node name id count children) = unwrap_or count 0

abbrev pub entries_sum : Nodes → ℕ
entries_sum none = 0
entries_sum (more t ts) = counted_entries t + entries_sum ts

-- each name is above the one before; the first is above the name of a node before, if there is one
abbrev pub RiseFrom : Option Node → Nodes → Type 0
RiseFrom before none = Unit {0}
RiseFrom None (more t ts) = RiseFrom (Some t) ts
RiseFrom (Some u) (more t ts) = (name_cmp u t ≡ Less) × RiseFrom (Some t) ts

abbrev mutual
  -- At each node, the names of its children increase strictly, and the sum of the children's counts fits into 32 bits.
  -- The sum isn't more than the node's own count, if it has one.
  pub IsSoundNode : Node → Type 0
  IsSoundNode (node name id count children) =
      (entries_sum children < 2 ^ 32) × RiseFrom None children × IfSome count (λ own. entries_sum children ≤ own)
      × AreSoundNodes children

  pub AreSoundNodes : Nodes → Type 0
  AreSoundNodes none = Unit {0}
  AreSoundNodes (more t ts) = IsSoundNode t × AreSoundNodes ts

-- the root has no name
abbrev pub IsSoundTree : Node → Type 0
IsSoundTree t = (node_name t ≡ []) × IsSoundNode t

abbrev mutual
  -- no node counts more than `most` entries
  pub CountsAtMost : ℕ → Node → Type 0
  CountsAtMost most (node name id count children) = IfSome count (λ own. own ≤ most) × CountAtMost most children

  pub CountAtMost : ℕ → Nodes → Type 0
  CountAtMost most none = Unit {0}
  CountAtMost most (more t ts) = CountsAtMost most t × CountAtMost most ts
