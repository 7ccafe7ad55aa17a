-- How the code checks whether bytes can encode a tree (gitformat-index, "Cache tree"): node by node, each with the
-- number of levels that are allowed below it. Public clauses cite none of these.
use Rattle.std.specs.Prelude.{◌≡◌, ◌≢◌, ◌<◌, ◌-◌, ◌^◌, ℕ, All, length, Option, Some, None, IfSome}
use Rattle.std.specs.declared.cmp.Ordering.TheVariants.{Less}
use Rattle.index_parts.specs.Id.{id_bytes, id_len, id_kind}
use Rattle.index_parts.specs.declared.hash.Kind.{Kind}
use Rattle.ext_tree.specs.Tree.{Node, Nodes, node, none, more, how_many_nodes, name_cmp}
use Rattle.ext_tree.specs.StoredTree.{IsApartFrom}

-- A node's name has no NUL, its count has at most 31 bits, and its id is of the hash algorithm and has the number of
-- bytes of such ids.
abbrev pub IsPlainHead : Kind → Node → Type 0
IsPlainHead kind (node name id count children) =
    All (λ b. b ≢ 0) name × IfSome count (λ n. n < 2 ^ 31) × (id_kind id ≡ kind)
    × (length (id_bytes id) ≡ id_len (id_kind id))

-- the node's name is above that of the node before, if there is one
abbrev pub IsSortedAfter : Option Node → Node → Type 0
IsSortedAfter None t = Unit {0}
IsSortedAfter (Some u) t = name_cmp u t ≡ Less

-- no two nodes have equal names
abbrev pub AreApart : Nodes → Type 0
AreApart none = Unit {0}
AreApart (more t ts) = IsApartFrom t ts × AreApart ts

abbrev mutual
  -- Bytes can encode the node with everything below it. That has at most `levels` levels, and each node fewer than 2^64
  -- children.
  pub IsStorableWithin : Kind → ℕ → Node → Type 0
  IsStorableWithin kind levels (node name id count children) =
      IsPlainHead kind (node name id count children) × (how_many_nodes children < 2 ^ 64) × AreApart children
      × AreStorableWithin kind levels children

  pub AreStorableWithin : Kind → ℕ → Nodes → Type 0
  AreStorableWithin kind levels none = Unit {0}
  AreStorableWithin kind levels (more t ts) =
      (0 < levels) × IsStorableWithin kind (levels - 1) t × AreStorableWithin kind levels ts
