-- What stays true of a cache tree if a path is invalidated.
use Rattle.std.proofs.Common.{ℕ, ◌+◌, true, false, List, Option, Some, None, cond}
use Rattle.std.specs.Prelude.{take, drop}
use Rattle.ext_tree.specs.Sound.{CountsAtMost, CountAtMost}
use Rattle.ext_tree.specs.Tree.{Node, Nodes, node, none, more}
use Rattle.ext_tree.specs.Invalidation.{is_node_named, invalidated, invalidated_below}
use Rattle.index_parts.specs.Path.{slash_of}

mutual
  -- if no node counts more than `most` entries, none does afterwards
  pub counts_stay : (most : ℕ) (path : List ℕ) (t : Node) → CountsAtMost most t
      → CountsAtMost most (invalidated path t)
  counts_stay most path (node name id count ts) h = (tt, count_stay most path (slash_of path) ts h.1)

  count_stay : (most : ℕ) (path : List ℕ) (slash : Option ℕ) (ts : Nodes) → CountAtMost most ts
      → CountAtMost most (invalidated_below path slash ts)
  count_stay most path slash none h = tt
  count_stay most path None (more t ts) h = elim (is_node_named path t) as (λ b. CountAtMost most
      (cond b ts (more t (invalidated_below path None ts)))) [
        | true ↦ h.1
        | false ↦ (h.0, count_stay most path None ts h.1)
      ]
  count_stay most path (Some k) (more t ts) h = elim (is_node_named (take k path) t) as (λ b. CountAtMost most
      (cond b (more (invalidated (drop (k + 1) path) t) ts)
      (more t (invalidated_below path (Some k) ts)))) [
        | true ↦ (counts_stay most (drop (k + 1) path) t h.0, h.1)
        | false ↦ (h.0, count_stay most path (Some k) ts h.1)
      ]
