-- The requirements of the checks of an index (gitformat-index, "Index entries are sorted in ascending order", "Cache
-- tree").
use Rattle.std.specs.Prelude.{◌<◌, ◌^◌, IfSome, length}
use Rattle.ext_tree.specs.Sound.{CountsAtMost, IsSoundTree}
use Rattle.entry_list.specs.Order.{IsStrictlyOrdered}
use Rattle.index_model.specs.Contents.{Contents}
use Rattle.tree_encode.specs.Refusals.{AreFit}
use Rattle.tree_encode.specs.Staged.{merged_in}
use Rattle.tree_encode.specs.TreeIds.{AreRight, any_name}

-- Path and stage strictly increase. If there is a cache tree, it is consistent, no node counts more than there are
-- records, and each node is right. No merged entry is invalid, and there are fewer than 2^31 of them.
pub record IsSoundIndex (v : Contents) : Type 0 where
  pub ordered : IsStrictlyOrdered v.records
  pub together : IfSome v.extensions.tree (λ t. IsSoundTree t × CountsAtMost (length v.records) t)
  pub right : IfSome v.extensions.tree (AreRight v.kind v.records)
  pub fit : IfSome v.extensions.tree (λ t. AreFit any_name v.kind (merged_in v.records))
  pub few : IfSome v.extensions.tree (λ t. length (merged_in v.records) < 2 ^ 31)
