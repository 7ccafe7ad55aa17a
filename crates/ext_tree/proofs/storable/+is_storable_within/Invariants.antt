use Rattle.std.proofs.Common.{drop}
use Rattle.std.specs.Prelude.{◌↔◌}
use Rattle.ext_tree.specs.StorableSteps.{AreStorableWithin}
use Rattle.ext_tree.proofs.Sounds.{row_of_trees}
use Rattle.ext_tree.proofs.storable.+is_storable_within.Given as goal

-- bytes can encode all children if they can encode those from here on
abbrev pub invariant-loop-child : goal.invariant-loop-child
invariant-loop-child l = AreStorableWithin l.kind l.levels (row_of_trees l.children) ↔ AreStorableWithin l.kind l.levels
    (row_of_trees (drop l.child-index l.children))
