use Rattle.std.proofs.Common.{None, ap, refl}
use Rattle.index_parts.specs.declared.hash.ObjectId.{ObjectId}
use Rattle.ext_tree.specs.declared.Tree as trees
use Rattle.tree_encode.specs.Kept.{dropped, kept}
use Rattle.tree_encode.proofs.kept.keep_count.Goals as goal

pub returns-then-is_confirmed-clause-spot : goal.returns-then-is_confirmed-clause-spot
returns-then-is_confirmed-clause-spot c = λ names. kept (c.if-is_confirmed.ensures.yes refl names) refl

pub returns-clause-spot : goal.returns-clause-spot
unfolding trees.out-Tree denote.Hole.Carrier.out trees.roll-Tree denote.Hole.Carrier.roll
returns-clause-spot c = λ names. dropped (λ order. c.if-is_confirmed.ensures.no refl names)
    (ap (λ (x : ObjectId). record { names = names; id = x; count = None }) c.null-made.ensures)
