use Rattle.ext_tree.specs.Tree.{node_of}
use Rattle.ext_tree.proofs.Storables.{storable_of, of_storable}
use Rattle.ext_tree.proofs.Tree.is_storable.Goals as goal

pub returns : goal.returns
returns c =
    let kind = c.args.object_hash in
    let t = node_of c.args.self.now in (
      λ yes. storable_of kind t (c.is_storable_within.ensures.0 yes),
      λ h. c.is_storable_within.ensures.1 (of_storable kind t h),
    )
