use Rattle.std.proofs.Common.{[], ◌∷◌, List, ℕ, map, ap, subst, ◌∙◌}
use Rattle.tree_encode.specs.Cached.{IsNodeWhere}
use Rattle.std.proofs.lemmas.List.{map-append}
use Rattle.ext_tree.specs.Tree.{node_of}
use Rattle.tree_encode.proofs.Steps.{node_some}
use Rattle.tree_encode.specs.WritingSteps.{IsFinished}
use Rattle.tree_encode.proofs.write.Made.push_directory.Goals as goal

pub returns-clause-children : goal.returns-clause-children
returns-clause-children g c = (
  node_of c.in_ok-tree.tree ∷ [],
  ap (map node_of) c.in_ok-push.ensures.items
      ∙ map-append node_of c.args.self.now.children.items (c.in_ok-tree.tree ∷ []),
  subst (λ (l : List ℕ). IsNodeWhere l (IsFinished c.args.kind c.args.name.now c.args.inner)
      (node_of c.in_ok-tree.tree ∷ [])) c.as_slice.ensures.value
      (node_some c.as_slice.result.now c.is_empty.result c.is_empty.ensures c.if-is_empty.false
      (IsFinished c.args.kind c.args.name.now c.args.inner) (node_of c.in_ok-tree.tree) c.in_ok-tree.ensures.node),
)
