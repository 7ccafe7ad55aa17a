use Rattle.std.proofs.Common.{[], Option, rules, subst}
use Rattle.ext_tree.specs.Tree.{Node, node_of}
use Rattle.tree_encode.specs.Kept.{KeepsCounts}
use Rattle.index_state.proofs.CachedTrees.{nodes_lent}
use Rattle.index_state.proofs.State.renew_tree.Goals as goal

pub returns : goal.returns
returns c = record {
  set = (
    node_of c.keep_counts.new.made,
    subst (λ (o : Option Node). KeepsCounts c.args.self.now.parts.object_hash [] o (node_of c.args.tree)
        (node_of c.keep_counts.new.made))
        (nodes_lent c.as_ref-old.result c.args.self.now.parts.extensions.tree c.as_ref-old.ensures.value)
        (c.keep_counts.ensures []),
    c.set_tree.ensures.set,
  );
  entries = search rules;
  storage = search rules;
}
