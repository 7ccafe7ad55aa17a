use Rattle.ext_tree.specs.Tree.{node_of}
use Rattle.ext_tree.proofs.Excesses.{within_by}
use Rattle.ext_tree.proofs.Tree.verify_counts.Goals as goal

pub returns-clause-within : goal.returns-clause-within
returns-clause-within c = within_by c.check_counts.result c.args.entries
    (node_of c.args.self.now) c.check_counts.ensures.ok c.check_counts.ensures.err
