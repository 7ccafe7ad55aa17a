use Rattle.std.proofs.Common.{Some}
use Rattle.ext_tree.specs.Tree.{node_of}
use Rattle.tree_encode.specs.Staged.{staged_in}
use Rattle.tree_encode.proofs.Spots.{passed_said, root_fault, root_given, root_right}
use Rattle.tree_encode.proofs.tree_ids.verify_beside.Goals as goal

pub returns-clause-right : goal.returns-clause-right
returns-clause-right c =
    let w = c.in-Ok.ensures.written in
    let given = node_of c.in-Ok.given in
    root_right c.check_nodes.result c.args.kind c.args.merged.now c.args.unmerged.now (Some given)
    (node_of c.args.tree.now) c.new-parent.result.items c.check_nodes.ensures.ok c.new-parent.ensures.items
    (root_given c.args.kind (staged_in c.args.merged.now) w.0 given w.1 w.2)

pub returns-clause-fault : goal.returns-clause-fault
returns-clause-fault c =
    let w = c.in-Ok.ensures.written in
    let given = node_of c.in-Ok.given in
    root_fault c.check_nodes.result c.args.kind c.args.merged.now c.args.unmerged.now (Some given)
    (node_of c.args.tree.now) c.new-parent.result.items c.check_nodes.ensures.fault c.new-parent.ensures.items
    c.in-Ok.ensures.fit (root_given c.args.kind (staged_in c.args.merged.now) w.0 given w.1 w.2)

pub returns-in-Err-clause-fault : goal.returns-in-Err-clause-fault
returns-in-Err-clause-fault c = λ rs is d.
    passed_said c.args.kind c.args.merged.now rs (node_of c.args.tree.now) _ _ is c.in-Err.fault c.no_trees.result
    c.no_trees.ensures c.in-Err.ensures.fault
