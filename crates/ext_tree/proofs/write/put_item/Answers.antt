use Rattle.index_parts.proofs.Puts.{puts_then, puts_is, puts_broken}
use Rattle.ext_tree.specs.GitOrder.{ordered_if}
use Rattle.ext_tree.specs.Tree.{node_of}
use Rattle.ext_tree.specs.TreeImage.{node_bytes}
use Rattle.ext_tree.proofs.TreeLengths.{item_parts}
use Rattle.ext_tree.proofs.write.put_item.Goals as goal

pub returns-in_err-put : goal.returns-in_err-put
returns-in_err-put g c =
    let t = ordered_if c.args.in_git_order (node_of c.args.tree.now) in
    puts_broken c.from_residual.result (node_bytes t) c.from_residual.ensures.0
    (item_parts t _ c.args.len c.item_head.ensures c.requires) c.in_err-put.ensures.bytes
    c.in_err-put.ensures.has_failed c.in_err-put.ensures.loan

pub returns : goal.returns
returns g c =
    let t = ordered_if c.args.in_git_order (node_of c.args.tree.now) in
    puts_is c.put_node.result (item_parts t _ c.args.len c.item_head.ensures c.requires)
    (puts_then c.put_node.result c.in_ok-put.ensures.bytes c.in_ok-put.ensures.has_failed c.in_ok-put.ensures.loan
    c.put_node.ensures)
