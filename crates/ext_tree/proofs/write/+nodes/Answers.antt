use Rattle.std.specs.Prelude.{is_some}
use Rattle.std.proofs.Common.{rules, ◌≡◌, ◌+◌, ℕ, List, Ok, false, sym, suc, ◌++◌, ◌∙◌, ap, take, drop, refl, subst}
use Rattle.std.specs.List.{flat_map}
use Rattle.index_parts.specs.Taking.{Took}
use Rattle.index_parts.proofs.Taking.{flat_map_at, Took-nil, Took-trans}
use Rattle.index_parts.proofs.Puts.{puts_after, puts_from, puts_is, puts_stopped, puts_stopped_after}
use Rattle.ext_tree.specs.declared.Tree.{Tree}
use Rattle.ext_tree.specs.declared.Tree.TheViews.{out-Tree}
use Rattle.ext_tree.specs.GitOrder.{bytes_of_len, ordered_if}
use Rattle.ext_tree.specs.Tree.{node_of}
use Rattle.ext_tree.specs.TreeImage.{node_bytes, nodes_bytes}
use Rattle.ext_tree.proofs.GitOrders.{all_shorter, behind_length, below_if, first_length, jumped, next_length}
use Rattle.ext_tree.proofs.GitOrders.{of_len, ordered, ordered_if_out, ordered_out}
use Rattle.ext_tree.proofs.TreeLengths.{own_head}
use Rattle.ext_tree.proofs.write.+nodes.Goals as goal

pub put_node-returns-in_err-put_node_head : goal.put_node-returns-in_err-put_node_head
put_node-returns-in_err-put_node_head g t c =
    let n = c.args.tree.now in
    let b = c.args.in_git_order in
    puts_stopped c.from_residual.result (below_if b (out-Tree n).children.items) c.from_residual.ensures.0
    (sym (ordered_if_out b n)) c.in_err-put_node_head.ensures

pub put_node-returns-then-in_git_order : goal.put_node-returns-then-in_git_order
put_node-returns-then-in_git_order g t c =
    let n = c.args.tree.now in
    puts_is c.put_by_length.result (ap (λ ts. own_head n ++ nodes_bytes (ordered ts)) c.deref.ensures.value
    ∙ sym (ordered_out n) ∙ ap (λ b. node_bytes (ordered_if b (node_of n))) (sym c.if-in_git_order.true))
    (puts_after c.put_by_length.result c.in_ok-put_node_head.ensures c.put_by_length.ensures)

pub put_node-returns-else-in_git_order : goal.put_node-returns-else-in_git_order
put_node-returns-else-in_git_order g t c =
    let n = c.args.tree.now in
    puts_is c.put_nodes.result (ap (λ ts. own_head n ++ below_if false ts) c.deref-else-in_git_order.ensures.value
    ∙ sym (ordered_if_out false n) ∙ ap (λ b. node_bytes (ordered_if b (node_of n))) (sym c.if-in_git_order.false))
    (puts_after c.put_nodes.result c.in_ok-put_node_head.ensures c.put_nodes.ensures)

pub put_nodes-returns-in_err-put_node : goal.put_nodes-returns-in_err-put_node
put_nodes-returns-in_err-put_node g t c =
    let trees = c.args.trees.now in
    let i = c.loop-tree.tree-index in
    let f : Tree → List ℕ = λ u. bytes_of_len c.args.len (node_of u) in
    let some : c.is_some.result ≡ is_some c.args.len = search rules in
    let here = ap (λ b. node_bytes (ordered_if b (node_of c.tree-item.result))) some
    ∙ of_len c.args.len (node_of c.tree-item.result) (sym c.has_len.ensures ∙ c.if-has_len.true) in
    let whole = ap (λ l. (flat_map f (take i trees) ++ l) ++ flat_map f (drop (suc i) trees)) here
    ∙ ap (λ u. (flat_map f (take i trees) ++ f u) ++ flat_map f (drop (suc i) trees)) c.tree-item.is
    ∙ sym (flat_map_at f trees i c.tree-item.result c.loop-tree-test.true) in
    puts_stopped_after c.from_residual.result _ c.from_residual.ensures.0 whole c.loop-tree.invariant.so_far
    c.loop-tree.invariant.loan c.in_err-put_node.ensures

pub put_by_length-loop-len-init : goal.put_by_length-loop-len-init
put_by_length-loop-len-init g t c = record {
  going = refl;
  loan = refl;
  so_far = subst (λ (l : List ℕ). Took g.W.Out.taken g.W.Out.hashed c.args.out.now c.args.out.now l)
      (sym (first_length c.next_len-len.result c.args.trees.now c.next_len-len.ensures.none_between))
      (Took-nil g.W.Out.taken g.W.Out.hashed c.args.out.now);
}

pub put_by_length-returns-in_err-put_nodes : goal.put_by_length-returns-in_err-put_nodes
put_by_length-returns-in_err-put_nodes g t c =
    let p = behind_length c.loop-len.len c.args.trees.now in
    puts_stopped_after c.from_residual.result p.0 c.from_residual.ensures.0 p.1 c.loop-len.invariant.so_far
    c.loop-len.invariant.loan c.in_err-put_nodes.ensures

pub put_by_length-loop-len-preserved : goal.put_by_length-loop-len-preserved
put_by_length-loop-len-preserved g t c =
    let trees = c.args.trees.now in
    let len = c.loop-len.len in
    let next = c.next_len-len-in-loop-len in
    let put = c.in_ok-put_nodes.ensures in
    let more = Took-trans c.loop-len.invariant.so_far put.takes in
    let jump = jumped (len + 1) next.result trees next.ensures.least next.ensures.none_between in
    record {
      going = put.failed ∙ c.loop-len.invariant.going;
      loan = put.loan ∙ c.loop-len.invariant.loan;
      so_far = subst (λ (l : List ℕ). Took g.W.Out.taken g.W.Out.hashed c.args.out.now c.put_nodes.new.out l)
          (sym (jump ∙ next_length len trees)) more;
    }

pub put_by_length-returns : goal.put_by_length-returns
put_by_length-returns g t c =
    let whole = all_shorter c.loop-len.len (ordered c.args.trees.now) c.loop-len-test.false in
    puts_is (Ok tt) whole (puts_from (Ok tt) c.loop-len.invariant.so_far c.loop-len.invariant.going
    c.loop-len.invariant.loan)
