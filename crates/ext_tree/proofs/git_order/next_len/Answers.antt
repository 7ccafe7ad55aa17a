use Rattle.std.proofs.Common.{◌≤◌, All, arith, subst, take}
use Rattle.std.proofs.lemmas.List.{take_all}
use Rattle.std.proofs.lemmas.List.Elements.{All-more, All-weaker}
use Rattle.ext_tree.specs.GitOrder.{name_len}
use Rattle.ext_tree.specs.Tree.{node_of}
use Rattle.ext_tree.specs.declared.Tree.{Tree}
use Rattle.ext_tree.proofs.git_order.next_len.Goals as goal

pub loop-tree-preserved : goal.loop-tree-preserved
loop-tree-preserved c =
    let trees = c.args.trees.now in
    let i = c.loop-tree.tree-index in
    let was : Tree → Type 0 = λ t. c.args.least ≤ name_len (node_of t) → c.loop-tree.next ≤ name_len (node_of t) in
    let now : Tree → Type 0 = λ t. c.args.least ≤ name_len (node_of t) → c.nearer-next.result ≤ name_len (node_of t) in
    let nearer = c.nearer-next.ensures in
    let here : now c.tree-item.result = λ h. omega (
      arith,
      c.name_len.ensures,
      nearer.len (omega (arith, c.name_len.ensures, h)),
    ) in
    record {
      least = nearer.least;
      most = omega (arith, nearer.next, c.loop-tree.invariant.most);
      none_between = All-more now trees i c.tree-item.result c.loop-tree-test.true
          (All-weaker was now (λ t k h. omega (arith, nearer.next, k h)) (take i trees) c.loop-tree.invariant.none_between)
          (subst now c.tree-item.is here);
    }

pub returns-clause-none_between : goal.returns-clause-none_between
returns-clause-none_between c =
    subst (All (λ t. c.args.least ≤ name_len (node_of t) → c.loop-tree.next ≤ name_len (node_of t)))
    (take_all c.loop-tree.tree-index c.args.trees.now c.loop-tree-test.false) c.loop-tree.invariant.none_between
