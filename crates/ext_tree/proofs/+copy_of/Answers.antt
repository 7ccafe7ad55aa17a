use Rattle.std.proofs.Common.{◌≡◌, ℕ, map, take, sym, ap, ◌∙◌}
use Rattle.std.proofs.lemmas.List.{take_all}
use Rattle.std.proofs.lemmas.List.Elements.{same_from_all_zip}
use Rattle.ext_tree.specs.Tree.{node_of}
use Rattle.ext_tree.specs.declared.Tree.TheViews.{out-Tree}
use Rattle.ext_tree.proofs.Spelled.{node_of-roll, node_of-out}
use Rattle.ext_tree.proofs.+copy_of.Goals as goal

pub returns : goal.returns
returns t c =
    let source = out-Tree c.args.tree.now in
    let all = c.deref-child-items.result.now in
    let name : c.in_ok-name.name.items ≡ source.name.items = same_from_all_zip
    (λ (x : ℕ) (y : ℕ). y ≡ x) source.name.items c.in_ok-name.name.items c.in_ok-name.ensures.cases (λ x y e. e) in
    let whole : take c.loop-child.child-index all ≡ all =
    take_all c.loop-child.child-index all c.loop-child-test.false in
    let children : map node_of c.loop-child.children.items ≡ map node_of source.children.items =
    c.loop-child.invariant ∙ ap (map node_of) (whole ∙ c.deref-child-items.ensures.value) in
    node_of-roll _ ∙ rw (name, children) (sym (node_of-out c.args.tree.now))
