use Rattle.std.proofs.Common.{rules, ◌≡◌, length, ap, ◌∙◌}
use Rattle.std.specs.Prelude.{decimal}
use Rattle.ext_tree.specs.TreeImage.{behind_name}
use Rattle.ext_tree.specs.declared.Tree.TheViews.{out-Tree}
use Rattle.ext_tree.proofs.TreeLengths.{behind_is}
use Rattle.ext_tree.proofs.write.gather_behind_name.Goals as goal

pub returns-clause-bytes : goal.returns-clause-bytes
returns-clause-bytes c =
    let t = out-Tree c.args.tree.now in
    let number : c.as_bytes-number.result.now ≡ decimal c.len.result =
    c.as_bytes-number.ensures.value ∙ c.format.ensures.text in
    let children : c.len.result ≡ length t.children.items = search rules in
    behind_is t.id t.num_entries c.len.result _ _ _ _ _ _ _ _ _ c.copy_to-end.ensures.bytes
    c.copy_to-end-2.ensures.bytes c.copy_to-end-3.ensures.bytes c.copy_to-end-4.ensures.bytes
    c.copy_to-end-5.ensures.bytes c.copy_to.ensures.bytes c.count_text-count.ensures.text number
    c.id_text.ensures.text
    ∙ ap (behind_name t.id t.num_entries) children
