use Rattle.std.proofs.Common.{List, ℕ, Err, refl, subst}
use Rattle.std.proofs.lemmas.Result.{err_from_is_err_and}
use Rattle.ext_tree.specs.Tree.{node_of}
use Rattle.base_text.proofs.Blocks.{text_broken, text_out}
use Rattle.base_text.specs.Blocks.{PutsText}
use Rattle.view_list.proofs.Directed.{whole_tree}
use Rattle.view_list.proofs.trees.write_trees.Goals as goal

pub returns-in_err-append_directory : goal.returns-in_err-append_directory
returns-in_err-append_directory g c =
    let p = err_from_is_err_and c.from_residual.result c.from_residual.ensures.1 in
    let P : List ℕ → Type 0 = λ l. PutsText {T = Unit {0}} g.W.Out c.args.out.now c.append_directory.new.out
    (Err c.in_err-append_directory.field-0.0) l in
    rw (p.1, p.2) (subst P (whole_tree c.args.style c.new-lines.result.items c.new-front.result.items
    (node_of c.args.tree.now) c.new-lines.ensures.items c.new-front.ensures.items)
    (text_broken (Err _) refl c.in_err-append_directory.ensures.written))

pub returns : goal.returns
returns g c =
    let r = c.put_text.result in
    let P : List ℕ → Type 0 = λ l. PutsText g.W.Out c.args.out.now c.put_text.new.out r l in
    subst P (whole_tree c.args.style c.new-lines.result.items c.new-front.result.items (node_of c.args.tree.now)
    c.new-lines.ensures.items c.new-front.ensures.items)
    (text_out r c.in_ok-append_directory.ensures.written c.as_slice.ensures.value c.put_text.ensures)
