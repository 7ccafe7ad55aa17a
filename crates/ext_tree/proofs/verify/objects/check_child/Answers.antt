use Rattle.std.proofs.Common.{sym, ◌∙◌}
use Rattle.std.proofs.lemmas.Result.{err_from_is_err_and}
use Rattle.index_parts.specs.TreeObject.{tree_entry_of}
use Rattle.ext_tree.proofs.Agreements.{no_memory_for_child}
use Rattle.ext_tree.proofs.Sounds.{row_of_trees}
use Rattle.ext_tree.proofs.verify.objects.check_child.Goals as goal

pub returns-in_err-name-clause-err : goal.returns-in_err-name-clause-err
returns-in_err-name-clause-err c =
    let p = err_from_is_err_and c.from_residual.result c.from_residual.ensures.1 in
    rw (p.1, p.2) (no_memory_for_child c.args.parent_id (row_of_trees c.args.children.now) (tree_entry_of c.args.entry)
    (sym c.has_child.ensures ∙ c.if-has_child.false))
