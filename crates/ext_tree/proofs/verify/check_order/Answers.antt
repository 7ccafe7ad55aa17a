use Rattle.std.proofs.Common.{◌≡◌, false, sym, ap, ◌∙◌}
use Rattle.std.specs.Ordering.{is_lt}
use Rattle.std.proofs.lemmas.Result.{err_from_is_err_and}
use Rattle.ext_tree.specs.Tree.{node_of, name_cmp}
use Rattle.ext_tree.proofs.Sounds.{no_memory_for_order}
use Rattle.ext_tree.proofs.verify.check_order.Goals as goal

pub returns-in_err-current_path-clause-err : goal.returns-in_err-current_path-clause-err
returns-in_err-current_path-clause-err c =
    let p = err_from_is_err_and c.from_residual.result c.from_residual.ensures.1 in
    let less : is_lt (name_cmp (node_of c.in-Some.previous.now) (node_of c.args.tree.now)) ≡ false =
    ap is_lt (sym c.compare_names.ensures) ∙ sym c.is_lt.ensures ∙ c.if-is_lt.false in
    rw (p.1, p.2, c.in-Some.is)
    (no_memory_for_order c.args.parent_id (node_of c.in-Some.previous.now) (node_of c.args.tree.now) less)

pub returns-in_err-previous_path-clause-err : goal.returns-in_err-previous_path-clause-err
returns-in_err-previous_path-clause-err c =
    let p = err_from_is_err_and c.from_residual-in_err-previous_path.result
    c.from_residual-in_err-previous_path.ensures.1 in
    let less : is_lt (name_cmp (node_of c.in-Some.previous.now) (node_of c.args.tree.now)) ≡ false =
    ap is_lt (sym c.compare_names.ensures) ∙ sym c.is_lt.ensures ∙ c.if-is_lt.false in
    rw (p.1, p.2, c.in-Some.is)
    (no_memory_for_order c.args.parent_id (node_of c.in-Some.previous.now) (node_of c.args.tree.now) less)
