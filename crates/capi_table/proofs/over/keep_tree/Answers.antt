use Rattle.std.proofs.Common.{None, ap, refl, sym, ◌∙◌}
use Rattle.std.specs.Option.{option_map}
use Rattle.gix_index.specs.State.{contents}
use Rattle.gix_index.specs.Tree.{node_of}
use Rattle.capi_table.specs.declared.over.CachedTree.TheVariants.{Absent}
use Rattle.capi_table.proofs.KeptTrees.{keeps_by, keeps_right, keeps_wrong}
use Rattle.capi_table.proofs.over.keep_tree.Goals as goal

pub returns-in_default : goal.returns-in_default
returns-in_default c =
    let v = contents c.args.state.now in
    keeps_by None v v Absent (sym c.tree.ensures ∙ ap (option_map (λ t. node_of t.now)) c.in_default.is) (refl, refl)

pub returns-in-Ok : goal.returns-in-Ok
returns-in-Ok c =
    let v = contents c.args.state.now in
    let there = sym c.tree.ensures ∙ ap (option_map (λ t. node_of t.now)) c.in-Some.is in
    keeps_right v.extensions.tree v (contents c.put_in_anew.new.state) (λ e. cc) c.put_in_anew.ensures c.in-Ok.ensures.right c.in-Ok.ensures.fit c.in-Ok.ensures.few

pub returns : goal.returns
returns c =
    let v = contents c.args.state.now in
    keeps_wrong v.extensions.tree v (contents c.remove_tree.new.self) c.in-Err.e
    (sym c.is_want_of_memory.ensures ∙ c.if-is_want_of_memory.false)
    c.in-Err.ensures.fault c.remove_tree.ensures.removed
