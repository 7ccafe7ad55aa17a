use Rattle.std.proofs.Common.{◌<◌, ◌^◌, List, length, sym, subst, ◌∙◌}
use Rattle.std.specs.Prelude.{IfOk}
use Rattle.ext_tree.specs.Tree.{node_of}
use Rattle.entry_list.specs.Order.{IsOrderedByPath, IsStrictlyOrdered}
use Rattle.entry_list.specs.Record.{Record, records_in}
use Rattle.tree_encode.specs.Refusals.{AreFit}
use Rattle.tree_encode.specs.TreeIds.{any_name}
use Rattle.tree_encode.proofs.Divided.{empty_list, fault_of, merged_list, merged_ordered, right_of, unmerged_list}
use Rattle.tree_encode.proofs.Divided.{unmerged_ordered, whole_list}
use Rattle.tree_encode.proofs.tree_ids.verify_tree_ids.Goals as goal

pub returns-then-not-has_unmerged-clause-right : goal.returns-then-not-has_unmerged-clause-right
returns-then-not-has_unmerged-clause-right c =
    let none = sym c.has_unmerged.ensures ∙ c.if-not-has_unmerged.true in
    right_of c.verify_beside.result c.args.kind (node_of c.args.tree.now) c.new-merged.result c.first.result
    (records_in c.args.backing.now c.args.entries.now)
    (c.new-merged.ensures ∙ whole_list c.args.backing.now c.args.entries.now none)
    (c.first.ensures ∙ empty_list c.args.backing.now c.args.entries.now none) c.verify_beside.ensures.right

pub returns-then-not-has_unmerged-clause-fit : goal.returns-then-not-has_unmerged-clause-fit
returns-then-not-has_unmerged-clause-fit c =
    let none = sym c.has_unmerged.ensures ∙ c.if-not-has_unmerged.true in
    subst (λ (l : List Record). IfOk c.verify_beside.result (λ _. AreFit any_name c.args.kind l))
    (c.new-merged.ensures ∙ whole_list c.args.backing.now c.args.entries.now none) c.verify_beside.ensures.fit

pub returns-then-not-has_unmerged-clause-few : goal.returns-then-not-has_unmerged-clause-few
returns-then-not-has_unmerged-clause-few c =
    let none = sym c.has_unmerged.ensures ∙ c.if-not-has_unmerged.true in
    subst (λ (l : List Record). IfOk c.verify_beside.result (λ _. length l < 2 ^ 31))
    (c.new-merged.ensures ∙ whole_list c.args.backing.now c.args.entries.now none) c.verify_beside.ensures.few

pub returns-then-not-has_unmerged-clause-fault : goal.returns-then-not-has_unmerged-clause-fault
returns-then-not-has_unmerged-clause-fault c =
    let none = sym c.has_unmerged.ensures ∙ c.if-not-has_unmerged.true in
    fault_of c.verify_beside.result c.args.kind (node_of c.args.tree.now) c.new-merged.result c.first.result
    (records_in c.args.backing.now c.args.entries.now)
    (c.new-merged.ensures ∙ whole_list c.args.backing.now c.args.entries.now none)
    (c.first.ensures ∙ empty_list c.args.backing.now c.args.entries.now none) c.verify_beside.ensures.fault

pub verify_beside-requires-2-clause-ordered : goal.verify_beside-requires-2-clause-ordered
verify_beside-requires-2-clause-ordered c =
    let rs = records_in c.args.backing.now c.args.entries.now in
    subst IsStrictlyOrdered (sym (c.new-merged-2.ensures ∙ merged_list c.args.backing.now c.args.entries.now
    c.deref.result.now (c.deref.ensures.value ∙ c.in_ok-merged.ensures.merged))) (merged_ordered rs c.requires)

pub verify_beside-requires-2-clause-unmerged : goal.verify_beside-requires-2-clause-unmerged
verify_beside-requires-2-clause-unmerged c =
    let rs = records_in c.args.backing.now c.args.entries.now in
    subst IsOrderedByPath (sym (c.new.ensures ∙ unmerged_list c.args.backing.now c.args.entries.now
    c.deref-2.result.now (c.deref-2.ensures.value ∙ c.in_ok-merged.ensures.unmerged)))
    (unmerged_ordered rs c.requires)

pub returns-clause-right : goal.returns-clause-right
returns-clause-right c =
    right_of c.verify_beside-2.result c.args.kind (node_of c.args.tree.now) c.new-merged-2.result c.new.result
    (records_in c.args.backing.now c.args.entries.now)
    (c.new-merged-2.ensures ∙ merged_list c.args.backing.now c.args.entries.now c.deref.result.now
    (c.deref.ensures.value ∙ c.in_ok-merged.ensures.merged))
    (c.new.ensures ∙ unmerged_list c.args.backing.now c.args.entries.now c.deref-2.result.now
    (c.deref-2.ensures.value ∙ c.in_ok-merged.ensures.unmerged)) c.verify_beside-2.ensures.right

pub returns-clause-fit : goal.returns-clause-fit
returns-clause-fit c =
    subst (λ (l : List Record). IfOk c.verify_beside-2.result (λ _. AreFit any_name c.args.kind l))
    (c.new-merged-2.ensures ∙ merged_list c.args.backing.now c.args.entries.now c.deref.result.now
    (c.deref.ensures.value ∙ c.in_ok-merged.ensures.merged)) c.verify_beside-2.ensures.fit

pub returns-clause-few : goal.returns-clause-few
returns-clause-few c =
    subst (λ (l : List Record). IfOk c.verify_beside-2.result (λ _. length l < 2 ^ 31))
    (c.new-merged-2.ensures ∙ merged_list c.args.backing.now c.args.entries.now c.deref.result.now
    (c.deref.ensures.value ∙ c.in_ok-merged.ensures.merged)) c.verify_beside-2.ensures.few

pub returns-clause-fault : goal.returns-clause-fault
returns-clause-fault c =
    fault_of c.verify_beside-2.result c.args.kind (node_of c.args.tree.now) c.new-merged-2.result c.new.result
    (records_in c.args.backing.now c.args.entries.now)
    (c.new-merged-2.ensures ∙ merged_list c.args.backing.now c.args.entries.now c.deref.result.now
    (c.deref.ensures.value ∙ c.in_ok-merged.ensures.merged))
    (c.new.ensures ∙ unmerged_list c.args.backing.now c.args.entries.now c.deref-2.result.now
    (c.deref-2.ensures.value ∙ c.in_ok-merged.ensures.unmerged)) c.verify_beside-2.ensures.fault
