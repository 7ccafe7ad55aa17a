use Rattle.std.proofs.Common.{◌≡◌, ◌∙◌, ap, subst, sym}
use Rattle.entry_list.specs.Order.{IsStrictlyOrdered}
use Rattle.entry_list.specs.Record.{records_in}
use Rattle.index_edit.specs.Undone.{all_recorded, lost, undo_paths}
use Rattle.index_edit.proofs.Nexts.{undone_one}
use Rattle.index_edit.proofs.single.undo_after.Goals as goal

pub returns : goal.returns
returns c = λ o.
    let change = c.args.change.now in
    let es = c.args.entries.now in
    let rs = records_in c.args.storage.now.items es in
    let there : c.new-there.result ≡ rs = c.new-there.ensures ∙ ap (λ x. records_in x es) c.deref.ensures.value in
    let told = subst (λ l. IsStrictlyOrdered l → undo_paths c.record_lost.new.undo
    ≡ all_recorded (lost change l) (undo_paths c.in_ok-undo.undo)) there c.in_ok-record_lost.ensures.added in
    told o ∙ ap (all_recorded (lost change rs)) c.in_ok-undo.ensures ∙ sym (undone_one change rs (undo_paths c.args.undo.now))
