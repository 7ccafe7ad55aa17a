use Rattle.std.proofs.Common.{rules, ◌∙◌, subst, sym}
use Rattle.std.specs.Prelude.{IfSome}
use Rattle.std.proofs.lemmas.Result.{IfOk-weaker}
use Rattle.entry_list.specs.Record.{records_in}
use Rattle.entry_edit.specs.Reorders.{IsReorderedTo}
use Rattle.index_edit.specs.Undone.{undo_paths}
use Rattle.index_edit.proofs.Reorders.{reordered_into, reordered_undone}
use Rattle.index_edit.proofs.update.update_all.Goals as goal

reordered : (c : goal.After-drop-ordered) → IsReorderedTo c.args.changes.now c.deref.result.now
reordered c = subst (IsReorderedTo c.args.changes.now) (sym c.deref.ensures.value)
    (subst (λ made. IfSome made (λ ds. IsReorderedTo c.args.changes.now ds.items)) c.in-Some.is c.in_ok-ordered.ensures.same)

pub returns-in-Some : goal.returns-in-Some
returns-in-Some c =
    let old = records_in c.args.storage.now.items c.args.entries.now in
    let cs = c.args.changes.now in
    record {
      made = IfOk-weaker c.update_each.result _ _ (λ made m. record {
        applied = λ placed o. reordered_into cs c.deref.result.now old (reordered c) o
            (records_in c.update_each.new.storage.items made.entries.items) (m.applied placed o);
        undone = λ placed o. m.undone placed o ∙ reordered_undone cs c.deref.result.now old (reordered c) o (undo_paths c.args.undo.now);
        placed = m.placed;
      }) c.update_each.ensures.made;
      storage = search rules;
    }
