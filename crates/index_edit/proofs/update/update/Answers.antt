use Rattle.std.proofs.Common.{rules, ◌∙◌, All, ap, length, subst, sym}
use Rattle.entry_list.specs.Order.{IsStrictlyOrdered}
use Rattle.entry_list.specs.Record.{IsPlaced, records_in}
use Rattle.index_edit.specs.Kept.{IsKeptAfter}
use Rattle.index_edit.specs.Undone.{undo_paths, undone}
use Rattle.index_edit.proofs.Kepts.{kept_sound, kept_spellable}
use Rattle.index_edit.proofs.update.update.Goals as goal

pub returns-in-Ok-clause-kept : goal.returns-in-Ok-clause-kept
returns-in-Ok-clause-kept g c =
    let s = c.args.storage.now.items in
    let es = c.args.entries.now.items in
    let cs = c.args.changes.now in
    let kept = λ (placed : All (IsPlaced (length s)) es) (o : IsStrictlyOrdered (records_in s es)).
    let here = subst (All (IsPlaced (length s))) (sym c.deref-3.ensures.value) placed in
    let ordered = subst (λ l. IsStrictlyOrdered (records_in s l)) (sym c.deref-3.ensures.value) o in
    let there : IsKeptAfter cs (records_in s es) c.args.kept.now c.renew.new.kept = record {
      tree = c.renew.ensures.tree;
      undo = ap undo_paths c.renew.ensures.undo ∙ c.in-Ok.ensures.made.undone here ordered
          ∙ ap (λ l. undone cs (records_in s l) (undo_paths c.args.kept.now.undo)) c.deref-3.ensures.value;
      untracked = c.renew.ensures.untracked;
    } in there in
    record {
      kept = kept;
      monitor = search rules;
      sound = λ placed o. kept_sound cs (records_in s es) c.args.kept.now c.renew.new.kept (kept placed o);
      spellable = λ placed o. kept_spellable cs (records_in s es) c.args.kept.now c.renew.new.kept (kept placed o);
      err_kept = search rules;
    }
