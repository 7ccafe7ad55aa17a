use Rattle.std.proofs.Common.{rules, ◌∙◌, ◌∷◌, [], All, ap, length, refl, subst, sym}
use Rattle.entry_list.specs.Order.{IsStrictlyOrdered}
use Rattle.entry_list.specs.Record.{IsPlaced, records_in, with_path}
use Rattle.entry_edit.proofs.Applied.{one_staged}
use Rattle.entry_edit.specs.declared.change.Change.TheVariants.{Stage}
use Rattle.index_edit.specs.Kept.{IsKeptAfter}
use Rattle.index_edit.specs.Undone.{undo_paths, undone}
use Rattle.index_edit.proofs.Kepts.{kept_sound, kept_spellable}
use Rattle.index_edit.proofs.single.stage.Goals as goal

pub returns-clause-made : goal.returns-clause-made
returns-clause-made g c = record {
  settled = record { staged = search rules; told = search rules };
  applied = λ placed o. one_staged _ (records_in c.args.storage.now.items c.args.entries.now.items) _
      (with_path c.args.path.now c.args.entry) refl (λ r. refl) (c.in_ok-told.ensures.staged.made placed o);
}

pub returns-clause-kept : goal.returns-clause-kept
returns-clause-kept g c =
    let s = c.args.storage.now.items in
    let es = c.args.entries.now.items in
    let cs = Stage c.args.entry c.args.path ∷ [] in
    let old = undo_paths c.args.kept.now.undo in
    let kept = λ (placed : All (IsPlaced (length s)) es) (o : IsStrictlyOrdered (records_in s es)).
    let ordered = subst (λ l. IsStrictlyOrdered (records_in s l)) (sym c.deref-3.ensures.value) o in
    let there : IsKeptAfter cs (records_in s es) c.args.kept.now c.renew.new.kept = record {
      tree = c.renew.ensures.tree;
      undo = ap undo_paths c.renew.ensures.undo ∙ c.in_ok-undo.ensures ordered
          ∙ ap (λ l. undone cs (records_in s l) old) c.deref-3.ensures.value;
      untracked = c.renew.ensures.untracked;
    } in there in
    record {
      kept = kept;
      monitor = search rules;
      sound = λ placed o. kept_sound cs (records_in s es) c.args.kept.now c.renew.new.kept (kept placed o);
      spellable = λ placed o. kept_spellable cs (records_in s es) c.args.kept.now c.renew.new.kept (kept placed o);
      err_kept = search rules;
    }
