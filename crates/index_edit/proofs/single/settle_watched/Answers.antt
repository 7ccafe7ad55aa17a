use Rattle.std.proofs.Common.{rules, inl, ◌∙◌, [], ◌∷◌, All, length, ap, refl, subst, sym}
use Rattle.entry_list.specs.Order.{IsStrictlyOrdered}
use Rattle.entry_edit.specs.Edits.{IsStagedInto}
use Rattle.std.specs.Option.{option_map}
use Rattle.entry_edit.proofs.Applied.{one_staged}
use Rattle.entry_edit.specs.declared.change.Change.TheVariants.{Stage}
use Rattle.entry_list.specs.Record.{IsPlaced, records_in, with_path}
use Rattle.ext_small.specs.FsMonitor.{monitor_of}
use Rattle.index_edit.proofs.Watches.{cut_back, grown_by, told_of}
use Rattle.index_edit.proofs.single.settle_watched.Goals as goal

pub returns-in-Ok-clause-settled : goal.returns-in-Ok-clause-settled
returns-in-Ok-clause-settled c = record {
  told = search rules;
  monitor = λ placed o.
      let es = c.args.entries.now.items in
      let s = c.args.storage.now.items in
      let edited = c.settle-2.new.entries.items in
      let t = c.settle-2.new.storage.items in
      let same = c.in_ok-edited.ensures ∙ c.deref.ensures.value in
      let here = subst (All (IsPlaced (length s))) (sym same) placed in
      let ordered = subst (λ l. IsStrictlyOrdered (records_in s l)) (sym same) o in
      let staged = subst (λ l. IsStagedInto (with_path c.args.path.now c.args.entry) (records_in s l) (records_in t edited)) same
      (c.in_ok-told.ensures.staged.made here ordered) in
      told_of (Stage c.args.entry c.args.path ∷ []) s t es edited c.new.result c.new-2.result
      (option_map monitor_of c.args.monitor.now) _ placed (grown_by s t c.args.path.now c.in_ok-told.ensures.staged.storage)
      (c.new.ensures ∙ ap (λ l. records_in c.deref-3.result.now l) c.deref-2.ensures.value
      ∙ ap (λ x. records_in x es) c.deref-3.ensures.value)
      (c.new-2.ensures ∙ ap (λ l. records_in c.deref-5.result.now l) c.deref-4.ensures.value
      ∙ ap (λ x. records_in x edited) c.deref-5.ensures.value)
      (one_staged _ (records_in s es) _ (with_path c.args.path.now c.args.entry) refl (λ r. refl) staged) c.in-Ok.ensures.is;
}

pub returns-in-Err-clause-staged : goal.returns-in-Err-clause-staged
returns-in-Err-clause-staged c =
    let s = c.args.storage.now.items in
    let t = c.settle-2.new.storage.items in
    let left = cut_back s t c.truncate.new.self.items c.len-len.result (c.len-len.ensures ∙ c.args.storage.now.ok.0)
    (grown_by s t c.args.path.now c.in_ok-told.ensures.staged.storage) c.truncate.ensures.items in
    record {
      made = search rules;
      placed = λ placed. subst (λ l. All (IsPlaced (length l)) c.args.entries.now.items) (sym left) placed;
      storage = inl left;
      err_entries = search rules;
      err_storage = left;
    }
