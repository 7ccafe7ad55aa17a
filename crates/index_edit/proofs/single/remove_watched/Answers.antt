use Rattle.std.proofs.Common.{rules, ◌∙◌, [], ◌∷◌, ap, refl, subst}
use Rattle.std.specs.Option.{option_map}
use Rattle.entry_edit.proofs.Applied.{one_unstaged}
use Rattle.entry_edit.specs.Edits.{IsUnstagedFrom}
use Rattle.entry_edit.specs.declared.change.Change.TheVariants.{Unstage}
use Rattle.entry_list.specs.Order.{IsStrictlyOrdered}
use Rattle.entry_list.specs.Record.{records_in}
use Rattle.ext_small.specs.FsMonitor.{monitor_of}
use Rattle.index_edit.proofs.Watches.{none_grown, told_of}
use Rattle.index_edit.proofs.single.remove_watched.Goals as goal

pub returns-clause-told : goal.returns-clause-told
returns-clause-told c = record {
  count = search rules;
  monitor = λ placed o.
      let es = c.args.entries.now.items in
      let s = c.args.storage.now.items in
      let path = c.args.path.now in
      let edited = c.unstage-count.new.entries.items in
      let same = c.in_ok-edited.ensures ∙ c.deref-2.ensures.value in
      let there = subst (λ t. IsStrictlyOrdered (records_in t c.in_ok-edited.edited.items)
      → IsUnstagedFrom path (records_in t c.in_ok-edited.edited.items) (records_in t edited)) c.deref-3.ensures.value
      c.unstage-count.ensures.unstaged in
      let unstaged = subst (λ l. IsStrictlyOrdered (records_in s l) → IsUnstagedFrom path (records_in s l) (records_in s edited))
      same there o in
      told_of (Unstage c.args.path ∷ []) s s es edited c.new.result c.new-2.result
      (option_map monitor_of c.args.monitor.now) _ placed (none_grown s)
      (c.new.ensures ∙ ap (λ l. records_in c.deref-5.result.now l) c.deref-4.ensures.value
      ∙ ap (λ x. records_in x es) c.deref-5.ensures.value)
      (c.new-2.ensures ∙ ap (λ l. records_in c.deref-7.result.now l) c.deref-6.ensures.value
      ∙ ap (λ x. records_in x edited) c.deref-7.ensures.value)
      (one_unstaged _ (records_in s es) _ path refl (λ r. refl) unstaged) c.in_ok-monitor.ensures.is;
}
