use Rattle.std.proofs.Common.{rules, ◌∙◌, ap}
use Rattle.std.specs.Option.{option_map}
use Rattle.entry_list.specs.Record.{records_in}
use Rattle.ext_small.specs.FsMonitor.{monitor_of}
use Rattle.index_edit.proofs.Watches.{told_of}
use Rattle.index_edit.proofs.update.update_watched.Goals as goal

pub returns : goal.returns
returns c = record {
  made = search rules;
  monitor = λ placed o.
      let es = c.args.entries.now in
      let made = c.in_ok-made.field-0.entries.items in
      let t = c.update_all.new.storage.items in
      told_of c.args.changes.now c.args.storage.now.items t es made c.new.result c.new-2.result
      (option_map monitor_of c.args.kept.now.monitor) _ placed c.in_ok-made.ensures.storage
      (c.new.ensures ∙ ap (λ x. records_in x es) c.deref.ensures.value)
      (c.new-2.ensures ∙ ap (λ l. records_in c.deref-3.result.now l) c.deref-2.ensures.value
      ∙ ap (λ x. records_in x made) c.deref-3.ensures.value)
      (c.in_ok-made.ensures.made.applied placed o) c.in_ok-monitor.ensures.is;
  storage = search rules;
}
