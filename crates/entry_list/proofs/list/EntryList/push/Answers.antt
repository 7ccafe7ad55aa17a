use Rattle.std.proofs.Common.{ap, ◌∙◌}
use Rattle.entry_list.specs.Held.{Held, pushed}
use Rattle.entry_list.specs.Record.{Record, with_path}
use Rattle.entry_list.proofs.Appended.{appended_records}
use Rattle.entry_list.proofs.list.EntryList.push.Goals as goal

pub returns-clause-pushed : goal.returns-clause-pushed
returns-clause-pushed c =
    let r : Record = with_path c.args.path.now c.args.entry in
    let a = c.in_ok-append.ensures.appended in
    let records = appended_records c.self.inside.storage.items c.self.inside.entries.items r c.append.new.storage.items
    c.append.new.entries.items c.self.invariant a in
    (λ i. record { records = records i; storage = a.storage i }) ∙ ap (λ (h : Held). pushed h r) c.self.view_is
