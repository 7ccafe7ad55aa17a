use Rattle.std.proofs.Common.{arith, ◌≡◌, ◌++◌, take, sym, ap, ◌∙◌}
use Rattle.std.proofs.lemmas.List.{take_all, append-nil}
use Rattle.entry_list.specs.Record.{records_in}
use Rattle.ext_split.proofs.Merging.{one_more}
use Rattle.ext_split.proofs.merge.append_entries.Goals as goal

pub loop-entry-init : goal.loop-entry-init
loop-entry-init c = record {
  count = omega arith;
  appended = λ _. sym (append-nil (records_in c.args.storage.now.items c.args.entries.now.items));
  placed = λ placed. placed;
}

pub loop-entry-preserved : goal.loop-entry-preserved
loop-entry-preserved c =
    let split = c.args.split.now in
    let i = c.loop-entry.entry-index in
    let own = records_in c.args.storage.now.items c.args.entries.now.items in
    let inv = c.loop-entry.invariant in
    let joins = c.in_ok-append_entry.ensures in
    record {
      count = omega (arith, inv.count, joins.count);
      appended = λ placed. joins.appended (inv.placed placed)
          ∙ one_more own c.args.split_storage.now split i _ _ c.loop-entry-test.true (inv.appended placed);
      placed = λ placed. joins.placed (inv.placed placed);
    }

pub returns : goal.returns
returns c =
    let split = c.args.split.now in
    let i = c.loop-entry.entry-index in
    let all : take i split ≡ split = take_all i split (omega arith) in
    let inv = c.loop-entry.invariant in
    record {
      count = omega (arith, inv.count);
      appended = λ placed. inv.appended placed ∙ ap (λ l. records_in c.args.storage.now.items c.args.entries.now.items
          ++ records_in c.args.split_storage.now l) all;
      placed = inv.placed;
    }
