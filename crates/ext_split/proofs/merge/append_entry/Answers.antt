use Rattle.std.proofs.Common.{◌∷◌, [], ap, length, ◌∙◌}
use Rattle.std.proofs.lemmas.List.{length-append}
use Rattle.entry_list.specs.Record.{Record, record_in}
use Rattle.entry_list.proofs.Appended.{appended_placed, appended_records}
use Rattle.ext_split.proofs.merge.append_entry.Goals as goal

pub returns : goal.returns
returns c =
    let r : Record = record_in c.args.split_storage.now c.args.entry.now in
    let a = c.in_ok-append.ensures.appended in
    record {
      count = ap length a.entries ∙ length-append c.args.entries.now.items (a.entry ∷ []);
      appended = λ placed. appended_records _ _ r _ _ placed (rw c.path_in-path.ensures at a);
      placed = λ placed. appended_placed _ _ _ _ _ placed a;
    }
