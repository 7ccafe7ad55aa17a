use Rattle.std.proofs.Common.{rules, ◌≡◌, ◌<◌, None, length, refl}
use Rattle.entry_list.specs.Entries.{AreEntries}
use Rattle.entry_decode.proofs.entries.read_entries.Goals as goal

pub returns-then-len-count-clause-fault : goal.returns-then-len-count-clause-fault
returns-then-len-count-clause-fault c =
    let bytes = c.args.bytes.now in
    let records = c.entries_in.new.first.list.records in
    let start : AreEntries c.args.version c.args.kind None bytes c.in_ok-list.list.records bytes =
    rw c.in_ok-list.ensures refl in
    let few : length records < c.args.count = search rules in
    let counted : length records ≡ c.len-len.result = search rules in (
      search rules,
      record {
        records = records;
        rest = c.in_ok-rest.rest.now;
        read = c.in_ok-rest.ensures.read bytes start;
        count = counted;
        none = c.in_ok-rest.ensures.none few;
      },
    )
