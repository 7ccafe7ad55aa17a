use Rattle.std.proofs.Common.{false, length, rules}
use Rattle.std.proofs.lemmas.List.Sorted.{All-permutation, IsPermutation-map}
use Rattle.entry_list.specs.Record.{IsPlaced, record_in, records_in}
use Rattle.index_state.specs.State.{contents, entries_of, storage_of}
use Rattle.index_state.proofs.Storables.{permuted_storable}
use Rattle.index_state.proofs.State.sort_entries_by.Goals as goal

pub returns : goal.returns
returns g c =
    let old = c.args.self.now in
    let moved = IsPermutation-map (record_in (storage_of old)) (entries_of old) c.sort_by.new.entries.items
    c.sort_by.ensures.permutation in
    record {
      placed = All-permutation (IsPlaced (length (storage_of old))) (entries_of old) c.sort_by.new.entries.items
          c.sort_by.ensures.permutation;
      permutation = moved;
      ordered = rw c.deref.ensures.value at c.in_ok-sort_by.ensures.ordered;
      ties = search rules;
      storage = search rules;
      others = search rules;
      storable = permuted_storable (contents old) (records_in (storage_of old) c.sort_by.new.entries.items) false moved;
      err = search rules;
    }
