use Rattle.std.proofs.Common.{length, rules}
use Rattle.std.proofs.lemmas.List.Sorted.{All-permutation, IsPermutation-map}
use Rattle.entry_list.specs.Record.{IsPlaced, record_in, records_in}
use Rattle.index_state.specs.State.{contents, entries_of, storage_of}
use Rattle.index_state.proofs.Verified.{fit_stays, unfit}
use Rattle.index_state.proofs.Storables.{permuted_storable}
use Rattle.index_state.proofs.State.sort_entries.Goals as goal

pub returns : goal.returns
returns c =
    let old = c.args.self.now in
    let fit = (contents old).fit in
    let in_order = c.is_in_order-in_order.result in
    let told = c.is_in_order-in_order.ensures in
    let moved = IsPermutation-map (record_in (storage_of old)) (entries_of old) c.sort.new.entries.items
    c.sort.ensures.permutation in
    record {
      placed = All-permutation (IsPlaced (length (storage_of old))) (entries_of old) c.sort.new.entries.items
          c.sort.ensures.permutation;
      permutation = moved;
      ordered = rw c.deref.ensures.value at c.in_ok-sort.ensures.ordered;
      stable = search rules;
      no_memory = search rules;
      unmoved = rw c.deref.ensures.value at c.sort.ensures.unmoved;
      storage = search rules;
      others = search rules;
      fit = λ strict. fit_stays fit in_order (told.1 strict);
      unfit = λ loose. unfit fit in_order (λ t. loose (told.0 t));
      storable = permuted_storable (contents old) (records_in (storage_of old) c.sort.new.entries.items) _ moved;
      err = search rules;
    }
