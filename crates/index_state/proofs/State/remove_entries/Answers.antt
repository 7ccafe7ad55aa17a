use Rattle.entry_list.specs.Record.{records_in}
use Rattle.entry_list.proofs.RemovedFilters.{left_but_flags, left_by_place, left_filtered, left_placed}
use Rattle.index_state.specs.State.{contents, storage_of}
use Rattle.index_state.proofs.FewerEntries.{flags_storable}
use Rattle.index_state.proofs.State.remove_entries.Goals as goal

pub returns-clause-removed : goal.returns-clause-removed
returns-clause-removed g c = record {
  last = c.remove_entries.new.remove;
  calls = rw c.deref.ensures.value at c.remove_entries.ensures;
}

pub returns-clause-filtered : goal.returns-clause-filtered
returns-clause-filtered g c = left_filtered g.F.FnMut _ _ _ _ _ (returns-clause-removed g c).calls

pub returns-clause-filtered_by_place : goal.returns-clause-filtered_by_place
returns-clause-filtered_by_place g c = left_by_place g.F.FnMut _ _ _ _ _ (returns-clause-removed g c).calls

pub returns-clause-placed : goal.returns-clause-placed
returns-clause-placed g c =
    λ leaves placed. left_placed g.F.FnMut _ _ _ _ _ (returns-clause-removed g c).calls leaves placed

pub returns-clause-storable : goal.returns-clause-storable
returns-clause-storable g c = λ leaves h. flags_storable (contents c.args.self.now)
    (records_in (storage_of c.args.self.now) c.remove_entries.new.entries.items) h
    (λ P whatever. left_but_flags g.F.FnMut _ _ _ _ _ (returns-clause-removed g c).calls P whatever leaves)
