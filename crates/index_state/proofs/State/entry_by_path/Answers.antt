use Rattle.entry_lookup.specs.Range.{HasStageOf}
use Rattle.index_state.specs.State.{entries_of, storage_of}
use Rattle.index_state.proofs.Given.{entry_with, given_place}
use Rattle.index_state.proofs.State.entry_by_path.Goals as goal

pub returns-clause-found : goal.returns-clause-found
returns-clause-found c = entry_with (HasStageOf c.args.path.now) c.args.self.now c.in_ok-place.place
    c.index.result.now c.index.ensures (rw c.slice.ensures at c.in_ok-place.ensures.found)

pub returns-clause-answer : goal.returns-clause-answer
returns-clause-answer c = λ o. given_place (storage_of c.args.self.now)
    (entries_of c.args.self.now) c.in_ok-place.place c.index.result.now c.index.ensures _
    (rw c.slice.ensures at c.in_ok-place.ensures.found).0 ((rw c.slice.ensures at c.in_ok-place.ensures.answer) o)
