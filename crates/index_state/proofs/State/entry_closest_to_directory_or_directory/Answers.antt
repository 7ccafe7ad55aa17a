use Rattle.std.proofs.Common.{◌≡◌, true}
use Rattle.entry_lookup.specs.Closest.{stands_in}
use Rattle.index_state.specs.State.{entries_of, storage_of}
use Rattle.index_state.proofs.Given.{entry_with, given_place}
use Rattle.index_state.proofs.State.entry_closest_to_directory_or_directory.Goals as goal

pub returns-clause-found : goal.returns-clause-found
returns-clause-found c = entry_with (λ r. stands_in c.args.directory.now r ≡ true) c.args.self.now
    c.in_ok-place.place c.index.result.now c.index.ensures (rw c.slice.ensures at c.in_ok-place.ensures.found)

pub returns-clause-answer : goal.returns-clause-answer
returns-clause-answer c = λ o. given_place (storage_of c.args.self.now)
    (entries_of c.args.self.now) c.in_ok-place.place c.index.result.now c.index.ensures _
    (rw c.slice.ensures at c.in_ok-place.ensures.found).0 ((rw c.slice.ensures at c.in_ok-place.ensures.answer) o)
