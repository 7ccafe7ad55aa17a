use Rattle.std.proofs.Common.{◌≡◌, map, take}
use Rattle.std.specs.Prelude.{filter}
use Rattle.gix_index.specs.Record.{record_in}
use Rattle.gix_index.specs.State.{contents, entries_of, storage_of}
use Rattle.examples.specs.Changed.{may_have_changed}
use Rattle.examples.proofs.status.changed_paths.Given as goal

-- the paths of the entries so far that may have changed
abbrev pub invariant-loop-entry : goal.invariant-loop-entry
invariant-loop-entry l = map (λ p. p.now) l.paths.items
    ≡ map (λ r. r.path) (filter (may_have_changed l.options (contents l.state).time l.seen)
    (map (record_in (storage_of l.state)) (take l.entry-index (entries_of l.state))))
