use Rattle.std.proofs.Common.{◌≡◌, ◌==◌, sym, ap, subst, ◌∙◌, rules, tests}
use Rattle.std.proofs.lemmas.Iterator.{YieldsList-from_slice}
use Rattle.std.proofs.lemmas.Iterator.Search.{any_from_yields_List}
use Rattle.gix_index.specs.Contents.{PartsInStorage, parts_contents}
use Rattle.gix_index.specs.Outcome.{outcome_of}
use Rattle.gix_index.specs.Mode.{directory_mode}
use Rattle.gix_index.specs.Record.{has_directory}
use Rattle.gix_index.specs.State.{entries_of, records, storage_of}
use Rattle.view_salvage.proofs.Completing.{any_directory, marked_contents, plain_marked}
use Rattle.view_salvage.proofs.remains.with_sparse_mark.Goals as goal

pub returns-clause-plain : goal.returns-clause-plain
returns-clause-plain c = λ h.
    let old = c.args.state in
    let taken = c.into_entries-entries.ensures in
    let among = any_from_yields_List (λ e. e.mode.0 == directory_mode) _ _ c.any.result c.any.ensures.ran
    (YieldsList-from_slice (entries_of old) cc) (λ x b q k. search (rules, tests)) in
    let sparse : c.any.result ≡ has_directory (records old) = among ∙ any_directory (storage_of old) (entries_of old) in
    plain_marked old c.from.result h
    (marked_contents old _ c.object_hash-object_hash.result c.timestamp-timestamp.result
    c.into_entries-entries.result.1.items c.into_entries-entries.result.0.items (outcome_of c.none-extensions.result)
    c.any.result (ap parts_contents c.from.ensures) c.object_hash-object_hash.ensures c.timestamp-timestamp.ensures
    taken.entries taken.storage c.none-extensions.ensures sparse)
    (subst PartsInStorage (sym c.from.ensures) (rw (taken.entries, taken.storage) h.placed))
