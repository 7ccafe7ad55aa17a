use Rattle.std.proofs.Common.{◌≡◌, All, List, length, refl, sym, ap, subst, ◌∙◌}
use Rattle.gix_index.specs.Contents.{PartsInStorage, parts_contents}
use Rattle.gix_index.specs.Outcome.{outcome_of}
use Rattle.gix_index.specs.Record.{IsPlaced, Record, records_in}
use Rattle.gix_index.specs.Sorted.{IsOrdered}
use Rattle.gix_index.specs.State.{contents, records}
use Rattle.view_salvage.specs.Choice.{IsSortedSelection}
use Rattle.view_salvage.proofs.Saved.{index_saved, plain_contents}
use Rattle.view_salvage.proofs.salvage.firsts.Goals as goal

pub returns-clause-saved : goal.returns-clause-saved
returns-clause-saved c = λ up.
    let old = c.args.state in
    let taken = c.into_entries-entries.ensures in
    let storage = c.into_entries-entries.result.1.items in
    let entries = c.keep_firsts.new.entries.items in
    let same : records_in storage c.into_entries-entries.result.0.items ≡ records old =
    rw (taken.entries, taken.storage) refl in
    let kept : IsOrdered (records_in storage c.into_entries-entries.result.0.items)
    → IsSortedSelection (records_in storage c.into_entries-entries.result.0.items) (records_in storage entries) =
    rw c.deref.ensures.value at c.keep_firsts.ensures.saved in
    let left : IsSortedSelection (records old) (records_in storage entries) =
    subst (λ (l : List Record). IsSortedSelection l (records_in storage entries)) same (kept (subst IsOrdered (sym
    same) up)) in
    rw c.from.ensures left

pub returns-clause-index : goal.returns-clause-index
returns-clause-index c = λ up index.
    let old = c.args.state in
    let taken = c.into_entries-entries.ensures in
    let storage = c.into_entries-entries.result.1.items in
    let entries = c.keep_firsts.new.entries.items in
    let same : records_in storage c.into_entries-entries.result.0.items ≡ records old =
    rw (taken.entries, taken.storage) refl in
    let kept : IsOrdered (records_in storage c.into_entries-entries.result.0.items)
    → IsSortedSelection (records_in storage c.into_entries-entries.result.0.items) (records_in storage entries) =
    rw c.deref.ensures.value at c.keep_firsts.ensures.saved in
    let left : IsSortedSelection (records old) (records_in storage entries) =
    subst (λ (l : List Record). IsSortedSelection l (records_in storage entries)) same (kept (subst IsOrdered (sym
    same) up)) in
    let placed : All (IsPlaced (length storage)) c.into_entries-entries.result.0.items
    → All (IsPlaced (length storage)) entries = rw c.deref.ensures.value at c.keep_firsts.ensures.placed in
    index_saved old c.from.result index (rw c.from.ensures left)
    (plain_contents old (contents c.from.result) c.object_hash-object_hash.result c.timestamp-timestamp.result storage
    entries (outcome_of c.none.result) (ap parts_contents c.from.ensures) c.object_hash-object_hash.ensures
    c.timestamp-timestamp.ensures c.none.ensures ∙ rw c.from.ensures refl)
    (subst PartsInStorage (sym c.from.ensures) (placed (rw (taken.entries, taken.storage) index.placed)))
