use Rattle.std.proofs.Common.{◌≡◌, All, List, ap, length, map, rules, subst, sym, ◌∙◌}
use Rattle.std.proofs.lemmas.List.{length-map}
use Rattle.entry_list.specs.Record.{IdsAreOf, IsPlaced, Record, records_in}
use Rattle.entry_list.specs.declared.Entry.{Entry}
use Rattle.index_model.specs.Storable.{IsStorable}
use Rattle.index_state.specs.Edits.{with_entries, with_records}
use Rattle.index_state.specs.Racy.{MayBeTrusted, smudged, smudged_entry}
use Rattle.index_state.specs.State.{contents, entries_of, records, storage_of}
use Rattle.index_state.proofs.Edits.{entries_of-with_entries}
use Rattle.index_state.proofs.Smudges.{all_of, records_smudged, smudged_ids, smudged_placed, smudged_storable}
use Rattle.index_state.proofs.Smudges.{trusted_before}
use Rattle.index_state.proofs.State.smudge_racy.Goals as goal

pub returns : goal.returns
returns c =
    let old = c.args.self.now in
    let time = c.args.time in
    let f = smudged_entry time in
    let is : c.smudge.new.entries ≡ map f (entries_of old) = c.smudge.ensures ∙ ap (map f) c.deref_mut.ensures.value in
    let held : entries_of (with_entries old c.smudge.new.entries) ≡ map f (entries_of old) =
    entries_of-with_entries old c.smudge.new.entries (ap (λ (l : List Entry). length l) is ∙ length-map (entries_of old) f)
    ∙ is in
    let value = ap (λ (rs : List Record). with_records (contents old) rs)
    (ap (records_in (storage_of old)) held ∙ records_smudged time (storage_of old) (entries_of old)) in
    record {
      smudged = value;
      trusted = λ later. all_of (λ r. MayBeTrusted later (smudged time r) → MayBeTrusted time r)
          (trusted_before time later) (records old);
      storage = search rules;
      placed = λ h. subst (All (IsPlaced (length (storage_of old)))) (sym held)
          (smudged_placed time (length (storage_of old)) (entries_of old) h);
      ids = λ kind h. subst (IdsAreOf kind) (sym held) (smudged_ids time kind (entries_of old) h);
      storable = λ h. subst IsStorable (sym value) (smudged_storable time (contents old) h);
    }
