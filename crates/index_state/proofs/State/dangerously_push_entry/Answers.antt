use Rattle.std.proofs.Common.{refl, ap, ◌≡◌, inl, inr, length, List, rules, sym, subst}
use Rattle.entry_list.specs.Record.{IsSized, Record}
use Rattle.index_parts.specs.Id.{id_bytes, id_kind, id_len}
use Rattle.index_model.specs.Storable.{IsStorable}
use Rattle.index_state.specs.Edits.{edited}
use Rattle.index_state.specs.State.{contents, entries_of, storage_of}
use Rattle.entry_list.proofs.Appended.{appended_placed, appended_records}
use Rattle.entry_list.proofs.StorableEntries.{variant_of}
use Rattle.index_state.proofs.Storables.{appended_ids, push_storable}
use Rattle.index_state.proofs.State.dangerously_push_entry.Goals as goal

-- The types of the arguments bound the bits of each number and the bytes of an id. `non_empty` is that, one argument
-- after the other. So is each part of it for the fields of a struct.
pub returns : goal.returns
returns c =
    let old = c.args.self.now in
    let a = c.in_ok-append.ensures.appended in
    let given = c.well_formed.1 in
    let stat = given.0.1.1 in
    let mtime = stat.0.1.1 in
    let ctime = stat.1.0.1.1 in
    let id : length (id_bytes c.args.id) ≡ id_len (id_kind c.args.id) = elim (variant_of c.args.id) [
      | inl v ↦ let bytes = rw v.1 at given.1.0 in rw v.1 bytes.1.1.1.1.0.1.0.1
      | inr v ↦ let bytes = rw v.1 at given.1.0 in rw v.1 bytes.1.1.1.1.0.1.0.1
    ] in
    let sized : IsSized (record {
      path = c.args.path.now;
      stat = c.args.stat;
      id = c.args.id;
      flags = c.args.flags.0;
      mode = c.args.mode.0;
    }) = record {
      ctime_secs = ctime.0.1;
      ctime_nsecs = ctime.1.0.1;
      mtime_secs = mtime.0.1;
      mtime_nsecs = mtime.1.0.1;
      dev = stat.1.1.0.1;
      ino = stat.1.1.1.0.1;
      uid = stat.1.1.1.1.0.1;
      gid = stat.1.1.1.1.1.0.1;
      size = stat.1.1.1.1.1.1.0.1;
      mode = given.1.1.1.0.1.1.0.1;
      id = id;
    } in
    record {
      added = record {
        entry = a.entry;
        entries = a.entries;
        storage = a.storage;
        placed = a.placed;
        is = a.is;
        others = refl;
      };
      pushed = λ placed. ap (λ (rs : List Record). edited (contents old) rs)
          (appended_records (storage_of old) (entries_of old) _ _ _ placed a);
      placed = λ placed. appended_placed (storage_of old) (entries_of old) _ _ _ placed a;
      ids = λ kind h same. appended_ids kind (storage_of old) (entries_of old) _ _ _ a h same;
      storable = λ placed h kind path. subst IsStorable
          (sym (ap (λ (rs : List Record). edited (contents old) rs)
          (appended_records (storage_of old) (entries_of old) _ _ _ placed a)))
          (push_storable (contents old) _ h kind path sized);
      err = search rules;
    }
