use Rattle.std.proofs.Common.{◌≡◌, inl, inr, length, rules}
use Rattle.index_parts.specs.Id.{id_bytes, id_kind, id_len}
use Rattle.entry_list.specs.Record.{IsSized, with_path}
use Rattle.entry_list.proofs.StorableEntries.{variant_of}
use Rattle.entry_edit.specs.Edits.{merged}
use Rattle.index_edit.proofs.PartsAnswers.{resolves}
use Rattle.index_edit.proofs.parts.resolve.Goals as goal

-- The types of the parts bound the bits of each number and the bytes of an id. `non_empty` is that, one part after the
-- other. So is each part of it for the fields of a struct.
pub returns : goal.returns
returns g c =
    let entry = c.args.entry in
    let given = c.well_formed.1.1.0.1.1 in
    let stat = given.0.1.1 in
    let mtime = stat.0.1.1 in
    let ctime = stat.1.0.1.1 in
    let id : length (id_bytes entry.id) ≡ id_len (id_kind entry.id) = elim (variant_of entry.id) [
      | inl v ↦ let bytes = rw v.1 at given.1.0 in rw v.1 bytes.1.1.1.1.0.1.0.1
      | inr v ↦ let bytes = rw v.1 at given.1.0 in rw v.1 bytes.1.1.1.1.0.1.0.1
    ] in
    let sized : IsSized (with_path c.args.path.now (merged entry)) = record {
      ctime_secs = ctime.0.1;
      ctime_nsecs = ctime.1.0.1;
      mtime_secs = mtime.0.1;
      mtime_nsecs = mtime.1.0.1;
      dev = stat.1.1.0.1;
      ino = stat.1.1.1.0.1;
      uid = stat.1.1.1.1.0.1;
      gid = stat.1.1.1.1.1.0.1;
      size = stat.1.1.1.1.1.1.0.1;
      mode = given.1.1.1.0.1.1.0.1;
      id = id;
    } in
    resolves (g.C.ComponentCheck.refusal c.args.check.now) c.args.parts.now _ entry c.args.path c.in_ok-told.told
    c.in_ok-told.ensures.reason sized (search rules) (search rules) (search rules) (search rules)

pub returns-in_err-told : goal.returns-in_err-told
returns-in_err-told g c = record {
  reason = search rules;
  updated = search rules;
  resolved = search rules;
  storable = search rules;
  told = search rules;
  placed = search rules;
  err = search rules;
}
