use Rattle.std.proofs.Common.{◌≡◌, inl, inr, length, rules, sym, ◌∙◌}
use Rattle.index_parts.specs.Id.{id_bytes, id_kind, id_len}
use Rattle.entry_list.specs.Record.{IsSized, with_path}
use Rattle.entry_list.proofs.StorableEntries.{variant_of}
use Rattle.index_encode.proofs.storable.is_storable.Goals as goal

-- The types of the parts bound the bits of each number and the bytes of an id. `non_empty` is that, one part after the
-- other. So is each part of it for the fields of a struct.
pub returns-then-eq : goal.returns-then-eq
returns-then-eq c =
    let entry = c.args.entry in
    let given = c.well_formed.0.1.1 in
    let stat = given.0.1.1 in
    let mtime = stat.0.1.1 in
    let ctime = stat.1.0.1.1 in
    let id : length (id_bytes entry.id) ≡ id_len (id_kind entry.id) = elim (variant_of entry.id) [
      | inl v ↦ let bytes = rw v.1 at given.1.0 in rw v.1 bytes.1.1.1.1.0.1.0.1
      | inr v ↦ let bytes = rw v.1 at given.1.0 in rw v.1 bytes.1.1.1.1.0.1.0.1
    ] in
    let sized : IsSized (with_path c.args.path.now entry) = record {
      ctime_secs = ctime.0.1;
      ctime_nsecs = ctime.1.0.1;
      mtime_secs = mtime.0.1;
      mtime_nsecs = mtime.1.0.1;
      dev = stat.1.1.0.1;
      ino = stat.1.1.1.0.1;
      uid = stat.1.1.1.1.0.1;
      gid = stat.1.1.1.1.1.0.1;
      size = stat.1.1.1.1.1.1.0.1;
      mode = given.1.1.1.0.1.1.0.1;
      id = id;
    } in
    let kind : id_kind entry.id ≡ c.args.object_hash = sym c.kind.ensures ∙ search rules in
    (λ t. record { id = kind; plain = c.is_plain.ensures.0 t; fits = sized }, λ h. c.is_plain.ensures.1 h.plain)
