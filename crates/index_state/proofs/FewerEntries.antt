-- A storable index stays storable if entries are removed, and others get other flags.
use Rattle.std.proofs.Common.{◌≡◌, ◌≤◌, List, ℕ, All, length}
use Rattle.std.specs.Prelude.{◌≢◌}
use Rattle.index_parts.specs.Id.{id_kind}
use Rattle.entry_list.specs.Record.{Record, IsSized}
use Rattle.index_state.specs.Edits.{edited}
use Rattle.index_model.specs.Contents.{Contents}
use Rattle.index_model.specs.Storable.{IsStorable}

-- Other records instead of the value's. Each property that all of those have, whatever their flags, all of these have.
pub flags_storable : (v : Contents) (rs : List Record) → IsStorable v → ((P : Record → Type 0)
    → ((r : Record) (flags : ℕ) → P r → P (record r { flags = flags })) → All P v.records → All P rs)
    → IsStorable (edited v rs)
flags_storable v rs h keeps = record {
  ids = keeps (λ r. id_kind r.id ≡ v.kind) (λ r flags p. p) h.ids;
  paths = keeps (λ r. 4095 ≤ length r.path → All (λ b. b ≢ 0) r.path) (λ r flags p. p) h.paths;
  fits = keeps IsSized (λ r flags p.
      record {
        ctime_secs = p.ctime_secs;
        ctime_nsecs = p.ctime_nsecs;
        mtime_secs = p.mtime_secs;
        mtime_nsecs =
            p.mtime_nsecs;
        dev = p.dev;
        ino = p.ino;
        uid = p.uid;
        gid = p.gid;
        size = p.size;
        mode = p.mode;
        id = p.id;
      })
      h.fits;
  tree = h.tree;
}
