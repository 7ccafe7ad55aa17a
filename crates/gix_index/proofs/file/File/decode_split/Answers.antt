use Rattle.std.proofs.Common.{sym, ap, ◌∙◌, refl, subst}
use Rattle.std.proofs.lemmas.Result.{err_from_is_err_and}
use Rattle.ext_split.specs.Link.{link_of}
use Rattle.index_state.specs.Dissolve.{IsDissolved, DissolveCause}
use Rattle.index_model.specs.Contents.{Contents}
use Rattle.index_state.specs.State.{PathsInStorage, contents}
use Rattle.index_model.specs.Storable.{IsStorable}
use Rattle.gix_index.specs.Disk.{disk_in_hand}
use Rattle.gix_index.specs.File.{checksum_of, state_of}
use Rattle.gix_index.specs.Linked.{joined, own}
use Rattle.gix_index.proofs.FileFaults.{link_of_both, own_of_both, shared_of_both}
use Rattle.gix_index.proofs.Joined.{dissolved_unlinked, read_kind, unlinked_storable}
use Rattle.gix_index.proofs.file.File.decode_split.Goals as goal

pub returns-in_err-file-clause-fault : goal.returns-in_err-file-clause-fault
returns-in_err-file-clause-fault c =
    let a = c.args in
    let r = a.reading in
    let p = err_from_is_err_and c.from_residual.result c.from_residual.ensures.1 in
    rw (p.1, p.2) (own_of_both r.skip_hash r.object_hash r.timestamp r.options
    (disk_in_hand a.«data».now a.shared.now r.timestamp) a.«data».now c.in_err-file.field-0.0 refl
    c.in_err-file.ensures.answer)

pub returns-in_default-clause-read : goal.returns-in_default-clause-read
returns-in_default-clause-read c =
    let t = c.take_followed_link.ensures in
    own (record {
      split = contents (state_of c.in_ok-file.file);
      read = record { bytes = c.args.«data».now; held = refl; read = c.in_ok-file.ensures.answer };
      unfollowed = rw c.in_default.is at t.given;
      is = t.removed;
    })

pub returns-in_err-index-clause-fault : goal.returns-in_err-index-clause-fault
returns-in_err-index-clause-fault c =
    let a = c.args in
    let r = a.reading in
    let link = rw c.in-Some.is at c.take_followed_link.ensures.given in
    let split = c.in_ok-file.file in
    let p = err_from_is_err_and c.from_residual-in_err-index.result c.from_residual-in_err-index.ensures.1 in
    rw (p.1, p.2) (shared_of_both r.skip_hash r.object_hash r.timestamp r.options
    (disk_in_hand a.«data».now a.shared.now r.timestamp) a.shared.now (contents (state_of split)) (checksum_of split)
    (link_of c.in-Some.link) c.in_err-index.field-0.0
    (record {
      read = record { bytes = a.«data».now; held = refl; read = c.in_ok-file.ensures.answer };
      has_link = link.has_link;
      followed = link.followed;
    }) refl c.in_err-index.ensures.answer)

pub returns-in_err-dissolve_into-clause-fault : goal.returns-in_err-dissolve_into-clause-fault
returns-in_err-dissolve_into-clause-fault c =
    let a = c.args in
    let r = a.reading in
    let t = c.take_followed_link.ensures in
    let link = rw c.in-Some.is at t.given in
    let split = c.in_ok-file.file in
    let index = c.in_ok-index.index in
    let e = c.in_err-dissolve_into.field-0.0 in
    let p = err_from_is_err_and c.from_residual-in_err-dissolve_into.result
    c.from_residual-in_err-dissolve_into.ensures.1 in
    rw (p.1, p.2) (link_of_both r.skip_hash r.object_hash r.timestamp r.options
    (disk_in_hand a.«data».now a.shared.now r.timestamp) (contents (state_of split)) (checksum_of split)
    (link_of c.in-Some.link) (contents (state_of index)) (checksum_of index) e
    (record {
      read = record { bytes = a.«data».now; held = refl; read = c.in_ok-file.ensures.answer };
      has_link = link.has_link;
      followed = link.followed;
    })
    (record { bytes = a.shared.now; held = refl; read = c.in_ok-index.ensures.answer })
    (subst (λ (v : Contents). DissolveCause e (link_of c.in-Some.link) (contents (state_of index)) v) t.removed
    (rw c.into_parts-shared.ensures.state at c.in_err-dissolve_into.ensures.fault)))

pub returns-clause-read : goal.returns-clause-read
returns-clause-read c =
    let t = c.take_followed_link.ensures in
    let link = rw c.in-Some.is at t.given in
    let split = c.in_ok-file.file in
    let index = c.in_ok-index.index in
    let d = (rw c.into_parts-shared.ensures.state at c.in_ok-dissolve_into.ensures.dissolved)
    c.in_ok-index.ensures.formed.placed in
    joined (record {
      split = contents (state_of split);
      link = link_of c.in-Some.link;
      is_split = record {
        read = record { bytes = c.args.«data».now; held = refl; read = c.in_ok-file.ensures.answer };
        has_link = link.has_link;
        followed = link.followed;
      };
      shared = contents (state_of index);
      shared_checksum = checksum_of index;
      read_shared = record { bytes = c.args.shared.now; held = refl; read = c.in_ok-index.ensures.answer };
      dissolved = subst (λ (v : Contents). IsDissolved (link_of c.in-Some.link) (contents (state_of index)) v
          (contents c.dissolve_into.new.split)) t.removed d;
    })

pub returns-clause-whole : goal.returns-clause-whole
returns-clause-whole c =
    let t = c.take_followed_link.ensures in
    let split = c.in_ok-file.file in
    let index = c.in_ok-index.index in
    let mine = read_kind _ _ _ _ c.args.«data».now (contents (state_of split)) _ c.in_ok-file.ensures.answer in
    let theirs = read_kind _ _ _ _ c.args.shared.now (contents (state_of index)) _ c.in_ok-index.ensures.answer in
    let same = ap contents c.into_parts-shared.ensures.state in
    let own = c.in_ok-file.ensures.formed in
    let shared = c.in_ok-index.ensures.formed in
    let placed : PathsInStorage c.into_parts-shared.result.0 = rw c.into_parts-shared.ensures.state shared.placed in
    let after = c.dissolve_into.ensures in
    let unlinked = ap (λ (v : Contents). v.extensions.link) t.removed in
    record {
      path = own.path;
      placed = after.placed (rw (t.entries, t.storage) own.placed) placed;
      ids = after.ids placed c.args.reading.object_hash (rw t.entries own.ids)
          (rw c.into_parts-shared.ensures.state shared.ids);
      storable = after.storable placed
          (subst IsStorable (sym t.removed) (unlinked_storable (contents (state_of split)) own.storable))
          (rw c.into_parts-shared.ensures.state shared.storable)
          (ap (λ (v : Contents). v.kind) same ∙ theirs ∙ sym mine ∙ sym (ap (λ (v : Contents). v.kind) t.removed));
      unlinked = dissolved_unlinked (link_of c.in-Some.link) _ _ _ unlinked
          (c.in_ok-dissolve_into.ensures.dissolved placed);
    }
