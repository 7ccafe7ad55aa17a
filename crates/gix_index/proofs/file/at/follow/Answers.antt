use Rattle.std.proofs.Common.{refl, sym, ap, ◌∙◌, subst}
use Rattle.std.proofs.lemmas.Result.{err_from_is_err_and}
use Rattle.ext_split.specs.Link.{link_of}
use Rattle.index_state.specs.Dissolve.{IsDissolved, DissolveCause}
use Rattle.index_model.specs.Contents.{Contents}
use Rattle.index_state.specs.State.{contents}
use Rattle.index_model.specs.Storable.{IsStorable}
use Rattle.gix_index.specs.Disk.{disk_beside}
use Rattle.gix_index.specs.File.{path_of, state_of, checksum_of}
use Rattle.gix_index.specs.Linked.{own, joined}
use Rattle.gix_index.proofs.FileFaults.{of_link, of_shared}
use Rattle.gix_index.proofs.Joined.{dissolved_unlinked, read_kind, unlinked_storable}
use Rattle.gix_index.proofs.file.at.follow.Goals as goal

pub returns-in_default-clause-read : goal.returns-in_default-clause-read
returns-in_default-clause-read g c = λ known read.
    let t = c.take_followed_link.ensures in
    own (record {
      split = contents (state_of c.args.file);
      read = read;
      unfollowed = rw c.in_default.is at t.given;
      is = t.removed;
    })

pub returns-in_err-shared-clause-fault : goal.returns-in_err-shared-clause-fault
returns-in_err-shared-clause-fault g c =
    let t = c.take_followed_link.ensures in
    let link = rw c.in-Some.is at t.given in
    let r = c.args.reading in
    let p = err_from_is_err_and c.from_residual.result c.from_residual.ensures.1 in
    rw (p.1, p.2) (λ known read. of_shared r.skip_hash r.object_hash r.timestamp r.options (path_of c.args.file)
    (g.D.Folder.works c.args.folder.now) (disk_beside known (g.D.Folder.known c.args.folder.now) (path_of c.args.file)) (contents (state_of c.args.file))
    (checksum_of c.args.file) (link_of c.in-Some.link) c.in_err-shared.field-0.0
    (record {
      read = read;
      has_link = link.has_link;
      followed = link.followed;
    })
    (rw c.as_path.ensures at c.in_err-shared.ensures.fault))

pub returns-in_err-dissolve_into-clause-fault : goal.returns-in_err-dissolve_into-clause-fault
returns-in_err-dissolve_into-clause-fault g c =
    let t = c.take_followed_link.ensures in
    let link = rw c.in-Some.is at t.given in
    let r = c.args.reading in
    let s = rw c.as_path.ensures at c.in_ok-shared.ensures.read in
    let e = c.in_err-dissolve_into.field-0.0 in
    let p = err_from_is_err_and c.from_residual-in_err-dissolve_into.result
    c.from_residual-in_err-dissolve_into.ensures.1 in
    rw (p.1, p.2) (λ known read. of_link r.skip_hash r.object_hash r.timestamp r.options (path_of c.args.file)
    (g.D.Folder.works c.args.folder.now) (disk_beside known (g.D.Folder.known c.args.folder.now) (path_of c.args.file)) (contents (state_of c.args.file))
    (checksum_of c.args.file) (link_of c.in-Some.link) (contents c.in_ok-shared.shared) s.0 e
    (record {
      read = read;
      has_link = link.has_link;
      followed = link.followed;
    })
    s.1
    (subst (λ (v : Contents). DissolveCause e (link_of c.in-Some.link) (contents c.in_ok-shared.shared) v) t.removed
    c.in_err-dissolve_into.ensures.fault))

pub returns-clause-read : goal.returns-clause-read
returns-clause-read g c = λ known read.
    let t = c.take_followed_link.ensures in
    let link = rw c.in-Some.is at t.given in
    let s = rw c.as_path.ensures at c.in_ok-shared.ensures.read in
    let d = c.in_ok-dissolve_into.ensures.dissolved c.in_ok-shared.ensures.formed.placed in
    joined (record {
      split = contents (state_of c.args.file);
      link = link_of c.in-Some.link;
      is_split = record {
        read = read;
        has_link = link.has_link;
        followed = link.followed;
      };
      shared = contents c.in_ok-shared.shared;
      shared_checksum = s.0;
      read_shared = s.1;
      dissolved = subst (λ (v : Contents). IsDissolved (link_of c.in-Some.link) (contents c.in_ok-shared.shared) v
          (contents c.dissolve_into.new.split)) t.removed d;
    })

pub returns-clause-whole : goal.returns-clause-whole
returns-clause-whole g c =
    let t = c.take_followed_link.ensures in
    let s = c.in_ok-shared.ensures.read in
    let mine = read_kind _ _ _ _ c.requires.read.0 (contents (state_of c.args.file)) _ c.requires.read.1 in
    let theirs = read_kind _ _ _ _ s.1.bytes (contents c.in_ok-shared.shared) s.0 s.1.read in
    let same = theirs ∙ sym mine ∙ sym (ap (λ (v : Contents). v.kind) t.removed) in
    let shared = c.in_ok-shared.ensures.formed in
    let after = c.dissolve_into.ensures in
    let unlinked = ap (λ (v : Contents). v.extensions.link) t.removed in
    record {
      path = refl;
      placed = after.placed (rw (t.entries, t.storage) c.requires.formed.placed) shared.placed;
      ids = after.ids shared.placed c.args.reading.object_hash (rw t.entries c.requires.formed.ids) shared.ids;
      storable = after.storable shared.placed (subst IsStorable (sym t.removed)
          (unlinked_storable (contents (state_of c.args.file)) c.requires.formed.storable)) shared.storable same;
      unlinked = dissolved_unlinked (link_of c.in-Some.link) _ _ _ unlinked
          (c.in_ok-dissolve_into.ensures.dissolved shared.placed);
    }
