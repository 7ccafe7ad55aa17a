use Rattle.std.proofs.Common.{false, refl}
use Rattle.std.proofs.lemmas.Bool.{false≢true}
use Rattle.std.proofs.lemmas.Result.{err_from_is_err_and}
use Rattle.std.specs.Prelude.{IsTrue}
use Rattle.std.specs.Path.{path_bytes, path_buf_bytes}
use Rattle.file_place.specs.World.{Known, MayBeMissing}
use Rattle.gix_index.specs.Disk.{disk_beside, known_of, shared_path}
use Rattle.index_state.specs.State.{contents}
use Rattle.gix_index.specs.File.{IsEmptyFile, checksum_of, path_of, state_of}
use Rattle.gix_index.proofs.FileFaults.{call_says, fault_followed, file_read, of_own, read_followed}
use Rattle.gix_index.proofs.ReadsBy.{fault_at, own_fault_at, read_at}
use Rattle.gix_index.proofs.file.at.read_from.Goals as goal

pub returns-in-Err-2-clause-fault : goal.returns-in-Err-2-clause-fault
returns-in-Err-2-clause-fault g c =
    let r = c.args.reading in
    let world = g.D.Folder.known c.args.folder.now in
    let works = g.D.Folder.works c.args.folder.now in
    let own = world (path_bytes c.args.at) in
    let path = path_buf_bytes c.args.path in (
      r.timestamp,
      λ _. refl,
      of_own r.skip_hash r.object_hash r.timestamp r.options path works (disk_beside own world path) c.of.result
          (call_says path c.in-Err.e c.of.result c.of.ensures works own c.in-Err.ensures.fault r.skip_hash
          r.object_hash r.timestamp r.options),
    )

pub returns-in-Err-time_of-clause-fault : goal.returns-in-Err-time_of-clause-fault
returns-in-Err-time_of-clause-fault g c =
    let r = c.args.reading in
    let world = g.D.Folder.known c.args.folder.now in
    let works = g.D.Folder.works c.args.folder.now in
    let own = world (path_bytes c.args.at) in
    let path = path_buf_bytes c.args.path in (
      r.timestamp,
      λ _. refl,
      of_own r.skip_hash r.object_hash r.timestamp r.options path works (disk_beside own world path)
          c.of-in-Err-time_of.result (call_says path c.in-Err-time_of.e c.of-in-Err-time_of.result
          c.of-in-Err-time_of.ensures works own
          (λ is. absurd (false≢true (rw c.in-Err-time_of.is at (c.time_of.ensures.succeeds (c.in-Ok.ensures.works is)))))
          r.skip_hash r.object_hash r.timestamp r.options),
    )

pub follow-requires-clause-read : goal.follow-requires-clause-read
follow-requires-clause-read g c = let h = c.in_ok-read.ensures.read in (h.0, h.2.read)

pub returns-in_err-read-clause-fault : goal.returns-in_err-read-clause-fault
returns-in_err-read-clause-fault g c =
    let r = c.args.reading in
    let world = g.D.Folder.known c.args.folder.now in
    let path = path_buf_bytes c.args.path in
    let p = err_from_is_err_and c.from_residual.result c.from_residual.ensures.1 in
    rw (p.1, p.2) (own_fault_at r.skip_hash r.object_hash r.options (g.D.Folder.works c.args.folder.now)
    (g.D.File.Source.works c.in-Ok.file) c.args.has_time r.timestamp c.in-Ok-time_of.timestamp path
    (world (path_bytes c.args.at)) (g.D.File.Source.stored c.in-Ok.file) (λ id. world (shared_path path id))
    c.in_err-read.field-0.0 c.in-Ok.ensures.works c.in-Ok.ensures.opened c.in-Ok-time_of.ensures.time
    c.in_err-read.ensures.fault)

pub returns-clause-read : goal.returns-clause-read
returns-clause-read g c =
    let r = c.args.reading in
    let time = c.in-Ok-time_of.timestamp in
    let world = g.D.Folder.known c.args.folder.now in
    let own = world (path_bytes c.args.at) in
    let stored = g.D.File.Source.stored c.in-Ok.file in
    let index = c.in_ok-read.read.index in
    read_at r.skip_hash r.object_hash r.options c.args.has_time r.timestamp time own
    stored (λ id. world (shared_path (path_buf_bytes c.args.path) id))
    (λ f. IsTrue c.args.or_default × MayBeMissing own × IsEmptyFile r.object_hash r.timestamp f)
    c.follow.result c.in-Ok.ensures.opened c.in-Ok-time_of.ensures.time
    (rw c.in_ok-read.ensures.formed.path at (read_followed r.skip_hash r.object_hash time r.options
    (λ (k : Known). disk_beside k world (path_of index)) (known_of stored) (contents (state_of index))
    (checksum_of index) c.follow.result (file_read _ (known_of stored) false _ c.in_ok-read.ensures.read)
    c.follow.ensures.read))

pub returns-clause-fault : goal.returns-clause-fault
returns-clause-fault g c =
    let r = c.args.reading in
    let time = c.in-Ok-time_of.timestamp in
    let world = g.D.Folder.known c.args.folder.now in
    let works = g.D.Folder.works c.args.folder.now in
    let path = path_buf_bytes c.args.path in
    let stored = g.D.File.Source.stored c.in-Ok.file in
    let index = c.in_ok-read.read.index in
    fault_at r.skip_hash r.object_hash r.options works c.args.has_time r.timestamp time path
    (world (path_bytes c.args.at)) stored (λ id. world (shared_path path id))
    c.follow.result c.in-Ok.ensures.opened c.in-Ok-time_of.ensures.time
    (rw c.in_ok-read.ensures.formed.path at (fault_followed r.skip_hash r.object_hash time r.options (path_of index) works
    (λ (k : Known). disk_beside k world (path_of index)) (known_of stored) (contents (state_of index))
    (checksum_of index) c.follow.result (file_read _ (known_of stored) false _ c.in_ok-read.ensures.read) c.follow.ensures.fault))
