use Rattle.std.specs.Path.{path_bytes, path_buf_bytes}
use Rattle.std.proofs.Common.{rules}
use Rattle.file_place.specs.Locks.{lock_of, target_of}
use Rattle.gix_index.proofs.ReadsBy.{locked_fault, locked_read}
use Rattle.gix_index.proofs.file.File.lock.Goals as goal

pub returns-in-Ok-read_from-clause-read : goal.returns-in-Ok-read_from-clause-read
returns-in-Ok-read_from-clause-read g c =
    let r = c.args.reading in
    locked_read r.skip_hash r.object_hash r.options _ _ (g.D.Folder.known c.acquire.new.folder)
    (path_bytes c.target.result) _ (path_buf_bytes c.args.path) c.in-Ok-read_from.file _ _ c.allows_empty.ensures
    c.modified.ensures c.target.ensures c.in-Ok-read_from.ensures.read

pub returns-in-Err-read_from-clause-fault : goal.returns-in-Err-read_from-clause-fault
returns-in-Err-read_from-clause-fault g c =
    let r = c.args.reading in
    locked_fault r.skip_hash r.object_hash r.options (g.D.Folder.works c.args.folder.now) _
    (g.D.Folder.guards c.args.folder.now) _ (g.D.Folder.known c.args.folder.now)
    (g.D.Folder.known c.acquire.new.folder) (path_buf_bytes c.args.path) (target_of c.in_ok-place.field-0.place)
    (path_bytes c.target.result) (lock_of c.in_ok-place.field-0.place) c.in-Err-read_from.e c.acquire.ensures.works c.target.ensures (search rules) (search rules) (search rules)
    c.in-Err-read_from.ensures.fault
