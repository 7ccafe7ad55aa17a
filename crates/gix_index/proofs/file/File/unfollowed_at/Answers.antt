use Rattle.std.specs.Path.{path_buf_bytes, path_bytes}
use Rattle.gix_index.specs.Disk.{known_of}
use Rattle.gix_index.proofs.FileFaults.{alone_kept, alone_there, call_says, fault_read}
use Rattle.gix_index.proofs.file.File.unfollowed_at.Goals as goal

pub returns-in-Err-clause-fault : goal.returns-in-Err-clause-fault
returns-in-Err-clause-fault g c =
    let r = c.args.reading in
    call_says (path_buf_bytes c.args.path) c.in-Err.e c.of.result c.of.ensures
    (g.D.Folder.works c.args.folder.now) (g.D.Folder.known c.args.folder.now (path_buf_bytes c.args.path))
    (rw c.as_path.ensures at c.in-Err.ensures.fault) r.skip_hash r.object_hash r.timestamp
    r.options

pub returns-in-Ok-clause-read : goal.returns-in-Ok-clause-read
returns-in-Ok-clause-read g c =
    let r = c.args.reading in
    alone_there r.skip_hash r.object_hash r.timestamp r.options (path_bytes c.as_path.result)
    (path_buf_bytes c.args.path) (g.D.Folder.known c.args.folder.now) (g.D.File.Source.stored c.in-Ok.file)
    c.read_file.result c.as_path.ensures c.in-Ok.ensures.opened
    (alone_kept _ (known_of (g.D.File.Source.stored c.in-Ok.file)) c.read_file.result c.read_file.ensures.read)

pub returns-in-Ok-clause-fault : goal.returns-in-Ok-clause-fault
returns-in-Ok-clause-fault g c =
    let r = c.args.reading in
    fault_read r.skip_hash r.object_hash r.timestamp r.options (path_bytes c.as_path.result)
    (path_buf_bytes c.args.path) (g.D.Folder.works c.args.folder.now) (g.D.File.Source.works c.in-Ok.file)
    (g.D.Folder.known c.args.folder.now) (g.D.File.Source.stored c.in-Ok.file) c.read_file.result c.as_path.ensures
    c.in-Ok.ensures.works c.in-Ok.ensures.opened c.read_file.ensures.fault
