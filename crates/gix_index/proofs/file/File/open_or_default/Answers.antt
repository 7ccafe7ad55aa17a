use Rattle.std.proofs.Common.{◌≡◌, rules}
use Rattle.std.specs.Path.{path_bytes, path_buf_bytes}
use Rattle.gix_index.specs.Disk.{disk_at}
use Rattle.gix_index.specs.FileFaults.{FilesReadCause}
use Rattle.gix_index.proofs.ReadsBy.{no_memory, since_or_empty, some_fault}
use Rattle.gix_index.proofs.file.File.open_or_default.Goals as goal

pub returns-in_err-at-clause-fault : goal.returns-in_err-at-clause-fault
returns-in_err-at-clause-fault g c =
    let r = c.args.reading in
    let path = path_buf_bytes c.args.path in
    no_memory (λ t e. FilesReadCause path (g.D.Folder.works c.args.folder.now)
    (disk_at (g.D.Folder.known c.args.folder.now) path) r.skip_hash
    r.object_hash t r.options e) c.from_residual.result (λ t. tt) (search rules)

pub returns-clause-read : goal.returns-clause-read
returns-clause-read g c =
    let r = c.args.reading in
    let same : path_bytes c.as_path.result ≡ path_buf_bytes c.args.path = search rules in
    since_or_empty r.skip_hash r.object_hash r.options _ (g.D.Folder.known c.args.folder.now)
    (path_bytes c.as_path.result) (path_buf_bytes c.args.path) c.read_from.result same
    c.read_from.ensures.read

pub returns-clause-fault : goal.returns-clause-fault
returns-clause-fault g c =
    let r = c.args.reading in
    let same : path_bytes c.as_path.result ≡ path_buf_bytes c.args.path = search rules in
    some_fault r.skip_hash r.object_hash r.options (g.D.Folder.works c.args.folder.now) _
    (g.D.Folder.known c.args.folder.now) (path_bytes c.as_path.result) (path_buf_bytes c.args.path)
    c.read_from.result same c.read_from.ensures.fault
