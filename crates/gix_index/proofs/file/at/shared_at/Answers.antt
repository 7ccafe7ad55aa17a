use Rattle.std.proofs.Common.{List, ℕ, false, subst, ◌∙◌}
use Rattle.std.proofs.lemmas.Result.{err_from_is_err_and}
use Rattle.std.specs.Path.{path_buf_bytes, path_bytes}
use Rattle.index_state.specs.State.{contents}
use Rattle.gix_index.specs.File.{checksum_of, state_of}
use Rattle.gix_index.specs.FileFaults.{FileReadCause}
use Rattle.gix_index.specs.Linked.{IsReadByItself, expecting}
use Rattle.gix_index.specs.Disk.{known_of, shared_path}
use Rattle.gix_index.proofs.FileFaults.{call_says, fault_there, file_read, read_there}
use Rattle.gix_index.proofs.file.at.shared_at.Goals as goal

pub returns-in-Err-clause-fault : goal.returns-in-Err-clause-fault
returns-in-Err-clause-fault g c =
    let r = c.args.reading in
    let options = expecting r.options c.args.id in
    let known = g.D.Folder.known c.args.folder.now (shared_path (path_bytes c.args.path) c.args.id) in
    let works = g.D.Folder.works c.args.folder.now in
    subst (λ (x : List ℕ). FileReadCause x works known r.skip_hash r.object_hash r.timestamp options c.of.result)
    c.in_ok-shared.ensures (call_says (path_buf_bytes c.in_ok-shared.shared) c.in-Err.e c.of.result c.of.ensures works
    known (rw (c.as_path.ensures ∙ c.in_ok-shared.ensures) at c.in-Err.ensures.fault) r.skip_hash r.object_hash
    r.timestamp options)

pub returns-clause-read : goal.returns-clause-read
returns-clause-read g c =
    let r = c.args.reading in
    let options = expecting r.options c.args.id in
    let world = g.D.Folder.known c.args.folder.now in
    let index = c.in_ok-read.read.index in (
      checksum_of index,
      rw c.into_parts.ensures.state (subst
          (λ (x : List ℕ). IsReadByItself (world x) r.skip_hash r.object_hash r.timestamp options (contents (state_of
          index))
          (checksum_of index)) (c.as_path.ensures ∙ c.in_ok-shared.ensures)
          (read_there r.skip_hash r.object_hash r.timestamp options (world (path_bytes c.as_path.result))
          (g.D.File.Source.stored c.in-Ok.file) (contents (state_of index)) (checksum_of index) c.in-Ok.ensures.opened
          (file_read _ (known_of (g.D.File.Source.stored c.in-Ok.file)) false _ c.in_ok-read.ensures.read))),
    )

pub returns-in_err-read-clause-fault : goal.returns-in_err-read-clause-fault
returns-in_err-read-clause-fault g c =
    let r = c.args.reading in
    let options = expecting r.options c.args.id in
    let world = g.D.Folder.known c.args.folder.now in
    let works = g.D.Folder.works c.args.folder.now in
    let e = c.in_err-read.field-0.0 in
    let p = err_from_is_err_and c.from_residual-in_err-read.result c.from_residual-in_err-read.ensures.1 in
    rw (p.1, p.2) (subst
    (λ (x : List ℕ). FileReadCause x works (world x) r.skip_hash r.object_hash r.timestamp options e)
    c.in_ok-shared.ensures (subst
    (λ (x : List ℕ). FileReadCause (path_buf_bytes c.in_ok-shared.shared) works (world x) r.skip_hash r.object_hash
    r.timestamp options e) c.as_path.ensures
    (fault_there r.skip_hash r.object_hash r.timestamp options (path_buf_bytes c.in_ok-shared.shared) works
    (g.D.File.Source.works c.in-Ok.file) (world (path_bytes c.as_path.result)) (g.D.File.Source.stored c.in-Ok.file) e
    c.in-Ok.ensures.works c.in-Ok.ensures.opened c.in_err-read.ensures.fault)))
