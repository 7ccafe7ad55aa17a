use Rattle.std.proofs.Common.{rules, ◌≡◌, take, inl}
use Rattle.std.specs.Path.{path_buf_bytes, path_bytes}
use Rattle.tool_defaults.specs.Faults.{first_bytes}
use Rattle.tool_defaults.proofs.Begins.{begins_with}
use Rattle.tool_defaults.proofs.Faults.{index_fault}
use Rattle.tool_defaults.proofs.kind.open_signed.Goals as goal

pub returns-in-Err-clause-fault : goal.returns-in-Err-clause-fault
returns-in-Err-clause-fault g c =
    index_fault (g.D.Folder.works c.args.folder.now) (g.D.Folder.known c.args.folder.now)
    (path_buf_bytes c.args.path.now) (path_buf_bytes c.in_ok-clone-in-Err.field-0) (path_bytes c.as_path.result) c.in-Err.e
    _ (search rules) c.as_path.ensures c.in-Err.ensures.fault c.of.ensures

pub returns-in-Err-first_bytes-clause-fault : goal.returns-in-Err-first_bytes-clause-fault
returns-in-Err-first_bytes-clause-fault g c =
    index_fault (g.D.Folder.works c.args.folder.now) (g.D.Folder.known c.args.folder.now)
    (path_buf_bytes c.args.path.now) (path_buf_bytes c.in_ok-clone-in-Err-first_bytes.field-0)
    (path_bytes c.as_path.result) c.in-Err-first_bytes.e _ (search rules) c.as_path.ensures
    (λ w. inl (inl (c.in-Err-first_bytes.ensures.fault (rw c.in-Ok-Some.field-0-is at (c.in-Ok-Some.ensures.works w)))))
    c.of-in-Err-first_bytes.ensures

pub returns-then-not-is_signed-clause-fault : goal.returns-then-not-is_signed-clause-fault
returns-then-not-is_signed-clause-fault g c =
    let start : first_bytes c.in_ok-start.start ≡ take 4 c.in-Ok.first.items = search rules in
    let same : path_buf_bytes c.in_ok-path.path ≡ path_buf_bytes c.args.path.now = search rules in (
      same,
      begins_with (g.D.Folder.known c.args.folder.now (path_buf_bytes c.args.path.now))
          (g.D.File.Source.stored c.in-Ok-Some.file) (g.D.File.Source.remaining c.in-Ok-Some.file) c.in-Ok.first.items _
          (search rules) (rw c.in-Ok-Some.field-0-is at c.in-Ok-Some.ensures.start) c.in-Ok.ensures.first start,
      search (rules, start),
      search (rules, start),
    )
