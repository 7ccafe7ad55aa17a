use Rattle.std.proofs.Common.{rules, ℕ, List, ◌++◌, Some, subst, ◌∙◌}
use Rattle.std.specs.Prelude.{codes}
use Rattle.std.specs.Path.{path_bytes, path_buf_bytes}
use Rattle.index_state.specs.State.{contents}
use Rattle.gix_index.specs.File.{path_of, state_of}
use Rattle.file_errors.specs.WriteFaults.{ReplaceCause}
use Rattle.gix_index.proofs.Puts.{put_over}
use Rattle.gix_index.proofs.file.File.replace.Goals as goal

pub returns-in-Err-clause-fault : goal.returns-in-Err-clause-fault
returns-in-Err-clause-fault g c =
    let path = path_of c.args.self.now in
    c.fault_of.ensures (Some (g.D.Folder.known c.args.folder.now (path ++ codes ".lock"))) (g.D.Folder.works c.args.folder.now)
    (path ++ codes ".lock") path (contents (state_of c.args.self.now)) c.args.options (search rules, search rules)

pub returns-in-Err-fill-clause-fault : goal.returns-in-Err-fill-clause-fault
returns-in-Err-fill-clause-fault g c =
    let works = g.D.Folder.works c.args.folder.now in
    let path = path_of c.args.self.now in
    let before = Some (g.D.Folder.known c.args.folder.now (path ++ codes ".lock")) in
    let v = contents (state_of c.args.self.now) in
    subst (λ (l : List ℕ). ReplaceCause before works l path v c.args.options c.put_fault.result) c.in_ok-lock.ensures
    (c.put_fault.ensures before works path v c.args.options c.in-Err-fill.ensures.fault)

pub returns-clause-fault : goal.returns-clause-fault
returns-clause-fault g c =
    let path = path_of c.args.self.now in
    c.fault_of-in-Err-put.ensures (Some (g.D.Folder.known c.args.folder.now (path ++ codes ".lock"))) (g.D.Folder.works c.args.folder.now)
    (path ++ codes ".lock") path (contents (state_of c.args.self.now)) c.args.options (search rules, search rules)

pub returns-in-Ok-put-clause-put : goal.returns-in-Ok-put-clause-put
returns-in-Ok-put-clause-put g c = λ alone.
    put_over (g.D.Folder.guards c.args.folder.now) (g.D.Folder.known c.args.folder.now)
    (g.D.Folder.known c.make.new.self) (g.D.Folder.known c.put.new.self) (path_of c.args.self.now)
    (path_buf_bytes c.in_ok-lock.lock) (path_bytes c.as_path.result) (path_bytes c.as_path-2.result)
    (path_bytes c.as_path-3.result) (contents (state_of c.args.self.now)) c.args.options
    (g.D.Made.Write.contents c.in-Ok.file) (g.D.Made.Write.contents c.in-Ok-fill.filled.file)
    (g.D.Made.Made.changed c.in-Ok-fill.filled.file) c.in_ok-lock.ensures c.as_path.ensures c.as_path-2.ensures
    c.as_path-3.ensures (c.in-Ok.ensures.empty alone) c.in-Ok-fill.ensures.bytes c.in-Ok.ensures.made
    (c.in-Ok-put.ensures.moved (c.in-Ok.ensures.alone ∙ alone))
