use Rattle.std.proofs.Common.{ap, subst, ◌∙◌}
use Rattle.std.specs.Prelude.{Bool}
use Rattle.std.proofs.lemmas.Result.{err_from_is_err_and}
use Rattle.gix_index.specs.Disk.{disk_at}
use Rattle.gix_index.specs.Disk.World.{World}
use Rattle.gix_index.specs.File.{state_of}
use Rattle.gix_index.specs.State.{contents}
use Rattle.gix_index.specs.StateType.{State}
use Rattle.gix_index.specs.declared.file.File.{File}
use Rattle.tool_errors.specs.Storing.{unlocked, unread}
use Rattle.tool_errors.proofs.Replaced.{replaced_on_ok, unwritten_on_err}
use Rattle.tool_errors.proofs.Restored.{restored_so, restores, restores_unmade}
use Rattle.tool_edit.specs.Rewriting.{chosen, chosen_options}
use Rattle.tool_edit.specs.Trees.{FailsToTree, IsMadeInFile}
use Rattle.tool_edit.specs.declared.rewrite.Form.TheVariants.{AsRead}
use Rattle.tool_edit.proofs.rewrite_trees.rewrite_trees.Goals as goal

pub returns-in_err-lock : goal.returns-in_err-lock
returns-in_err-lock g c =
    let p = err_from_is_err_and c.from_residual.result c.from_residual.ensures.1 in
    rw (p.1, p.2) (record {
      written = tt;
      restored = λ alone. restores_unmade (g.D.Folder.works c.args.folder.now) (g.D.Folder.known c.args.folder.now)
          (g.D.Folder.known c.lock_at.new.folder) c.args.to.now c.in_err-lock.ensures.unmade;
      fault = unlocked c.in_err-lock.ensures.fault;
    })

pub returns-in-Ok : goal.returns-in-Ok
returns-in-Ok g c =
    let kind = c.args.kind in
    let path = c.args.path.now in
    record {
      written = replaced_on_ok (g.D.Folder.guards c.args.folder.now) (g.D.Folder.known c.args.folder.now)
          (g.D.Folder.known c.lock_at.new.folder) c.args.to.now c.in_ok-lock.lock.place c.in_ok-lock.ensures.locked
          (g.D.Folder.alone c.lock_at.new.folder) (g.D.Folder.alone c.args.folder.now)
          (g.D.Folder.known c.commit_at.new.folder) c.in-Ok.index c.choice-options.result
          (g.D.Made.Write.contents c.in_ok-lock.lock.file)
          (λ (w : World) (i : File). IsMadeInFile c.args.counts (disk_at w path) kind (contents (state_of i)))
          (chosen_options AsRead) c.lock_at.ensures.manner.alone c.in_ok-lock.ensures.empty c.in-Ok.ensures.read
          (c.choice-options.ensures
          ∙ ap (chosen AsRead) (c.version.ensures ∙ ap (λ (s : State). (contents s).version) c.deref.ensures))
          c.commit_at.result c.commit_at.ensures.written c.commit_at.ensures.put;
      restored = restored_so (g.D.Folder.guards c.args.folder.now) (g.D.Folder.works c.args.folder.now)
          (g.D.Folder.known c.args.folder.now) (g.D.Folder.known c.lock_at.new.folder)
          (g.D.Folder.known c.commit_at.new.folder) c.args.to.now c.in_ok-lock.lock.place c.in_ok-lock.ensures.locked
          c.in_ok-lock.ensures.beside (g.D.Folder.alone c.lock_at.new.folder) (g.D.Folder.works c.lock_at.new.folder)
          (g.D.Folder.alone c.args.folder.now) c.commit_at.result c.lock_at.ensures.manner.alone c.lock_at.ensures.manner.works
          c.commit_at.ensures.released;
      fault = unwritten_on_err (g.D.Folder.guards c.args.folder.now) (g.D.Folder.known c.args.folder.now)
          (g.D.Folder.known c.lock_at.new.folder) c.args.to.now c.in_ok-lock.lock.place c.in_ok-lock.ensures.locked
          (g.D.Folder.works c.lock_at.new.folder) (g.D.Folder.works c.args.folder.now)
          (λ (w : World). FailsToTree (g.D.Folder.works c.args.folder.now) w c.args.kind c.args.path.now) (contents (state_of c.in-Ok.index)) c.choice-options.result
          c.commit_at.result c.lock_at.ensures.manner.works c.commit_at.ensures.fault;
    }

pub returns-in-Err : goal.returns-in-Err
returns-in-Err g c = record {
  written = tt;
  restored = λ alone. restores (g.D.Folder.guards c.args.folder.now) (g.D.Folder.works c.args.folder.now)
      (g.D.Folder.known c.args.folder.now) (g.D.Folder.known c.lock_at.new.folder)
      (g.D.Folder.known c.release.new.folder) c.args.to.now c.in_ok-lock.lock.place c.in_ok-lock.ensures.locked
      c.in_ok-lock.ensures.beside
      (rw c.lock_at.ensures.manner.works at (c.release.ensures.released (c.lock_at.ensures.manner.alone ∙ alone)));
  fault = unread c.in_ok-lock.lock.place (g.D.Folder.known c.lock_at.new.folder) c.in_ok-lock.ensures.locked
      (subst (λ (b : Bool). FailsToTree b (g.D.Folder.known c.lock_at.new.folder) c.args.kind c.args.path.now
      c.in-Err.failure) c.lock_at.ensures.manner.works c.in-Err.ensures.fault);
}
