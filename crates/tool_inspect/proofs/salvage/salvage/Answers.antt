use Rattle.std.proofs.Common.{ap, refl, subst, sym, ◌≡◌, ◌∙◌}
use Rattle.std.specs.Prelude.{Bool}
use Rattle.std.proofs.lemmas.Result.{err_from_is_err_and}
use Rattle.gix_index.specs.Contents.{Contents}
use Rattle.gix_index.specs.Disk.World.{World}
use Rattle.gix_index.specs.Edits.{with_time, with_version}
use Rattle.gix_index.specs.State.{contents}
use Rattle.gix_index.specs.File.{state_of}
use Rattle.gix_index.specs.declared.file.File.{File}
use Rattle.tool_errors.specs.Options.{options_as_read}
use Rattle.tool_errors.specs.Reading.{FailsReading, HeadedBytesCause}
use Rattle.tool_errors.specs.Storing.{unlocked, unread, unwritten}
use Rattle.tool_errors.proofs.Replaced.{replaced}
use Rattle.tool_errors.proofs.Restored.{restores, restores_unmade}
use Rattle.tool_inspect.specs.Salvaging.{IsSalvaged}
use Rattle.tool_inspect.proofs.salvage.salvage.Goals as goal

pub returns-in_err-lock : goal.returns-in_err-lock
returns-in_err-lock g c =
    let p = err_from_is_err_and c.from_residual.result c.from_residual.ensures.1 in
    rw (p.1, p.2) (record {
      written = tt;
      restored = λ alone. restores_unmade (g.D.Folder.works c.args.folder.now) (g.D.Folder.known c.args.folder.now)
          (g.D.Folder.known c.lock_at.new.folder) c.args.to.now c.in_err-lock.ensures.unmade;
      fault = unlocked c.in_err-lock.ensures.fault;
    })

pub returns-in-Err : goal.returns-in-Err
returns-in-Err g c = record {
  written = tt;
  restored = λ alone. restores (g.D.Folder.guards c.args.folder.now) (g.D.Folder.works c.args.folder.now)
      (g.D.Folder.known c.args.folder.now) (g.D.Folder.known c.lock_at.new.folder)
      (g.D.Folder.known c.release.new.folder) c.args.to.now c.in_ok-lock.lock.place c.in_ok-lock.ensures.locked
      c.in_ok-lock.ensures.beside
      (rw c.lock_at.ensures.manner.works at (c.release.ensures.released (c.lock_at.ensures.manner.alone ∙ alone)));
  fault = unread c.in_ok-lock.lock.place (g.D.Folder.known c.lock_at.new.folder) c.in_ok-lock.ensures.locked
      (subst (λ (b : Bool). FailsReading (HeadedBytesCause b (g.D.Folder.known c.lock_at.new.folder) c.args.kind
      c.args.path.now) c.args.path.now c.in-Err.failure) c.lock_at.ensures.manner.works c.in-Err.ensures.fault);
}

pub returns-in_err-commit_at : goal.returns-in_err-commit_at
returns-in_err-commit_at g c =
    let p = err_from_is_err_and c.from_residual-in_err-commit_at.result
    c.from_residual-in_err-commit_at.ensures.1 in
    rw (p.1, p.2) (record {
      written = tt;
      restored = λ alone.
          restores (g.D.Folder.guards c.args.folder.now) (g.D.Folder.works c.args.folder.now)
          (g.D.Folder.known c.args.folder.now) (g.D.Folder.known c.lock_at.new.folder)
          (g.D.Folder.known c.commit_at.new.folder) c.args.to.now c.in_ok-lock.lock.place c.in_ok-lock.ensures.locked
          c.in_ok-lock.ensures.beside (rw c.lock_at.ensures.manner.works at
          (c.in_err-commit_at.ensures.released (c.lock_at.ensures.manner.alone ∙ alone)));
      fault = unwritten c.in_ok-lock.lock.place (g.D.Folder.known c.lock_at.new.folder) c.in_ok-lock.ensures.locked
          (contents (state_of c.from_state-index.result)) c.kept_options_as_read-options.result
          (rw c.lock_at.ensures.manner.works at c.in_err-commit_at.ensures.fault);
    })

pub returns : goal.returns
returns g c =
    let saved = c.in-Ok.ensures.saved in
    let version = c.in-Ok.found.0.version in
    let holds : contents (state_of c.from_state-index.result)
    ≡ with_version (with_time (contents c.in-Ok.found.0.state) c.in-Ok.found.1) version =
    ap contents c.from_state-index.ensures.state ∙ c.set_version.ensures.set
    ∙ ap (λ (v : Contents). with_version v version) c.set_timestamp.ensures.set in
    record {
      written = replaced (g.D.Folder.guards c.args.folder.now) (g.D.Folder.known c.args.folder.now)
          (g.D.Folder.known c.lock_at.new.folder) c.args.to.now c.in_ok-lock.lock.place c.in_ok-lock.ensures.locked
          (g.D.Folder.alone c.lock_at.new.folder) (g.D.Folder.alone c.args.folder.now)
          (g.D.Folder.known c.commit_at.new.folder) c.from_state-index.result c.kept_options_as_read-options.result
          (g.D.Made.Write.contents c.in_ok-lock.lock.file)
          (λ (w : World) (i : File). IsSalvaged c.args.all w c.args.kind c.args.path.now _ i)
          (λ (i : File). options_as_read (contents (state_of i)).version)
          c.lock_at.ensures.manner.alone c.in_ok-lock.ensures.empty
          (record {
            saved = c.in-Ok.found.0;
            is_saved = record {
              bytes = saved.0;
              time = c.in-Ok.found.1;
              held = saved.1;
              since = c.in-Ok.ensures.since;
              of_bytes = rw c.keep_of.ensures at saved.2;
              holds = holds;
            };
            reports = record {
              names = refl;
              declared = refl;
              read = refl;
              kept = c.kept.ensures;
              first = refl;
              fault = refl;
              shared = refl;
            };
          }) (c.kept_options_as_read-options.ensures ∙ ap (λ (v : Contents). options_as_read v.version) (sym holds)) c.in_ok-commit_at.ensures.written c.in_ok-commit_at.ensures.put;
      restored = tt;
      fault = tt;
    }
