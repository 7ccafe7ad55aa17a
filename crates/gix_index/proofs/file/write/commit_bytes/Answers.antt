use Rattle.std.proofs.Common.{rules, ℕ, List, None, subst}
use Rattle.file_place.specs.Locks.{lock_of, target_of}
use Rattle.index_state.specs.State.{contents}
use Rattle.gix_index.specs.File.{state_of}
use Rattle.file_errors.specs.WriteFaults.{ReplaceCause}
use Rattle.gix_index.proofs.Puts.{put_since}
use Rattle.gix_index.proofs.file.write.commit_bytes.Goals as goal

pub returns-in-Err : goal.returns-in-Err
returns-in-Err g c =
    let works = g.D.Folder.works c.args.folder.now in
    let to = target_of c.args.lock.place in
    let v = contents (state_of c.args.index.now) in
    record {
      path = tt;
      version = tt;
      id = tt;
      writable = tt;
      put = tt;
      synced = tt;
      released = search rules;
      fault = subst (λ (l : List ℕ). ReplaceCause None works l to v c.args.options c.put_fault.result)
          c.release.ensures.path (c.put_fault.ensures None works to v c.args.options c.in-Err.ensures.fault);
      alone = search rules;
      works = search rules;
    }

pub returns-in-Err-Lock : goal.returns-in-Err-Lock
returns-in-Err-Lock g c = record {
  path = tt;
  version = tt;
  id = tt;
  writable = tt;
  put = tt;
  synced = tt;
  released = search rules;
  fault = c.fault_of.ensures None (g.D.Folder.works c.args.folder.now) (lock_of c.args.lock.place)
      (target_of c.args.lock.place) _ _ (search rules);
  alone = search rules;
  works = search rules;
}

pub returns-in-Err-Rename : goal.returns-in-Err-Rename
returns-in-Err-Rename g c = record {
  path = tt;
  version = tt;
  id = tt;
  writable = tt;
  put = tt;
  synced = tt;
  released = search rules;
  fault = c.fault_of-in-Err-Rename.ensures None (g.D.Folder.works c.args.folder.now) (lock_of c.args.lock.place)
      (target_of c.args.lock.place) _ _ (search rules);
  alone = search rules;
  works = search rules;
}

pub returns-in-Ok-commit : goal.returns-in-Ok-commit
returns-in-Ok-commit g c = record {
  path = search rules;
  version = search rules;
  id = search rules;
  writable = search rules;
  put = λ alone empty.
      put_since (g.D.Folder.known c.args.folder.now) (g.D.Folder.known c.commit.new.folder) c.args.lock.place
      (contents (state_of c.args.index.now)) c.args.options (g.D.Made.Write.contents c.args.lock.file)
      (g.D.Made.Write.contents c.in-Ok.filled.file) c.timestamp.result c.timestamp.ensures empty
      c.in-Ok.ensures.bytes (c.in-Ok-commit.ensures.committed alone);
  synced = search rules;
  released = tt;
  fault = tt;
  alone = search rules;
  works = search rules;
}
