use Rattle.std.proofs.Common.{rules, zero, refl, inl, inr}
use Rattle.std.proofs.lemmas.List.{nil_from_length}
use Rattle.std.specs.Path.{path_buf_bytes}
use Rattle.file_place.specs.Locks.{here}
use Rattle.file_place.proofs.lock.acquire.Goals as goal

pub returns-then-is_empty : goal.returns-then-is_empty
returns-then-is_empty g c = record {
  asked = tt;
  target = tt;
  lock = tt;
  made = tt;
  empty = tt;
  unmade = search rules;
  fault =
      c.of.ensures.fault (g.D.Folder.works c.args.folder.now) (g.D.Folder.known c.args.folder.now)
      (path_buf_bytes c.args.path) (inl (zero, here _ refl))
      (λ works. inr (inl (nil_from_length (path_buf_bytes c.args.path) (search rules))));
  alone = search rules;
  works = search rules;
}

pub returns : goal.returns
returns g c = record {
  asked = tt;
  target = tt;
  lock = tt;
  made = tt;
  empty = tt;
  unmade = search rules;
  fault =
      c.of-in-Err-2.ensures.fault (g.D.Folder.works c.args.folder.now) (g.D.Folder.known c.args.folder.now)
      (path_buf_bytes c.args.path) (inr (path_buf_bytes c.in_ok-target.target, search rules, search rules))
      (search rules);
  alone = search rules;
  works = search rules;
}
