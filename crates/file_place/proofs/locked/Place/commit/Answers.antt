use Rattle.std.proofs.Common.{rules, subst}
use Rattle.file_place.proofs.Moved.{committed_so}
use Rattle.file_place.proofs.locked.Place.commit.Goals as goal

pub returns-in-Ok : goal.returns-in-Ok
returns-in-Ok g c = record {
  asked = search rules;
  committed = λ alone. committed_so _ _ c.args.self _ _ _ _ _ c.args.time c.args.self.beside
      (c.in-Ok.ensures.moved alone) c.as_path.ensures c.as_path-2.ensures c.finish.ensures.contents
      c.in_default.ensures.given;
  synced = λ is. subst (g.D.Folder.durable c.put.new.self) c.as_path-2.ensures
      (c.in-Ok.ensures.durable (c.in_default.ensures.synced is));
  released = tt;
  fault = tt;
  alone = search rules;
  works = search rules;
}
