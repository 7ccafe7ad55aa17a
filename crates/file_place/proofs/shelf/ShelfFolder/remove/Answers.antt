use Rattle.std.proofs.Common.{rules}
use Rattle.std.specs.Path.{path_bytes}
use Rattle.file_place.specs.World.{Removes}
use Rattle.file_place.proofs.Worlds.{removed, taken_out, when_alone}
use Rattle.file_place.specs.Shelf.{kept_in, world_by}
use Rattle.file_place.proofs.shelf.ShelfFolder.remove.Goals as goal

pub returns : goal.returns
returns c = record {
  removed = λ alone. when_alone (λ b. Removes (world_by b (kept_in c.args.self.now.files))
      (world_by b (kept_in c.remove.new.self)) (path_bytes c.args.path)) c.args.self.now.is_alone
      (removed (kept_in c.args.self.now.files) (kept_in c.remove.new.self) (path_bytes c.args.path)
      (taken_out c.as_str.result.now (path_bytes c.args.path) c.args.self.now.files c.remove.new.self c.as_str.ensures
      c.remove.ensures.updates)) alone;
  unmoved = tt;
  succeeds = search rules;
  alone = search rules;
  works = search rules;
}
