use Rattle.std.proofs.Common.{rules, ◌≡◌, ◌++◌, Option, None, inr, subst}
use Rattle.std.specs.Path.{path_bytes}
use Rattle.std.specs.Prelude.{codes}
use Rattle.file_place.specs.World.{MayBeMissing}
use Rattle.file_place.proofs.Worlds.{by_known}
use Rattle.file_place.specs.Shelf.{kept_at, known_as}
use Rattle.file_place.specs.declared.shelf.Kept.{Kept}
use Rattle.file_place.proofs.shelf.ShelfFolder.open.Goals as goal

pub returns-in_default-clause-fault : goal.returns-in_default-clause-fault
returns-in_default-clause-fault c =
    let kept = kept_at c.args.self.now in
    let path = path_bytes c.args.path in
    let gone : None ≡ kept path = search rules in
    λ works. inr (
      search rules,
      by_known MayBeMissing c.args.self.now.is_alone (kept (path ++ codes ".lock")) (kept path)
          tt (subst (λ (o : Option Kept). MayBeMissing (known_as o)) gone tt),
    )
