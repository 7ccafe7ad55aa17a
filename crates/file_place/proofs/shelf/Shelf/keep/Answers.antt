use Rattle.std.proofs.Common.{rules, ◌≡◌, Some, string_bytes}
use Rattle.std.specs.Path.{path_bytes}
use Rattle.file_place.proofs.Worlds.{others_stay}
use Rattle.file_place.proofs.shelf.Shelf.keep.Goals as goal

pub returns-clause-others : goal.returns-clause-others
returns-clause-others c =
    let is : string_bytes c.in_ok-key.key ≡ path_bytes c.args.path = search rules in
    λ p apart. others_stay (string_bytes c.in_ok-key.key) c.args.self.now.files c.insert.new.self
    (Some c.args.kept) (search rules) p (λ e. apart (search rules))
