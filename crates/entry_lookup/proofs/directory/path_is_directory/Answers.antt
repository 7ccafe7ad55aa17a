use Rattle.std.proofs.Common.{◌≡◌, Bool, true, sym, subst}
use Rattle.std.specs.Bool.{OnTrue}
use Rattle.std.specs.List.{list_any}
use Rattle.entry_lookup.specs.Closest.{stands_in}
use Rattle.entry_lookup.proofs.Closest.{any_given}
use Rattle.entry_lookup.proofs.directory.path_is_directory.Goals as goal

pub returns-clause-found : goal.returns-clause-found
returns-clause-found c =
    let rs = c.args.entries.now in
    let P : Bool → Type 0 = λ b. OnTrue b (list_any (stands_in c.args.path.now) rs ≡ true) in
    subst P (sym c.is_some.ensures)
    (any_given (stands_in c.args.path.now) rs c.closest_place.result c.closest_place.ensures.found)
