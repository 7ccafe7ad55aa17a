use Rattle.std.proofs.Common.{arith, get_or, ◌+◌, ◌<◌, ◌≡◌, ◌∙◌, ap, length}
use Rattle.entry_list.specs.Record.{Record}
use Rattle.entry_lookup.specs.NameSteps.{named_at, named_from, path_names}
use Rattle.base_search.proofs.Places.{some_of}
use Rattle.entry_lookup.proofs.TableMade.{path_keys_length}
use Rattle.entry_lookup.proofs.Visits.{visit_of}
use Rattle.entry_lookup.proofs.walk.visit_at.Goals as goal

pub path-requires : goal.path-requires
path-requires c =
    let rs = c.args.entries.now in
    let told : c.args.turn < length (named_from path_names 0 rs) = rw c.in-None.is at c.requires in
    omega (arith, path_keys_length 0 rs)

pub returns-in-None : goal.returns-in-None
returns-in-None c = λ d.
    let rs = c.args.entries.now in
    let told : c.args.turn < length (named_from path_names 0 rs) = rw c.in-None.is at c.requires in
    let within : c.args.turn < length rs = omega (arith, path_keys_length 0 rs) in
    let z : Record = some_of rs c.args.turn within in
    let level : 0 + c.args.turn ≡ c.args.turn = omega arith in
    let visit : get_or (named_from path_names 0 rs) c.args.turn d
    ≡ named_at c.args.turn (get_or rs c.args.turn z).path = rw level at (visit_of 0 rs c.args.turn z d within) in
    rw c.in-None.is (visit ∙ ap (named_at c.args.turn) (c.path.ensures z))
