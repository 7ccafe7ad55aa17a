use Rattle.std.proofs.Common.{true, refl}
use Rattle.std.specs.Ordering.{is_lt}
use Rattle.entry_list.specs.Order.{path_cmp}
use Rattle.entry_list.specs.Record.{Record}
use Rattle.entry_lookup.proofs.RunsFound.{rising_paths, within_map}
use Rattle.entry_edit.proofs.near_end.path_start.Goals as goal

pub returns-clause-before : goal.returns-clause-before
returns-clause-before c = λ o.
    let path = c.args.path.now in
    let rs = c.args.entries.now in
    within_map is_lt (λ (r : Record). path_cmp r.path path) (λ r. is_lt (path_cmp r.path path)) true rs 0
    c.first_near_end.result (λ r. refl) (c.first_near_end.ensures.parts (rising_paths path rs o)).before
