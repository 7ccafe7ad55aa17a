use Rattle.entry_list.specs.Order.{path_cmp}
use Rattle.entry_list.specs.Record.{Record}
use Rattle.entry_lookup.specs.Range.{is_at}
use Rattle.entry_lookup.proofs.RunsFound.{at_is, range_map, rising_paths}
use Rattle.entry_edit.proofs.near_end.path_range.Goals as goal

pub returns-clause-exactly : goal.returns-clause-exactly
returns-clause-exactly c = λ o.
    let path = c.args.path.now in
    let rs = c.args.entries.now in
    range_map (λ (r : Record). path_cmp r.path path) (is_at path) (at_is path) rs c.run_near_end.result
    (c.run_near_end.ensures.exactly (rising_paths path rs o))
