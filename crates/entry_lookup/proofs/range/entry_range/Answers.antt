use Rattle.entry_list.specs.Order.{path_cmp}
use Rattle.entry_list.specs.Record.{Record}
use Rattle.entry_lookup.specs.Range.{is_at}
use Rattle.entry_lookup.proofs.RunsFound.{rising_paths, found_map, at_is}
use Rattle.entry_lookup.proofs.range.entry_range.Goals as goal

pub returns : goal.returns
returns c =
    let path = c.args.path.now in
    let rs = c.args.entries.now in
    found_map (λ (r : Record). path_cmp r.path path) (is_at path) (at_is path) rs _ _ (rising_paths path rs)
    c.run_of.result c.run_of.ensures
