use Rattle.std.proofs.Common.{◌++◌, ◌∷◌, []}
use Rattle.entry_list.specs.Record.{Record}
use Rattle.base_search.specs.Prefix.{prefix_cmp}
use Rattle.entry_lookup.specs.Closest.{is_below}
use Rattle.entry_lookup.proofs.RunsFound.{begins_is, range_map, rising_prefixes}
use Rattle.entry_edit.proofs.near_end.folder_range.Goals as goal

pub returns-clause-exactly : goal.returns-clause-exactly
returns-clause-exactly c = λ o.
    let folder = c.args.folder.now in
    let prefix = folder ++ 47 ∷ [] in
    let rs = c.args.entries.now in
    range_map (λ (r : Record). prefix_cmp prefix r.path) (is_below folder) (begins_is prefix) rs c.run_near_end.result
    (c.run_near_end.ensures.exactly (rising_prefixes prefix rs o))
