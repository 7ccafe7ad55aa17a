use Rattle.std.proofs.Common.{◌++◌, [], arith}
use Rattle.std.proofs.lemmas.Bool.Decides.{nat_tests}
use Rattle.entry_list.specs.Record.{Record}
use Rattle.base_search.specs.Prefix.{prefix_cmp}
use Rattle.entry_lookup.specs.Range.{begins_with}
use Rattle.entry_lookup.proofs.RunsFound.{rising_prefixes, range_map, begins_is, prefix_range}
use Rattle.entry_lookup.proofs.range.prefixed_entries_range.Goals as goal

pub returns-clause-exactly : goal.returns-clause-exactly
returns-clause-exactly c = λ o.
    let prefix = c.args.prefix.now in
    let rs = c.args.entries.now in
    let found = range_map (λ (r : Record). prefix_cmp (prefix ++ []) r.path) (begins_with (prefix ++ [])) (begins_is
    (prefix ++ [])) rs c.run_of.result (c.run_of.ensures.exactly (rising_prefixes (prefix ++ []) rs o)) in
    let e = c.is_empty.ensures in let f = c.if-is_empty.false in
    prefix_range prefix rs c.run_of.result (λ z. grind (arith, nat_tests, e, f, z)) found
