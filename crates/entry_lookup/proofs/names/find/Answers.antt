use Rattle.std.proofs.Common.{length, map, refl}
use Rattle.std.specs.declared.cmp.Ordering.{Ordering}
use Rattle.std.specs.declared.cmp.Ordering.TheVariants.{Equal}
use Rattle.entry_lookup.specs.Folded.{folded}
use Rattle.entry_lookup.specs.NameSteps.{NamedValue, name_order, named_value}
use Rattle.base_search.proofs.Parting.{bracket_whole}
use Rattle.entry_lookup.proofs.TableFound.{rising_table, find_some, find_gap, keys_length}
use Rattle.entry_lookup.proofs.Lookup.{ok_is}
use Rattle.entry_lookup.proofs.names.find.Goals as goal

pub returns-in-Ok-clause-answer : goal.returns-in-Ok-clause-answer
returns-in-Ok-clause-answer c = λ test rs table.
    let names = c.args.names.now in
    let cmp : NamedValue → Ordering =
    λ k. name_order c.args.outer (folded c.args.ignore_case k.name) (folded c.args.ignore_case c.args.name.now) in
    let first = c.search_within-found.ensures.first
    (rising_table c.args.outer c.args.ignore_case test rs _ table c.args.name.now)
    (bracket_whole (map cmp (map named_value names)) (length names) (keys_length cmp names)) in
    let here = ok_is c.search_within-found.result.0 c.in-Ok.at _ c.in-Ok.is c.search_within-found.ensures.found in
    find_some c.args.outer c.args.ignore_case test rs names table c.args.name.now c.in-Ok.at
    (ok_is c.search_within-found.result.0 c.in-Ok.at _ c.in-Ok.is first) Equal here.here _ here.in_range refl

pub returns-in-Err-clause-answer : goal.returns-in-Err-clause-answer
returns-in-Err-clause-answer c = λ test rs table.
    let names = c.args.names.now in
    let cmp : NamedValue → Ordering =
    λ k. name_order c.args.outer (folded c.args.ignore_case k.name) (folded c.args.ignore_case c.args.name.now) in
    find_gap c.args.outer c.args.ignore_case test rs names table c.args.name.now c.search_within-found.result.0
    c.search_within-found.ensures.in_range
    (c.search_within-found.ensures.absent (rising_table c.args.outer c.args.ignore_case test rs _ table c.args.name.now)
    (bracket_whole (map cmp (map named_value names)) (length names) (keys_length cmp names))) _ c.in-Err.is
