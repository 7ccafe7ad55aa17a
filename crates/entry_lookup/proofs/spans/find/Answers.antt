use Rattle.std.proofs.Common.{arith, map, length}
use Rattle.std.proofs.lemmas.List.{length-map}
use Rattle.entry_lookup.specs.NameSteps.{outer_cmp}
use Rattle.entry_lookup.specs.WalkSteps.{SpanValue, span_value}
use Rattle.entry_lookup.proofs.TableSearch.{found_name, absent_name}
use Rattle.entry_lookup.proofs.spans.find.Goals as goal

pub returns-clause-found : goal.returns-clause-found
returns-clause-found c =
    found_name c.args.directory.now c.args.spans.now c.search_within.result.0 c.search_within.ensures.found

pub returns-clause-absent : goal.returns-clause-absent
returns-clause-absent c = λ rs dirs.
    let items = c.args.spans.now in
    let f : SpanValue → _ = λ x. outer_cmp x.name c.args.directory.now in
    absent_name rs c.args.directory.now (map span_value items) (length items) c.search_within.result.0 dirs
    (omega (arith, length-map (map span_value items) f, length-map items span_value)) c.search_within.ensures.absent
