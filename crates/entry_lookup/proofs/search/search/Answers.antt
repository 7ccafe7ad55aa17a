use Rattle.std.proofs.Common.{arith, length, map, sym, ◌-◌, ◌∙◌}
use Rattle.std.proofs.lemmas.List.{length-map}
use Rattle.entry_lookup.specs.SearchSteps.{asked_cmp}
use Rattle.entry_lookup.specs.Searches.{IsHalving}
use Rattle.base_search.proofs.Parting.{bracket_whole}
use Rattle.entry_lookup.proofs.SearchAnswers.{asked_of, halving_of}
use Rattle.entry_lookup.proofs.search.search.Goals as goal

pub returns : goal.returns
returns c =
    let cmp = asked_cmp c.args.path.now c.args.stage in
    let rs = c.args.entries.now in
    let found = c.search_within in
    asked_of (IsHalving (length rs)) c.args.path.now rs found.result c.args.stage 0 c.len.result
    (bracket_whole (map cmp rs) c.len.result (c.len.ensures ∙ sym (length-map rs cmp))) (omega (arith, c.len.ensures))
    found.ensures.found found.ensures.first found.ensures.in_range found.ensures.absent
    (halving_of (c.len.result - 0) (length rs) found.result.1 (omega (arith, c.len.ensures)) found.ensures.count
    (λ some. found.ensures.at_least_one (omega (arith, some, c.len.ensures))))
