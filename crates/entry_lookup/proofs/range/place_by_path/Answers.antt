use Rattle.std.proofs.Common.{arith, ℕ, ◌+◌, ◌<◌, length, ◌∙◌}
use Rattle.std.specs.List.{HoldsAt}
use Rattle.entry_lookup.specs.declared.range.Wanted.TheVariants.{OurSide}
use Rattle.entry_lookup.specs.Range.{HasStageOf}
use Rattle.entry_lookup.proofs.Lookup.{err_is, ok_is, ordered_by_path, split_by_path}
use Rattle.entry_lookup.proofs.Wanted.{gap_wanted, if_some, ours_has, ours_place, two_enough}
use Rattle.entry_lookup.proofs.range.place_by_path.Goals as goal

pub returns-in-Ok-clause-found : goal.returns-in-Ok-clause-found
returns-in-Ok-clause-found c =
    let rs = c.args.entries.now in
    if_some _ (λ (i : ℕ). (i < length rs) × HoldsAt (HasStageOf c.args.path.now) rs i)
    (λ i h. (h.0, λ d. ours_has c.args.path.now _ (h.1 d))) c.first_match.result c.first_match.ensures.found

pub returns-in-Ok-clause-answer : goal.returns-in-Ok-clause-answer
returns-in-Ok-clause-answer c = λ o.
    let rs = c.args.entries.now in
    let path = c.args.path.now in
    c.first_match.ensures.answer (ordered_by_path rs o) (ok_is c.search.result.0 c.in-Ok.low _ c.in-Ok.is
    (c.search.ensures.first (split_by_path path rs (ordered_by_path rs o))))
    (two_enough path rs c.in-Ok.low (c.in-Ok.low + c.min.result) o (ok_is c.search.result.0 c.in-Ok.low _ c.in-Ok.is
    c.search.ensures.found) (omega (arith, c.min.ensures, c.len.ensures)))
    ∙ ours_place path rs o

pub returns-in-Err-clause-answer : goal.returns-in-Err-clause-answer
returns-in-Err-clause-answer c = λ o.
    let rs = c.args.entries.now in
    let path = c.args.path.now in
    gap_wanted path OurSide rs _ (err_is c.search.result.0 _ _ c.in-Err.is
    (c.search.ensures.absent (split_by_path path rs (ordered_by_path rs o))))
    ∙ ours_place path rs o
