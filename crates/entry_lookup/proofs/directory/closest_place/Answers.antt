use Rattle.std.proofs.Common.{arith, ◌≡◌, ℕ, ◌<◌, length, true}
use Rattle.std.specs.List.{HoldsAt}
use Rattle.entry_lookup.specs.Closest.{stands_in}
use Rattle.entry_lookup.proofs.Closest.{below_in, closest_at, closest_below, itself_in}
use Rattle.entry_lookup.proofs.Lookup.{err_is, ok_is, path_at, path_gap, split_by_path}
use Rattle.entry_lookup.proofs.PresentCount.{none_there, there}
use Rattle.entry_lookup.proofs.Wanted.{if_some}
use Rattle.entry_lookup.proofs.directory.closest_place.Goals as goal

pub returns-in-Ok-clause-found : goal.returns-in-Ok-clause-found
returns-in-Ok-clause-found c =
    let rs = c.args.entries.now in
    if_some _ (λ (i : ℕ). (i < length rs) × HoldsAt (λ r. stands_in c.args.directory.now r ≡ true) rs i)
    (itself_in c.args.directory.now rs) c.first_match.result c.first_match.ensures.found

pub returns-in-Ok-clause-answer : goal.returns-in-Ok-clause-answer
returns-in-Ok-clause-answer c = λ o.
    let rs = c.args.entries.now in
    let directory = c.args.directory.now in
    closest_at directory rs c.first_match.result (there directory rs c.in-Ok.low (ok_is c.search.result.0 c.in-Ok.low _
    c.in-Ok.is (path_at directory rs c.search.result.0 c.search.ensures.found)))
    (c.first_match.ensures.answer o (ok_is c.search.result.0 c.in-Ok.low _ c.in-Ok.is (c.search.ensures.first
    (split_by_path directory rs o))) (λ none k d l u. absurd (omega (arith, c.len.ensures))))

pub returns-in-Err-clause-found : goal.returns-in-Err-clause-found
returns-in-Err-clause-found c =
    let rs = c.args.entries.now in
    if_some _ (λ (i : ℕ). (i < length rs) × HoldsAt (λ r. stands_in c.args.directory.now r ≡ true) rs i)
    (below_in c.args.directory.now rs) c.first_below.result c.first_below.ensures.found

pub returns-in-Err-clause-answer : goal.returns-in-Err-clause-answer
returns-in-Err-clause-answer c = λ o.
    let rs = c.args.entries.now in
    let directory = c.args.directory.now in
    closest_below directory rs c.first_below.result (none_there directory rs _ (err_is c.search.result.0 _ _ c.in-Err.is
    (path_gap directory rs c.search.result.0 c.search.ensures.in_range c.search.ensures.absent o)))
    (c.first_below.ensures.answer o)
