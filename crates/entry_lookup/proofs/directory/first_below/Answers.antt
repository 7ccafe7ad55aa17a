use Rattle.std.proofs.Common.{◌≡◌, ◌<◌, ◌++◌, ◌∷◌, [], ℕ, Option, length, map, true, sym, subst, ◌∙◌}
use Rattle.std.specs.List.{HoldsAt}
use Rattle.std.specs.Prelude.{IfSome}
use Rattle.std.specs.declared.cmp.Ordering.{Ordering}
use Rattle.entry_list.specs.Record.{Record}
use Rattle.std.proofs.lemmas.List.{length-map}
use Rattle.entry_lookup.specs.Closest.{is_below}
use Rattle.base_search.specs.Prefix.{prefix_cmp}
use Rattle.entry_lookup.proofs.Closest.{below_first, below_found}
use Rattle.base_search.proofs.Parting.{bracket_whole}
use Rattle.base_search.proofs.OrderedAnswers.{equal_at, gap_at, rising_of}
use Rattle.entry_lookup.proofs.RunsFound.{split_prefixes}
use Rattle.entry_lookup.proofs.directory.first_below.Goals as goal

pub returns-clause-found : goal.returns-clause-found
returns-clause-found c =
    let directory = c.args.directory.now in
    let rs = c.args.entries.now in
    let cmp : Record → Ordering = λ r. prefix_cmp (directory ++ 47 ∷ []) r.path in
    let P : Option ℕ → Type 0 =
    λ r. IfSome r (λ i. (i < length rs) × HoldsAt (λ r. is_below directory r ≡ true) rs i) in
    subst P (sym c.ok.ensures.value) (below_found directory rs c.search_within.result.0
    (equal_at cmp rs c.search_within.result.0 c.search_within.ensures.found))

pub returns-clause-answer : goal.returns-clause-answer
returns-clause-answer c = λ o.
    let directory = c.args.directory.now in
    let rs = c.args.entries.now in
    let cmp : Record → Ordering = λ r. prefix_cmp (directory ++ 47 ∷ []) r.path in
    let split = split_prefixes (directory ++ 47 ∷ []) rs o in
    let bracket = bracket_whole (map cmp rs) c.len.result (c.len.ensures ∙ sym (length-map rs cmp)) in
    c.ok.ensures.value ∙ below_first directory rs c.search_within.result.0
    (equal_at cmp rs c.search_within.result.0 c.search_within.ensures.found)
    (c.search_within.ensures.first (rising_of cmp rs split) bracket)
    (gap_at cmp rs 0 c.len.result c.search_within.result.0 bracket c.search_within.ensures.absent split)
