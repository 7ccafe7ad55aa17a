use Rattle.std.proofs.Common.{◌≡◌, ◌++◌, [], ℕ, List, arith, length, map, subst}
use Rattle.std.proofs.lemmas.List.{append-nil, length-map}
use Rattle.std.specs.declared.cmp.Ordering.{Ordering}
use Rattle.entry_list.specs.Record.{Record}
use Rattle.base_search.specs.Prefix.{prefix_cmp}
use Rattle.entry_lookup.specs.Lookup.{insertion_of_path}
use Rattle.entry_lookup.proofs.RunsFound.{rising_prefixes, prefix_count}
use Rattle.entry_lookup.proofs.SearchAnswers.{halving_of}
use Rattle.entry_lookup.proofs.range.search_prefix.Goals as goal

pub returns : goal.returns
returns c =
    let prefix = c.args.prefix.now in
    let rs = c.args.entries.now in
    let cmp : Record → Ordering = λ r. prefix_cmp (prefix ++ []) r.path in
    let P : List ℕ → Type 0 = λ p. c.part.result.0 ≡ insertion_of_path p rs in
    record {
      in_range = omega (arith, c.part.ensures.in_range, length-map rs cmp);
      place = λ o. subst P (append-nil prefix) (prefix_count (prefix ++ []) rs c.part.result.0
          (c.part.ensures.parts (rising_prefixes (prefix ++ []) rs o)));
      count = halving_of (length (map cmp rs)) (length rs) c.part.result.1 (length-map rs cmp)
          (omega (arith, c.part.ensures.count))
          (λ some. c.part.ensures.at_least_one (omega (arith, some, length-map rs cmp)));
    }
