use Rattle.std.proofs.Common.{◌≡◌, ◌<◌, ◌++◌, ◌∷◌, [], ℕ, Option, length, map, true, sym, subst, ◌∙◌}
use Rattle.std.specs.List.{HoldsAt}
use Rattle.std.specs.Prelude.{IfSome}
use Rattle.std.specs.declared.cmp.Ordering.{Ordering}
use Rattle.std.proofs.lemmas.List.{length-map}
use Rattle.gix_index.specs.Closest.{is_below}
use Rattle.gix_index.specs.Record.{Record}
use Rattle.entry_lookup.proofs.Closest.{below_first, below_found}
use Rattle.entry_lookup.proofs.RunsFound.{split_prefixes}
use Rattle.base_search.specs.Prefix.{prefix_cmp}
use Rattle.base_search.proofs.OrderedAnswers.{equal_at, gap_at, rising_of}
use Rattle.base_search.proofs.Parting.{bracket_whole}
use Rattle.capi_table.specs.Table.{records_of, spelled}
use Rattle.index_c.proofs.closest.first_below.Goals as goal

pub returns : goal.returns
returns c =
    record {
      found = let directory = c.args.directory.now in
          let rs = records_of c.args.paths.now c.args.rows.now in
          let cmp : Record → Ordering = λ r. prefix_cmp (directory ++ 47 ∷ []) r.path in
          let many : length rs ≡ length c.args.rows.now = length-map c.args.rows.now (spelled c.args.paths.now) in
          let P : Option ℕ → ℕ → Type 0 =
          λ r n. IfSome r (λ i. (i < n) × HoldsAt (λ r. is_below directory r ≡ true) rs i) in
          subst (P c.ok.result) many (subst (λ (r : Option ℕ). P r (length rs)) (sym c.ok.ensures.value)
          (below_found directory rs c.search_within.result.0
          (equal_at cmp rs c.search_within.result.0 c.search_within.ensures.found)));
      answer = λ o. let directory = c.args.directory.now in
          let rs = records_of c.args.paths.now c.args.rows.now in
          let cmp : Record → Ordering = λ r. prefix_cmp (directory ++ 47 ∷ []) r.path in
          let many : length rs ≡ length c.args.rows.now = length-map c.args.rows.now (spelled c.args.paths.now) in
          let split = split_prefixes (directory ++ 47 ∷ []) rs o in
          let bracket = bracket_whole (map cmp rs) (length c.args.rows.now) (sym many ∙ sym (length-map rs cmp)) in
          c.ok.ensures.value ∙ below_first directory rs c.search_within.result.0
          (equal_at cmp rs c.search_within.result.0 c.search_within.ensures.found)
          (c.search_within.ensures.first (rising_of cmp rs split) bracket)
          (gap_at cmp rs 0 (length c.args.rows.now) c.search_within.result.0 bracket c.search_within.ensures.absent
          split);
    }
