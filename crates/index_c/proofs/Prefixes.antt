-- Between the two ends of the rows that begin with a prefix.
use Rattle.std.proofs.Common.{◌≡◌, ◌≢◌, ℕ, ◌<◌, ◌≤◌, true, false, List, [], ◌++◌, length, Some, None, ◌∙◌}
use Rattle.std.specs.declared.cmp.Ordering.{Ordering}
use Rattle.std.proofs.lemmas.List.{length-map}
use Rattle.gix_index.specs.Range.{IsPrefixRange, begins_with}
use Rattle.gix_index.specs.Record.{Record}
use Rattle.entry_lookup.specs.SearchSteps.{prefix_answers}
use Rattle.entry_lookup.proofs.RunsFound.{begins_is, none_between, prefix_range, range_map, run_between}
use Rattle.base_search.specs.Halving.{IsPartedAt}
use Rattle.base_search.specs.Prefix.{prefix_cmp}
use Rattle.capi_table.specs.Table.{records_of, spelled}
use Rattle.capi_table.specs.declared.row.Row.{Row}

pub many_answers : (prefix paths : List ℕ) (rows : List Row)
    → length (prefix_answers prefix (records_of paths rows)) ≡ length rows
many_answers prefix paths rows =
    length-map (records_of paths rows) (λ (r : Record). prefix_cmp prefix r.path) ∙ length-map rows (spelled paths)

-- ---- the range between the two ends

module _ (prefix : List ℕ) (rs : List Record) (some : length prefix ≢ 0) (low high : ℕ)
    (p : IsPartedAt false (prefix_answers (prefix ++ []) rs) low)
    (q : IsPartedAt true (prefix_answers (prefix ++ []) rs) high) where
  abbrev answer_of : Record → Ordering
  answer_of r = prefix_cmp (prefix ++ []) r.path

  pub range_between : low < high → IsPrefixRange prefix rs (Some (record { start = low; end = high }))
  range_between h = prefix_range prefix rs (Some (record { start = low; end = high })) some
      (range_map answer_of (begins_with (prefix ++ [])) (begins_is (prefix ++ [])) rs
      (Some (record { start = low; end = high }))
      (h, run_between (prefix_answers (prefix ++ []) rs) low high p q h))

  pub no_range : high ≤ low → IsPrefixRange prefix rs None
  no_range h = prefix_range prefix rs None some
      (range_map answer_of (begins_with (prefix ++ [])) (begins_is (prefix ++ [])) rs None
      (none_between (prefix_answers (prefix ++ []) rs) low high p q h))
