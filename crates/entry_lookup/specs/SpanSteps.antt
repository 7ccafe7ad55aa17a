-- The records below each directory of a table (the library's own). Public clauses don't use these definitions.
use Rattle.std.specs.Prelude.{◌≡◌, ◌↔◌, ℕ, ◌<◌, ◌≤◌, true, false, List, [], ◌∷◌, ◌++◌, length, map, All, Contains}
use Rattle.std.specs.Prelude.{Option}
use Rattle.std.specs.List.{AllPairs, list_any}
use Rattle.std.specs.declared.cmp.Ordering.TheVariants.{Less}
use Rattle.entry_lookup.specs.Closest.{is_below}
use Rattle.std.specs.declared.ops.Range.{Range}
use Rattle.entry_fields.specs.declared.entry.flags.Stage.{Stage}
use Rattle.entry_list.specs.Order.{IsOrderedByPath}
use Rattle.entry_list.specs.Record.{Record}
use Rattle.base_search.specs.Halving.{IsBracket, IsPartedAt}
use Rattle.entry_lookup.specs.SearchSteps.{asked_cmp}
use Rattle.base_search.specs.Prefix.{prefix_cmp}
use Rattle.entry_lookup.specs.NameSteps.{outer_cmp}
use Rattle.entry_lookup.specs.WalkSteps.{SpanValue, span_value}
use Rattle.entry_lookup.specs.declared.walk.Span.{Span}

abbrev pub span_names : List Span → List (List ℕ)
span_names spans = map (λ s. s.name) (map span_value spans)

-- the records from start up to end are those that are below the name
pub record IsSpan (rs : List Record) (s : SpanValue) : Type 0 where
  pub some : s.start < s.end
  pub in_range : s.end ≤ length rs
  pub starts : IsPartedAt false (map (λ r. prefix_cmp (s.name ++ 47 ∷ []) r.path) rs) s.start
  pub ends : IsPartedAt true (map (λ r. prefix_cmp (s.name ++ 47 ∷ []) r.path) rs) s.end

-- the directories with records below them, each once, after all that continue its name
pub record AreDirs (rs : List Record) (names : List (List ℕ)) : Type 0 where
  pub rises : AllPairs (λ a b. outer_cmp a b ≡ Less) names
  pub each : (name : List ℕ) → Contains names name ↔ (list_any (is_below name) rs ≡ true)

-- a table's directories are those of its entries, which are in the order of their paths
pub record AreSpans (rs : List Record) (spans : List Span) : Type 0 where
  pub ordered : IsOrderedByPath rs
  pub each : All (IsSpan rs) (map span_value spans)
  pub dirs : AreDirs rs (span_names spans)

-- for any stage, records before the window are below the target, and records after it above
pub record IsWindow (path : List ℕ) (rs : List Record) (w : Range ℕ) : Type 0 where
  pub in_order : w.start ≤ w.end
  pub in_range : w.end ≤ length rs
  pub bracket : (stage : Option Stage) → IsBracket (map (asked_cmp path stage) rs) w.start w.end
