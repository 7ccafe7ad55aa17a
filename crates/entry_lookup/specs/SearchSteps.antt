-- Comparisons of records with the target of a search (the library's own). Public clauses don't use these definitions.
use Rattle.std.specs.Prelude.{ℕ, ◌≤◌, List, false, length, map, Option, Some, None, Result, IfErr, IfOk}
use Rattle.std.specs.declared.cmp.Ordering.{Ordering}
use Rattle.entry_fields.specs.Flags.{stage_code}
use Rattle.entry_fields.specs.declared.entry.flags.Stage.{Stage}
use Rattle.entry_list.specs.Order.{path_cmp, key_cmp}
use Rattle.entry_list.specs.Record.{Record}
use Rattle.base_search.specs.Halving.{IsEqualAt, IsGapAt, IsPartedAt, IsSplitBy}
use Rattle.base_search.specs.Prefix.{prefix_cmp}

-- the comparison of a record with a path, and with a stage if one is given
abbrev pub asked_cmp : List ℕ → Option Stage → Record → Ordering
asked_cmp path None r = path_cmp r.path path
asked_cmp path (Some stage) r = key_cmp path (stage_code stage) r

-- The first index of a record at the path, and at the stage if one is given, or the index at which it would be
-- inserted. The number of comparisons is bounded by `few`.
pub record AskedAnswer (few : ℕ → Type 0) (path : List ℕ) (stage : Option Stage) (rs : List Record)
    (r : Result ℕ ℕ × ℕ) : Type 0 where
  pub found : IfOk r.0 (IsEqualAt (asked_cmp path stage) rs)
  pub first : IsSplitBy (asked_cmp path stage) rs → IfOk r.0 (IsPartedAt false (map (asked_cmp path stage) rs))
  pub in_range : IfErr r.0 (λ i. i ≤ length rs)
  pub absent : IsSplitBy (asked_cmp path stage) rs → IfErr r.0 (IsGapAt (asked_cmp path stage) rs)
  pub count : few r.1

-- the comparisons of the paths of records with a prefix
abbrev pub prefix_answers : List ℕ → List Record → List Ordering
prefix_answers prefix rs = map (λ r. prefix_cmp prefix r.path) rs
