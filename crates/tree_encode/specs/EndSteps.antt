-- The end of a directory's entries. Public clauses cite none of these.
use Rattle.std.specs.Prelude.{◌≢◌, ℕ, ◌<◌, ◌≤◌, List, drop, map, slice_index_or}
use Rattle.std.specs.declared.cmp.Ordering.{Ordering}
use Rattle.std.specs.declared.cmp.Ordering.TheVariants.{Greater}
use Rattle.entry_list.specs.Order.{path_cmp}
use Rattle.entry_list.specs.Record.{Record}
use Rattle.base_search.specs.Prefix.{prefix_cmp}
use Rattle.tree_encode.specs.Refusals.{HasPathPrefix}

-- After its first `prefix_len` bytes, the record's path continues with `shown`.
abbrev pub ContinuesAt : ℕ → List ℕ → Record → Type 0
ContinuesAt prefix_len shown r = HasPathPrefix (drop prefix_len r.path) shown

-- Without their first `prefix_len` bytes, the paths of the records from `start` to `end` never decrease.
abbrev pub NeverFall : ℕ → List Record → ℕ → ℕ → Type 0
NeverFall prefix_len rs start end = (i j : ℕ) (d : Record) → start ≤ i → i < j → j < end
    → path_cmp (drop prefix_len (slice_index_or rs i d).path) (drop prefix_len (slice_index_or rs j d).path) ≢ Greater

-- How each record's path, without its first `prefix_len` bytes, compares with `shown`.
abbrev pub tail_answers : ℕ → List ℕ → List Record → List Ordering
tail_answers prefix_len shown rs = map (λ r. prefix_cmp shown (drop prefix_len r.path)) rs
