-- What comes of the row at a place, as of the record that it spells.
use Rattle.std.proofs.Common.{◌≡◌, ℕ, ◌<◌, ◌≤◌, ◌+◌, ◌⊎◌, inl, inr, List, length, get_or, sym, ap, ◌∙◌, subst, arith}
use Rattle.std.specs.List.{AllWithin, HoldsAt}
use Rattle.std.proofs.lemmas.Bool.{cases_lt}
use Rattle.std.proofs.lemmas.List.{get_or-map}
use Rattle.gix_index.specs.Record.{Record}
use Rattle.index_c.specs.Finding.{RowGives}
use Rattle.capi_table.specs.Table.{spelled}
use Rattle.capi_table.specs.declared.row.Row.{Row}

pub row_gives : {A : Type 0} (f : Record → A) (paths : List ℕ) (rows : List Row) (place : ℕ) (d : Row) (a : A)
    → place < length rows → a ≡ f (spelled paths (get_or rows place d)) → RowGives f paths rows place a
row_gives f paths rows place d a within e = λ r. ap f (get_or-map (spelled paths) rows place d r within) ∙ sym e

-- what holds within places, and at the next, holds within these
pub within_more : {X : Type 0} (P : X → Type 0) (xs : List X) (from to : ℕ) → AllWithin P xs from to
    → HoldsAt P xs to → AllWithin P xs from (to + 1)
within_more P xs from to h here k d l u = by (cases_lt k to)
  where
    by : (k < to) ⊎ (to ≤ k) → P (get_or xs k d)
    by (inl before) = h k d l before
    by (inr upto) = let same : to ≡ k = omega arith in subst (λ (i : ℕ). P (get_or xs i d)) same (here d)
