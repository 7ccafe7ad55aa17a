-- The index of the first row that is a directory or below it, with case ignored.
use Rattle.std.proofs.Common.{◌≡◌, ℕ, ◌<◌, Bool, true, List, [], ◌∷◌, length, Some, None, sym, ◌∙◌}
use Rattle.std.proofs.Common.{arith}
use Rattle.std.specs.List.{position}
use Rattle.std.proofs.lemmas.List.Quantifiers.{position-Some}
use Rattle.gix_index.specs.Searching.Folded.{folded_closest, stands_in_folded}
use Rattle.index_c.specs.Finding.{place_among}
use Rattle.capi_table.specs.Table.{records_of, spelled}
use Rattle.capi_table.specs.declared.row.Row.{Row}
use Rattle.capi_table.proofs.FoldedPaths.{position_map}

-- an index that is found is in the list
pub inside : {X : Type 0} (p : X → Bool) (xs : List X) (i : ℕ) → position p xs ≡ Some i → i < length xs
inside p [] i e = absurd cc
inside p (x ∷ xs) i e = (position-Some p (x ∷ xs) i x e).0

place_some : (count place : ℕ) → place < count → place_among count place ≡ Some place
place_some count place l = grind (arith, l)

place_none : (count : ℕ) → place_among count count ≡ None
place_none count = grind arith

module _ (directory paths : List ℕ) (rows : List Row) where
  abbrev stands : Row → Bool
  stands row = stands_in_folded true directory (spelled paths row)

  pub placed : (place : ℕ) → Some place ≡ position stands rows
      → place_among (length rows) place ≡ folded_closest true directory (records_of paths rows)
  placed place e =
      place_some (length rows) place (inside stands rows place (sym e)) ∙ e
      ∙ sym (position_map (stands_in_folded true directory) (spelled paths) rows)

  pub none_placed : None ≡ position stands rows
      → place_among (length rows) (length rows) ≡ folded_closest true directory (records_of paths rows)
  none_placed e =
      place_none (length rows) ∙ e ∙ sym (position_map (stands_in_folded true directory) (spelled paths) rows)
