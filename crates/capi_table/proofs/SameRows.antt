-- Rows that spell records, one by one.
use Rattle.std.proofs.Common.{◌≡◌, ◌∙◌, ℕ, ◌+◌, ◌<◌, ◌≤◌, List, [], ◌∷◌, ◌++◌, Bool, true, false, length}
use Rattle.std.proofs.Common.{take, drop, get_or, refl, sym, ap, arith}
use Rattle.std.specs.List.{AllByRecursion}
use Rattle.std.proofs.lemmas.List.{get_or-map, length-map, take_more, take_more_same}
use Rattle.std.proofs.lemmas.List.Elements.{All-from_recursion}
use Rattle.gix_index.specs.EntryImage.{is_removed, written}
use Rattle.gix_index.specs.EntryType.{Entry}
use Rattle.gix_index.specs.Record.{Record, record_in, records_in}
use Rattle.capi_table.specs.Overwriting.{AreRowEntries, SpellsThis}
use Rattle.capi_table.specs.Table.{records_of, spelled}
use Rattle.capi_table.specs.declared.row.Row.{Row}
use Rattle.capi_table.proofs.WrittenRows.{row_more}

fewer : (rs : List Record) → length (written rs) ≤ length rs
fewer [] = omega arith
fewer (r ∷ rs) = by (is_removed r.flags) refl (fewer rs)
  where
    by : (b : Bool) → is_removed r.flags ≡ b → length (written rs) ≤ length rs
        → length (written (r ∷ rs)) ≤ length (r ∷ rs)
    by true h le = rw h (omega (arith, le))
    by false h le = rw h (omega (arith, le))

each_stays : (rs : List Record) → written rs ≡ rs → AllByRecursion (λ r. is_removed r.flags ≡ false) rs
each_stays [] e = tt
each_stays (r ∷ rs) e = by (is_removed r.flags) refl e (each_stays rs) (fewer rs)
  where
    by : (b : Bool) → is_removed r.flags ≡ b → written (r ∷ rs) ≡ r ∷ rs
        → (written rs ≡ rs → AllByRecursion (λ r. is_removed r.flags ≡ false) rs) → length (written rs) ≤ length rs
        → (is_removed r.flags ≡ false) × AllByRecursion (λ r. is_removed r.flags ≡ false) rs
    by true h k each le =
        let short : written rs ≡ r ∷ rs = rw h at k in
        absurd (omega (arith, ap length short, le))
    by false h k each le =
        let same : r ∷ written rs ≡ r ∷ rs = rw h at k in
        (h, each (ap (drop 1) same))

-- if none of the rows is left out, the one at an index isn't
pub stays_at : (paths : List ℕ) (rows : List Row) (i : ℕ) (d : Row) → i < length rows
    → written (records_of paths rows) ≡ records_of paths rows → is_removed (get_or rows i d).flags ≡ false
stays_at paths rows i d lt e =
    ap (λ (r : Record). is_removed r.flags) (sym (get_or-map (spelled paths) rows i d (spelled paths d) lt))
    ∙ All-from_recursion (λ r. is_removed r.flags ≡ false) (records_of paths rows) (each_stays (records_of paths rows) e)
    i (spelled paths d) (omega (arith, lt, length-map rows (spelled paths)))

-- each before the next index isn't left out, if the row at the index isn't
pub stay_more : (paths : List ℕ) (rows : List Row) (i : ℕ) (d : Row) → i < length rows
    → is_removed (get_or rows i d).flags ≡ false
    → written (take i (records_of paths rows)) ≡ take i (records_of paths rows)
    → written (take (i + 1) (records_of paths rows)) ≡ take (i + 1) (records_of paths rows)
stay_more paths rows i d lt e h =
    row_more paths rows i d lt e ∙ ap (λ (l : List Record). l ++ spelled paths (get_or rows i d) ∷ []) h
    ∙ ap (λ (r : Record). take i (records_of paths rows) ++ r ∷ [])
    (sym (get_or-map (spelled paths) rows i d (spelled paths d) lt))
    ∙ sym (take_more (records_of paths rows) i (spelled paths d) (omega (arith, lt, length-map rows (spelled paths))))

module _ (paths : List ℕ) (rows : List Row) (storage : List ℕ) (es : List Entry) (i : ℕ) (d : Row) (e : Entry)
    (inside : i < length rows) (within : i < length es) where
  row_is : get_or (records_of paths rows) i (spelled paths d) ≡ spelled paths (get_or rows i d)
  row_is = get_or-map (spelled paths) rows i d (spelled paths d) inside

  entry_is : get_or (records_in storage es) i (spelled paths d) ≡ record_in storage (get_or es i e)
  entry_is = get_or-map (record_in storage) es i e (spelled paths d) within

  -- rows that are the entries are so at each place
  pub spells_at : AreRowEntries (records_in storage es) paths rows
      → SpellsThis paths (get_or rows i d) (record_in storage (get_or es i e))
  spells_at h = record {
    stays = stays_at paths rows i d inside h.stay;
    is = sym row_is ∙ ap (λ (l : List Record). get_or l i (spelled paths d)) h.are ∙ entry_is;
  }

  -- those before the next index are the first entries, if the row at the index is one
  pub same_more : SpellsThis paths (get_or rows i d) (record_in storage (get_or es i e))
      → take i (records_of paths rows) ≡ take i (records_in storage es)
      → take (i + 1) (records_of paths rows) ≡ take (i + 1) (records_in storage es)
  same_more h front =
      take_more_same (records_of paths rows) (records_in storage es) i (spelled paths d)
      (omega (arith, inside, length-map rows (spelled paths)))
      (omega (arith, within, length-map es (record_in storage))) front
      (row_is ∙ h.is ∙ sym entry_is)
