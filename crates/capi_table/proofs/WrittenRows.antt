-- Rows of which those that are marked REMOVE are passed over.
use denote.Ref.{Bor}
use Rattle.std.proofs.Common.{◌≡◌, ◌∙◌, ℕ, ◌+◌, ◌<◌, ◌≤◌, ◌⊎◌, inl, inr, List, [], ◌∷◌, ◌++◌, Bool, true, false}
use Rattle.std.proofs.Common.{not, cond, length, take, get_or, Option, Some, None, sym, ap, subst, arith}
use Rattle.std.proofs.Common.{length-append}
use Rattle.std.specs.Option.{option_map_or}
use Rattle.std.specs.Ordering.{is_ge}
use Rattle.std.specs.declared.cmp.Ordering.TheVariants.{Less}
use Rattle.std.proofs.Math.Seq.{get_or-append_seam}
use Rattle.std.proofs.lemmas.Bool.{cases_lt, false≢true}
use Rattle.std.proofs.lemmas.List.{append-nil, get_or_append_left, get_or-map, length-map}
use Rattle.std.proofs.lemmas.List.Elements.{filter_more}
use Rattle.std.proofs.lemmas.List.Quantifiers.{all_pairs_push}
use Rattle.entry_list.proofs.Falls.{less_from}
use Rattle.entry_list.proofs.Orders.{records_total}
use Rattle.gix_index.specs.EntryImage.{is_removed, written}
use Rattle.gix_index.specs.Order.{IsStrictlyOrdered, record_cmp}
use Rattle.gix_index.specs.Record.{Record}
use Rattle.capi_table.specs.Table.{records_of, spelled}
use Rattle.capi_table.specs.declared.row.Row.{Row}

-- ---- one row more

pub row_more : (paths : List ℕ) (rows : List Row) (i : ℕ) (d : Row) → i < length rows
    → is_removed (get_or rows i d).flags ≡ false
    → written (take (i + 1) (records_of paths rows))
    ≡ written (take i (records_of paths rows)) ++ spelled paths (get_or rows i d) ∷ []
row_more paths rows i d lt e =
    filter_more (λ (x : Record). not (is_removed x.flags)) (records_of paths rows) i (spelled paths d)
    (omega (arith, lt, length-map rows (spelled paths)))
    ∙ ap (λ (x : Record). written (take i (records_of paths rows)) ++ cond (not (is_removed x.flags)) (x ∷ []) [])
    (get_or-map (spelled paths) rows i d (spelled paths d) lt)
    ∙ ap (λ (b : Bool). written (take i (records_of paths rows)) ++ cond (not b) (spelled paths (get_or rows i d) ∷ []) [])
    e

pub row_skipped : (paths : List ℕ) (rows : List Row) (i : ℕ) (d : Row) → i < length rows
    → is_removed (get_or rows i d).flags ≡ true
    → written (take (i + 1) (records_of paths rows)) ≡ written (take i (records_of paths rows))
row_skipped paths rows i d lt e =
    filter_more (λ (x : Record). not (is_removed x.flags)) (records_of paths rows) i (spelled paths d)
    (omega (arith, lt, length-map rows (spelled paths)))
    ∙ ap (λ (x : Record). written (take i (records_of paths rows)) ++ cond (not (is_removed x.flags)) (x ∷ []) [])
    (get_or-map (spelled paths) rows i d (spelled paths d) lt)
    ∙ ap (λ (b : Bool). written (take i (records_of paths rows)) ++ cond (not b) (spelled paths (get_or rows i d) ∷ []) [])
    e
    ∙ append-nil (written (take i (records_of paths rows)))

-- ---- order

-- the records end in the one of a row, or there are none
abbrev pub EndsIn : List ℕ → List Record → Option (Bor Row) → Type 0
EndsIn paths rs None = rs ≡ []
EndsIn paths rs (Some row) = (front : List Record) × (rs ≡ front ++ spelled paths row.now ∷ [])

-- whether a record isn't above the one of a row
abbrev pub falls_behind : List ℕ → Record → Option (Bor Row) → Bool
falls_behind paths r row = option_map_or (λ (b : Bor Row). is_ge (record_cmp (spelled paths b.now) r)) row false

ordered_one : (r : Record) → IsStrictlyOrdered (r ∷ [])
ordered_one r = record { less = λ i j d lt le. absurd (omega (arith, lt, le)) }

ordered_push : (front : List Record) (r q : Record) → IsStrictlyOrdered (front ++ r ∷ []) → record_cmp r q ≡ Less
    → IsStrictlyOrdered ((front ++ r ∷ []) ++ q ∷ [])
ordered_push front r q h less =
    record { less = all_pairs_push (λ a b. record_cmp a b ≡ Less) (front ++ r ∷ []) q h.less below }
  where
    below : (k : ℕ) (d : Record) → k < length (front ++ r ∷ []) → record_cmp (get_or (front ++ r ∷ []) k d) q ≡ Less
    below k d lt = by (cases_lt k (length front))
      where
        at : get_or (front ++ r ∷ []) (length front) d ≡ r
        at = get_or-append_seam front r [] d

        by : (k < length front) ⊎ (length front ≤ k) → record_cmp (get_or (front ++ r ∷ []) k d) q ≡ Less
        by (inl a) =
            let inside : length front < length (front ++ r ∷ []) = omega (arith, length-append front (r ∷ [])) in
            let one : record_cmp (get_or (front ++ r ∷ []) k d) r ≡ Less =
            subst (λ (x : Record). record_cmp (get_or (front ++ r ∷ []) k d) x ≡ Less) at
            (h.less k (length front) d a inside) in
            records_total.trans (get_or (front ++ r ∷ []) k d) r q one less
        by (inr b) =
            let e : k ≡ length front = omega (arith, length-append front (r ∷ [])) in
            rw (e, at) less

not_pushed : (front : List Record) (r q : Record) → is_ge (record_cmp r q) ≡ true
    → IsStrictlyOrdered ((front ++ r ∷ []) ++ q ∷ []) → ⊥
not_pushed front r q ge h =
    let n : ℕ = length (front ++ r ∷ []) in
    let before : length front < n = omega (arith, length-append front (r ∷ [])) in
    let inside : n < length ((front ++ r ∷ []) ++ q ∷ []) = omega (arith, length-append (front ++ r ∷ []) (q ∷ [])) in
    let a : get_or ((front ++ r ∷ []) ++ q ∷ []) (length front) q ≡ r =
    get_or_append_left (front ++ r ∷ []) (q ∷ []) q (length front) before ∙ get_or-append_seam front r [] q in
    let b : get_or ((front ++ r ∷ []) ++ q ∷ []) n q ≡ q = get_or-append_seam (front ++ r ∷ []) q [] q in
    let less : record_cmp r q ≡ Less =
    subst (λ (x : Record). record_cmp r x ≡ Less) b
    (subst (λ (x : Record). record_cmp x (get_or ((front ++ r ∷ []) ++ q ∷ []) n q) ≡ Less) a
    (h.less (length front) n q before inside)) in
    false≢true (sym (ap is_ge less) ∙ ge)

rises_on : (paths : List ℕ) (rs : List Record) (row : Option (Bor Row)) (q : Record) → IsStrictlyOrdered rs
    → EndsIn paths rs row → falls_behind paths q row ≡ false → IsStrictlyOrdered (rs ++ q ∷ [])
rises_on paths rs None q h e is = rw e (ordered_one q)
rises_on paths rs (Some row) q h e is =
    subst (λ (l : List Record). IsStrictlyOrdered (l ++ q ∷ [])) (sym e.1)
    (ordered_push e.0 (spelled paths row.now) q (subst IsStrictlyOrdered e.1 h) (less_from _ is))

falls_on : (paths : List ℕ) (rs : List Record) (row : Option (Bor Row)) (q : Record)
    → EndsIn paths rs row → falls_behind paths q row ≡ true → IsStrictlyOrdered (rs ++ q ∷ []) → ⊥
falls_on paths rs None q e is h = false≢true is
falls_on paths rs (Some row) q e is h =
    not_pushed e.0 (spelled paths row.now) q is
    (subst (λ (l : List Record). IsStrictlyOrdered (l ++ q ∷ [])) e.1 h)

-- one row more that rises
pub rises_at : (paths : List ℕ) (rows : List Row) (i : ℕ) (d : Row) (before : Option (Bor Row)) → i < length rows
    → is_removed (get_or rows i d).flags ≡ false → IsStrictlyOrdered (written (take i (records_of paths rows)))
    → EndsIn paths (written (take i (records_of paths rows))) before
    → falls_behind paths (spelled paths (get_or rows i d)) before ≡ false
    → IsStrictlyOrdered (written (take (i + 1) (records_of paths rows)))
rises_at paths rows i d before lt kept h e is =
    subst IsStrictlyOrdered (sym (row_more paths rows i d lt kept))
    (rises_on paths (written (take i (records_of paths rows))) before (spelled paths (get_or rows i d)) h e is)

-- one row more that doesn't
pub falls_at : (paths : List ℕ) (rows : List Row) (i : ℕ) (d : Row) (before : Option (Bor Row)) → i < length rows
    → is_removed (get_or rows i d).flags ≡ false
    → EndsIn paths (written (take i (records_of paths rows))) before
    → falls_behind paths (spelled paths (get_or rows i d)) before ≡ true
    → IsStrictlyOrdered (written (take (i + 1) (records_of paths rows))) → ⊥
falls_at paths rows i d before lt kept e is h =
    falls_on paths (written (take i (records_of paths rows))) before (spelled paths (get_or rows i d)) e is
    (subst IsStrictlyOrdered (row_more paths rows i d lt kept) h)
