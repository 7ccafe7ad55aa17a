-- The list after a path is removed, and its properties.
use Rattle.std.proofs.Common.{◌≡◌, ℕ, zero, suc, ◌-◌, Bool, not, List, [], ◌∷◌, ◌++◌, length, take}
use Rattle.std.proofs.Common.{drop, filter, map, All, refl, sym, ap, ◌∙◌, subst, arith, count_by, Some, None}
use Rattle.std.proofs.Common.{length-take}
use Rattle.std.proofs.lemmas.List.{drop-map, length-drop, map-append, take-map}
use Rattle.std.proofs.lemmas.List.Elements.{All-append, All-contains, All-contains_itself, All-drop, All-filter}
use Rattle.std.proofs.lemmas.List.Elements.{All-take}
use Rattle.std.proofs.lemmas.List.Filters.{length-filter_both}
use Rattle.std.proofs.lemmas.List.Kept.{AllPairs-filter}
use Rattle.std.proofs.lemmas.List.Sums.{length-filter}
use Rattle.std.specs.List.{Contains}
use Rattle.std.specs.declared.cmp.Ordering.TheVariants.{Less}
use Rattle.std.specs.declared.ops.Range.{Range}
use Rattle.entry_list.specs.Order.{IsStrictlyOrdered, record_cmp}
use Rattle.entry_list.specs.Record.{IsPlaced, Record, record_in, records_in}
use Rattle.entry_list.specs.declared.Entry.{Entry}
use Rattle.entry_lookup.specs.Range.{IsRange, IsRun, is_at}
use Rattle.entry_lookup.proofs.RunFilters.{run_is_filter}
use Rattle.entry_edit.specs.Edits.{IsUnstagedFrom, LieApart, unstaged}
use Rattle.entry_edit.proofs.Stagings.{contains_filter, filter_all}

-- the elements outside of a run are the filter of the list
pub outside_is_filter : {X : Type 0} (test : X → Bool) (xs : List X) (start end : ℕ) → IsRun test xs start end
    → take start xs ++ drop end xs ≡ filter (λ x. not (test x)) xs
outside_is_filter test [] zero zero run = refl
outside_is_filter test [] zero (suc end) run = refl
outside_is_filter test [] (suc start) zero run = refl
outside_is_filter test [] (suc start) (suc end) run = refl
outside_is_filter test (x ∷ xs) zero zero run =
    sym (filter_all (λ x. not (test x)) (x ∷ xs) (λ k d u. ap not (run.behind k d (omega arith) u)))
outside_is_filter test (x ∷ xs) zero (suc end) run =
    let rest : IsRun test xs 0 end = record {
      in_order = omega arith;
      in_range = omega (arith, run.in_range);
      before = λ k d l u. absurd (omega arith);
      within = λ k d l u. run.within (suc k) d (omega arith) (omega arith);
      behind = λ k d l u. run.behind (suc k) d (omega arith) (omega arith);
    } in
    rw (run.within 0 x (omega arith) (omega arith)) (outside_is_filter test xs 0 end rest)
outside_is_filter test (x ∷ xs) (suc start) zero run = absurd (omega (arith, run.in_order))
outside_is_filter test (x ∷ xs) (suc start) (suc end) run =
    let rest : IsRun test xs start end = record {
      in_order = omega (arith, run.in_order);
      in_range = omega (arith, run.in_range);
      before = λ k d l u. run.before (suc k) d (omega arith) (omega arith);
      within = λ k d l u. run.within (suc k) d (omega arith) (omega arith);
      behind = λ k d l u. run.behind (suc k) d (omega arith) (omega arith);
    } in
    rw (run.before 0 x (omega arith) (omega arith)) (ap (λ l. x ∷ l) (outside_is_filter test xs start end rest))

module _ (path : List ℕ) (old : List Record) (o : IsStrictlyOrdered old) where
  kept_apart : LieApart old → LieApart (filter (λ r. not (is_at path r)) old)
  kept_apart h =
      let keep : Record → Bool = λ r. not (is_at path r) in
      let there : All (Contains old) (filter keep old) = All-filter keep (Contains old) old (All-contains_itself old) in
      record {
        apart = λ r q cr cq. h.apart r q (All-contains (Contains old) (filter keep old) r there cr)
            (All-contains (Contains old) (filter keep old) q there cq);
      }

  pub unstaged_from : (now : List Record) → now ≡ filter (λ r. not (is_at path r)) old → IsUnstagedFrom path old now
  unfolding unstaged
  unstaged_from now e = record {
    is = e;
    ordered = subst IsStrictlyOrdered (sym e)
        (record { less = AllPairs-filter (λ r q. record_cmp r q ≡ Less) (λ r. not (is_at path r)) old o.less });
    apart = λ h. subst LieApart (sym e) (kept_apart h);
    others = λ r c h. subst (λ l. Contains l r) (sym e)
        (contains_filter (λ q. not (is_at path q)) old r c.0 c.1 c.2 (ap not h));
  }

  pub unstaged_none : IsRange (is_at path) old None → IsUnstagedFrom path old old
  unstaged_none h = unstaged_from old (sym (filter_all (λ r. not (is_at path r)) old (λ k d u. ap not (h k d u))))

  pub count_none : IsRange (is_at path) old None → 0 ≡ count_by (is_at path) old
  count_none h =
      let all = filter_all (λ r. not (is_at path r)) old (λ k d u. ap not (h k d u)) in
      omega (
        arith,
        ap length all,
        length-filter (is_at path) old,
        length-filter_both (is_at path) (λ r. not (is_at path r)) (λ r. refl) old,
      )

  pub unstaged_some : (p : Range ℕ) → IsRange (is_at path) old (Some p) → (now : List Record)
      → now ≡ take p.start old ++ drop p.end old → IsUnstagedFrom path old now
  unstaged_some p h now e = unstaged_from now (e ∙ outside_is_filter (is_at path) old p.start p.end h.1)

  pub count_some : (p : Range ℕ) → IsRange (is_at path) old (Some p) → p.end - p.start ≡ count_by (is_at path) old
  count_some p h =
      omega (
        arith,
        h.1.in_range,
        h.1.in_order,
        ap length (run_is_filter (is_at path) old p.start p.end h.1),
        length-filter (is_at path) old,
        length-take (p.end - p.start) (drop p.start old),
        length-drop p.start old,
      )

-- ---- the entries of the records

pub outside_records : (storage : List ℕ) (es : List Entry) (start end : ℕ)
    → records_in storage (take start es ++ drop end es)
    ≡ take start (records_in storage es) ++ drop end (records_in storage es)
outside_records storage es start end =
    map-append (record_in storage) (take start es) (drop end es)
    ∙ ap (λ l. l ++ map (record_in storage) (drop end es)) (sym (take-map (record_in storage) start es))
    ∙ ap (λ l. take start (records_in storage es) ++ l) (sym (drop-map (record_in storage) end es))

pub outside_placed : (len : ℕ) (es : List Entry) (start end : ℕ) → All (IsPlaced len) es
    → All (IsPlaced len) (take start es ++ drop end es)
outside_placed len es start end h = All-append (IsPlaced len) (take start es) (drop end es)
    (All-take (IsPlaced len) start es h) (All-drop (IsPlaced len) end es h)
