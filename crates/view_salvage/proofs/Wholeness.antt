-- Entries that have a path each, and rise: up to a place, and one more.
use Rattle.std.proofs.Common.{◌≡◌, ◌≢◌, ◌⊎◌, inl, inr, ℕ, ◌+◌, ◌-◌, ◌<◌, ◌≤◌, List, [], length, take, get_or}
use Rattle.std.proofs.Common.{All, sym, subst, arith}
use Rattle.std.specs.declared.cmp.Ordering.TheVariants.{Less}
use Rattle.std.proofs.lemmas.Bool.{cases_lt}
use Rattle.std.proofs.lemmas.List.{get_or-take, length-take, take_all, take_more}
use Rattle.std.proofs.lemmas.List.Elements.{All-from_get_or, All-nil, All-push}
use Rattle.std.proofs.lemmas.List.Quantifiers.{all_pairs_push}
use Rattle.gix_index.specs.Order.{IsStrictlyOrdered, record_cmp}
use Rattle.gix_index.specs.Record.{Record}
use Rattle.view_salvage.specs.Laws.{AreWhole}
use Rattle.view_salvage.specs.SalvageSteps.{IsAbove}
use Rattle.view_salvage.proofs.Saving.{first_at, records_total}

pub whole_none : AreWhole []
whole_none = record {
  ordered = record { less = λ i j d lt le. absurd (omega arith) };
  named = All-nil (λ r. r.path ≢ []);
}

-- all before a place are below the one there
module _ (rs : List Record) (i : ℕ) (d : Record) (up : IsStrictlyOrdered (take i rs)) (lt : i < length rs) (pos : 0 < i)
    (above : record_cmp (get_or rs (i - 1) d) (get_or rs i d) ≡ Less) where
  below_at : (k : ℕ) → k < i → record_cmp (get_or rs k d) (get_or rs i d) ≡ Less
  below_at k within = by (cases_lt k (i - 1))
    where
      by : (k < i - 1) ⊎ (i - 1 ≤ k) → record_cmp (get_or rs k d) (get_or rs i d) ≡ Less
      by (inl less) =
          let last : i - 1 < i = omega arith in
          let inside : i - 1 < length (take i rs) = omega (arith, length-take i rs) in
          let rises : record_cmp (get_or rs k d) (get_or rs (i - 1) d) ≡ Less =
          rw (get_or-take i rs k d within) at (rw (get_or-take i rs (i - 1) d last) at
          (up.less k (i - 1) d less inside)) in
          records_total.trans (get_or rs k d) (get_or rs (i - 1) d) (get_or rs i d) rises above
      by (inr more) =
          let e : i - 1 ≡ k = omega arith in
          subst (λ (n : ℕ). record_cmp (get_or rs n d) (get_or rs i d) ≡ Less) e above

  pub all_below : All (λ q. record_cmp q (get_or rs i d) ≡ Less) (take i rs)
  all_below = All-from_get_or (λ q. record_cmp q (get_or rs i d) ≡ Less) (take i rs) d (λ k within.
      let inside : k < i = omega (arith, length-take i rs) in
      subst (λ (q : Record). record_cmp q (get_or rs i d) ≡ Less) (sym (get_or-take i rs k d inside))
      (below_at k inside))

pub whole_more : (rs : List Record) (i : ℕ) → i < length rs → IsAbove rs i i → AreWhole (take i rs)
    → AreWhole (take (i + 1) rs)
whole_more rs i lt above h =
    let d = first_at rs i lt in
    let x = get_or rs i d in
    subst AreWhole (sym (take_more rs i d lt)) (record {
      ordered = record {
        less = all_pairs_push (λ r q. record_cmp r q ≡ Less) (take i rs) x h.ordered.less
            (below d (cases_lt 0 i) (above d).1);
      };
      named = All-push (λ r. r.path ≢ []) (take i rs) x h.named (above d).0;
    })
  where
    below : (d : Record) → (0 < i) ⊎ (i ≤ 0) → (0 < i → record_cmp (get_or rs (i - 1) d) (get_or rs i d) ≡ Less)
        → All (λ q. record_cmp q (get_or rs i d) ≡ Less) (take i rs)
    below d (inl pos) rises = all_below rs i d h.ordered lt pos (rises pos)
    below d (inr none) rises =
        let e : i ≡ 0 = omega arith in
        subst (λ (n : ℕ). All (λ q. record_cmp q (get_or rs i d) ≡ Less) (take n rs)) (sym e)
        (All-nil (λ q. record_cmp q (get_or rs i d) ≡ Less))

pub above_at : (rs : List Record) (i : ℕ) → i < length rs → AreWhole rs → IsAbove rs i i
above_at rs i lt h = λ d. (h.named i d lt, λ pos. h.ordered.less (i - 1) i d (omega arith) lt)

pub whole_all : (rs : List Record) (n : ℕ) → length rs ≤ n → AreWhole (take n rs) → AreWhole rs
whole_all rs n le h = subst AreWhole (take_all n rs le) h
