-- Entries that git works with, up to a place and one more; and those that are kept of a list.
use Rattle.std.proofs.Common.{◌≡◌, ◌⊎◌, inl, inr, ℕ, suc, ◌+◌, ◌-◌, ◌<◌, ◌≤◌, Bool, true, false, cond, not, List, []}
use Rattle.std.proofs.Common.{◌∷◌, length, take, get_or, map, All, Option, Some, None, refl, sym, ap, subst, ◌∙◌, arith}
use Rattle.std.specs.Prelude.{filter, is_some, nat_le}
use Rattle.std.specs.List.{range_with_len, zip}
use Rattle.std.specs.Ordering.{is_lt}
use Rattle.std.specs.declared.cmp.Ordering.{Ordering}
use Rattle.std.specs.declared.cmp.Ordering.TheVariants.{Less, Equal, Greater}
use Rattle.std.proofs.lemmas.Bool.{cases_lt, le-leb, lt-leb}
use Rattle.std.proofs.lemmas.List.{get_or_default, take_all, take_more}
use Rattle.std.proofs.lemmas.List.Elements.{All-nil, All-push, All-weaker, filter_passes}
use Rattle.std.proofs.lemmas.List.Kept.{IsSortedBy-filter}
use Rattle.std.proofs.lemmas.List.Quantifiers.{all_pairs_push}
use Rattle.std.proofs.lemmas.List.Sorted.{ranks_by}
use Rattle.gix_index.specs.EntryType.{Entry}
use Rattle.gix_index.specs.Kind.{Kind}
use Rattle.gix_index.specs.Order.{record_cmp}
use Rattle.gix_index.specs.Record.{Record}
use Rattle.gix_index.specs.Removed.{left_by}
use Rattle.gix_index.specs.Slice.{IsRecordOf}
use Rattle.gix_index.specs.Sorted.{IsFall, IsOrdered}
use Rattle.view_salvage.specs.Accepted.{AreAcceptable, entry_fault, parts_of, record_fault}
use Rattle.view_salvage.specs.Choice.{IsSortedSelection, IsFirstUnfitOrNone, fit_of, records_before, is_unfit}
use Rattle.view_salvage.specs.SalvageSteps.{IsFitAt}
use Rattle.view_salvage.specs.declared.accepted.EntryFault.{EntryFault}
use Rattle.view_salvage.specs.declared.chosen.FirstUnfit.{FirstUnfit}
use Rattle.view_salvage.proofs.Saving.{first_at, records_total, saved_hold}
use Rattle.view_salvage.proofs.Wholeness.{all_below}

-- ---- one entry

-- what is wrong with an entry of this path is what is wrong with its record
pub same_fault : (kind : Kind) (e : Entry) (path : List ℕ) (r : Record) → IsRecordOf e r → r.path ≡ path
    → entry_fault kind (parts_of e) path ≡ record_fault kind r
same_fault kind e path r h at =
    let stat = sym h.stat in
    let id = sym h.id in
    let flags = sym h.flags in
    let mode = sym h.mode in
    let paths = sym at in
    λ i. entry_fault kind (record {
      stat = stat i;
      id = id i;
      flags = record { 0 = flags i };
      mode = record { 0 = mode i };
    }) (paths i)

-- ---- up to a place, and one more

pub fit_none : (kind : Kind) → AreAcceptable kind []
fit_none kind = record {
  ordered = record { less = λ i j d lt le. absurd (omega arith) };
  accepted = All-nil (λ r. record_fault kind r ≡ None);
}

-- what isn't below with one default isn't with any
pub falls_at : (rs : List Record) (i : ℕ) (d : Record) → 0 < i → i < length rs
    → (record_cmp (get_or rs (i - 1) d) (get_or rs i d) ≡ Less → ⊥) → IsFall rs i
falls_at rs i d pos lt not = record {
  behind_one = pos;
  in_range = lt;
  falls = λ e less. not (subst (λ (q : Record). record_cmp (get_or rs (i - 1) d) q ≡ Less)
      (get_or_default rs i e d lt)
      (subst (λ (q : Record). record_cmp q (get_or rs i e) ≡ Less) (get_or_default rs (i - 1) e d (omega arith)) less));
}

less_by : (rs : List Record) (i : ℕ) (d : Record) (o : Ordering) → 0 < i → i < length rs → (IsFall rs i → ⊥)
    → record_cmp (get_or rs (i - 1) d) (get_or rs i d) ≡ o → record_cmp (get_or rs (i - 1) d) (get_or rs i d) ≡ Less
less_by rs i d Less pos lt never e = e
less_by rs i d Equal pos lt never e = absurd (never (falls_at rs i d pos lt (λ less. absurd cc)))
less_by rs i d Greater pos lt never e = absurd (never (falls_at rs i d pos lt (λ less. absurd cc)))

-- what an order means for being less
pub rises_by : (b : Bool) (o r : Ordering) → b ≡ is_lt o → b ≡ true → r ≡ o → r ≡ Less
rises_by b Less r is below e = e
rises_by b Equal r is below e = absurd cc
rises_by b Greater r is below e = absurd cc

pub fit_more : (kind : Kind) (rs : List Record) (i : ℕ) → i < length rs → IsFitAt kind rs i
    → AreAcceptable kind (take i rs) → AreAcceptable kind (take (i + 1) rs)
fit_more kind rs i lt fit h =
    let d = first_at rs i lt in
    let x = get_or rs i d in
    subst (AreAcceptable kind) (sym (take_more rs i d lt)) (record {
      ordered = record {
        less = all_pairs_push (λ r q. record_cmp r q ≡ Less) (take i rs) x h.ordered.less (below d (cases_lt 0 i));
      };
      accepted = All-push (λ r. record_fault kind r ≡ None) (take i rs) x h.accepted (fit.0 d);
    })
  where
    below : (d : Record) → (0 < i) ⊎ (i ≤ 0) → All (λ q. record_cmp q (get_or rs i d) ≡ Less) (take i rs)
    below d (inl pos) = all_below rs i d h.ordered lt pos (less_by rs i d _ pos lt fit.1 refl)
    below d (inr none) =
        let e : i ≡ 0 = omega arith in
        subst (λ (n : ℕ). All (λ q. record_cmp q (get_or rs i d) ≡ Less) (take n rs)) (sym e)
        (All-nil (λ q. record_cmp q (get_or rs i d) ≡ Less))

pub fit_all : (kind : Kind) (rs : List Record) (n : ℕ) → length rs ≤ n → AreAcceptable kind (take n rs)
    → AreAcceptable kind rs
fit_all kind rs n le h = subst (AreAcceptable kind) (take_all n rs le) h

-- ---- those that are kept

pub front_fit : (kind : Kind) (rs : List Record) (first : Option FirstUnfit) → IsFirstUnfitOrNone kind rs first
    → AreAcceptable kind (records_before first rs)
front_fit kind rs None h = h
front_fit kind rs (Some first) h = h.front

none_of : (o : Option EntryFault) → not (is_some o) ≡ true → o ≡ None
none_of None e = refl
none_of (Some f) e = absurd cc

pub saved_fit : (kind : Kind) (rs kept : List Record) → IsSortedSelection (fit_of kind rs) kept
    → AreAcceptable kind kept
saved_fit kind rs kept h = record {
  ordered = h.ordered;
  accepted = saved_hold (λ r. record_fault kind r ≡ None) (fit_of kind rs) kept
      (All-weaker (λ r. not (is_unfit kind r) ≡ true) (λ r. record_fault kind r ≡ None)
      (λ r e. none_of (record_fault kind r) e) (fit_of kind rs) (filter_passes (λ r. not (is_unfit kind r)) rs)) h;
}

pub filter_ordered : (p : Record → Bool) (rs : List Record) → IsOrdered rs → IsOrdered (filter p rs)
filter_ordered p rs up = IsSortedBy-filter _ (ranks_by records_total (λ (r : Record). r)) p rs up

-- ---- the first ones

first_from : {A : Type 0} (n a : ℕ) (xs : List A)
    → map (λ p. p.1) (filter (λ p. not (nat_le n p.0)) (zip (range_with_len a (length xs)) xs)) ≡ take (n - a) xs
first_from n a [] = sym (take_all (n - a) [] (omega arith))
first_from {A} n a (x ∷ xs) = by (cases_lt a n) (first_from n (a + 1) xs)
  where
    rest : List (ℕ × A)
    rest = filter (λ p. not (nat_le n p.0)) (zip (range_with_len (a + 1) (length xs)) xs)

    by : (a < n) ⊎ (n ≤ a) → map (λ p. p.1) rest ≡ take (n - (a + 1)) xs
        → map (λ p. p.1) (cond (not (nat_le n a)) ((a, x) ∷ rest) rest) ≡ take (n - a) (x ∷ xs)
    by (inl less) e =
        let no : nat_le n a ≡ false = lt-leb n a less in
        let more : n - a ≡ suc (n - (a + 1)) = omega arith in
        rw (no, more) (ap (λ (l : List A). x ∷ l) e)
    by (inr le) e =
        let yes : nat_le n a ≡ true = le-leb n a le in
        let none : n - a ≡ 0 = omega arith in
        let fewer : n - (a + 1) ≡ 0 = omega arith in
        rw (yes, none) (e ∙ ap (λ (m : ℕ). take m xs) fewer)

pub left_first : {A : Type 0} (n : ℕ) (xs : List A) → left_by (λ place x. nat_le n place) xs ≡ take n xs
left_first {A} n xs =
    let all : n - 0 ≡ n = omega arith in
    first_from n 0 xs ∙ ap (λ (m : ℕ). take m xs) all
