-- A change of a list whose back it doesn't touch.
use Rattle.std.proofs.Common.{◌≡◌, ◌≢◌, ℕ, zero, suc, ◌<◌, ◌≤◌, ◌==◌, ◌&&◌, ◌||◌, Bool, true, false, not, List, [], ◌∷◌, ◌++◌, length, get_or, take}
use Rattle.std.proofs.Common.{filter, All, refl, sym, ap, ◌∙◌, arith, append_assoc, Option, Some, None}
use Rattle.std.specs.Ordering.{is_lt, nat_cmp, ordering_then}
use Rattle.std.specs.Option.{ok_or}
use Rattle.std.specs.declared.cmp.Ordering.{Ordering}
use Rattle.std.specs.declared.cmp.Ordering.TheVariants.{Less, Equal, Greater}
use Rattle.std.proofs.lemmas.Bool.Decides.{nat_tests}
use Rattle.std.proofs.lemmas.List.Elements.{All-append, All-weaker, filter-append}
use Rattle.std.proofs.lemmas.List.Quantifiers.{position-Some}
use Rattle.std.proofs.lemmas.List.Sums.{count_by-le-length}
use Rattle.std.proofs.Math.ListN.{set}
use Rattle.std.specs.List.{insert}
use Rattle.entry_list.specs.Order.{IsStrictlyOrdered, path_cmp, record_cmp, record_stage}
use Rattle.entry_list.specs.Record.{Record, with_path}
use Rattle.entry_list.proofs.Orders.{equal_key}
use Rattle.entry_lookup.specs.Closest.{is_below}
use Rattle.entry_lookup.specs.Lookup.{has_key, insertion_of, record_index}
use Rattle.entry_lookup.specs.Range.{begins_with, is_at}
use Rattle.entry_lookup.proofs.TableMade.{begins_at, same_from, same_to}
use Rattle.entry_edit.specs.Changes.{IsAppliedTo, applied_one, change_path, takes_out}
use Rattle.entry_edit.specs.Edits.{have_df_conflict, is_displaced, staged, unstaged}
use Rattle.entry_edit.specs.EditSteps.{IsBeyond, IsPutInto, is_other}
use Rattle.entry_edit.specs.declared.change.Change.{Change}
use Rattle.entry_edit.specs.declared.change.Change.TheVariants.{Stage, Unstage}
use Rattle.entry_edit.proofs.Applied.{one_staged, one_unstaged}
use Rattle.entry_edit.proofs.Displacings.{displaced_other}
use Rattle.entry_edit.proofs.Puts.{put_between, put_over}
use Rattle.entry_edit.proofs.Stagings.{filter_all, left_staged, staged_into}
use Rattle.entry_edit.proofs.Unstagings.{unstaged_from}
use Rattle.entry_edit.proofs.Ways.{key_from}

-- ---- a record beyond a path

pub prefix_less : (k : ℕ) (p : List ℕ) → k < length p → path_cmp (take k p) p ≡ Less
prefix_less k [] l = absurd (omega arith)
prefix_less zero (x ∷ p) l = refl
prefix_less (suc k) (x ∷ p) l =
    let e : nat_cmp x x ≡ Equal = grind (arith, nat_tests) in
    rw e (prefix_less k p (omega arith))

false_from : (b : Bool) → (b ≡ true → ⊥) → b ≡ false
false_from true h = absurd (h refl)
false_from false h = refl

module _ (path : List ℕ) (r : Record) (b : IsBeyond path r) where
  pub beyond_at : is_at path r ≡ false
  beyond_at = false_from (is_at path r) (λ t.
      let e = equal_key path (record_stage r) r (same_from r.path path t) refl in
      let g = ap (λ o. ordering_then o (nat_cmp (record_stage r) (record_stage r))) b.greater in
      let both : Greater ≡ Equal = sym g ∙ e in cc)

  pub beyond_below : is_below path r ≡ false
  beyond_below = false_from (is_below path r) (λ t.
      let at = begins_at path r.path 47 t in
      let begins : begins_with path r ≡ true = same_to path (take (length path) r.path) (sym at.2) in
      let both : true ≡ false = sym begins ∙ b.apart in cc)

  pub beyond_above : (new : Record) → new.path ≡ path → is_below r.path new ≡ false
  beyond_above new e = false_from (is_below r.path new) (λ t.
      let at = begins_at r.path new.path 47 t in
      let less = ap (λ p. path_cmp p new.path) (sym at.2) ∙ prefix_less (length r.path) new.path at.0 in
      let both : Less ≡ Greater = sym less ∙ ap (path_cmp r.path) e ∙ b.greater in cc)

  beyond_greater : (new : Record) → new.path ≡ path → record_cmp r new ≡ Greater
  beyond_greater new e =
      ap (λ p. ordering_then (path_cmp r.path p) (nat_cmp (record_stage r) (record_stage new))) e
      ∙ ap (λ o. ordering_then o (nat_cmp (record_stage r) (record_stage new))) b.greater

not_equal : (o : Ordering) → o ≡ Greater → o ≢ Equal
not_equal o e f = cc

three : (s : Bool) (a b m : Bool) → a ≡ false → b ≡ false → ((false && m) || (s && (a || b))) ≡ false
three true a b m e f = rw (e, f) refl
three false a b m e f = refl

module _ (new r : Record) (b : IsBeyond new.path r) where
  beyond_stays : is_other new r ≡ false
  beyond_stays =
      sym (displaced_other new r (not_equal _ (beyond_greater new.path r b new refl)))
      ∙ ap (λ at. (at && ((record_stage new == 0) || (record_stage r == record_stage new))) || have_df_conflict new r)
      (beyond_at new.path r b)
      ∙ three (record_stage r == record_stage new) (is_below new.path r) (is_below r.path new)
      ((record_stage new == 0) || (record_stage r == record_stage new))
      (beyond_below new.path r b) (beyond_above new.path r b new refl)

-- ---- put among others

put_any : (new : Record) (rs : List Record) → IsStrictlyOrdered rs → (now : List Record) × IsPutInto new rs now
put_any new rs o = by (record_index new.path (record_stage new) rs) refl
  where
    by : (p : Option ℕ) → record_index new.path (record_stage new) rs ≡ p → (now : List Record) × IsPutInto new rs now
    by (Some i) e = (
      set rs i new,
      put_over new rs i o (record {
        in_range = (position-Some (has_key new.path (record_stage new)) rs i new e).0;
        here = λ d. key_from new.path (record_stage new) (get_or rs i d)
            (position-Some (has_key new.path (record_stage new)) rs i d e).1;
      }),
    )
    by None e =
        let i = insertion_of new.path (record_stage new) rs in
        (insert rs i new, put_between new rs i o (ap (λ p. ok_or p i) (sym e)) (count_fits rs))
      where
        count_fits : (rs : List Record) → insertion_of new.path (record_stage new) rs ≤ length rs
        count_fits rs = omega (arith, count_by-le-length (λ (r : Record). is_lt (record_cmp r new)) rs)

-- ---- a change of the front

module _ (xs ys : List Record) (o : IsStrictlyOrdered (xs ++ ys)) (front : IsStrictlyOrdered xs) where
  module _ (new : Record) (beyond : All (IsBeyond new.path) ys) where
    stay : filter (λ r. not (is_other new r)) ys ≡ ys
    stay = filter_all (λ r. not (is_other new r)) ys
        (All-weaker (IsBeyond new.path) (λ r. not (is_other new r) ≡ true) (λ r b. ap not (beyond_stays new r b)) ys beyond)

    wider : (now : List Record) → IsPutInto new xs now → IsPutInto new (xs ++ ys) (now ++ ys)
    wider now p = record {
      front = p.front;
      gone = p.gone;
      behind = p.behind ++ ys;
      was = ap (λ l. l ++ ys) p.was ∙ append_assoc p.front (p.gone ++ p.behind) ys
          ∙ ap (λ l. p.front ++ l) (append_assoc p.gone p.behind ys);
      is = ap (λ l. l ++ ys) p.is ∙ append_assoc p.front (new ∷ p.behind) ys;
      below = p.below;
      same = p.same;
      above = All-append (λ r. record_cmp r new ≡ Greater) p.behind ys p.above
          (All-weaker (IsBeyond new.path) (λ r. record_cmp r new ≡ Greater)
          (λ r b. beyond_greater new.path r b new refl) ys beyond);
    }

    pub stage_front : (c : Change) → ((rs : List Record) → applied_one c rs ≡ staged new rs)
        → ((r : Record) → takes_out c r ≡ is_displaced new r) → (now : List Record) → now ≡ staged new xs
        → IsAppliedTo (c ∷ []) (xs ++ ys) (now ++ ys)
    stage_front c e f now is =
        let q = put_any new xs front in
        let p = wider q.0 q.1 in
        let keep : Record → Bool = λ r. not (is_other new r) in
        let whole : now ++ ys ≡ filter keep (q.0 ++ ys) =
        ap (λ l. l ++ ys) (is ∙ sym (left_staged new xs q.0 q.1 (filter keep q.0) refl))
        ∙ ap (λ l. filter keep q.0 ++ l) (sym stay) ∙ sym (filter-append keep q.0 ys) in
        one_staged c (xs ++ ys) (now ++ ys) new (e (xs ++ ys)) f
        (staged_into new (xs ++ ys) (q.0 ++ ys) (now ++ ys) o p
        (left_staged new (xs ++ ys) (q.0 ++ ys) p (now ++ ys) whole))

  module _ (path : List ℕ) (beyond : All (IsBeyond path) ys) where
    pub unstage_front : (c : Change) → ((rs : List Record) → applied_one c rs ≡ unstaged path rs)
        → ((r : Record) → takes_out c r ≡ is_at path r) → (now : List Record) → now ≡ unstaged path xs
        → IsAppliedTo (c ∷ []) (xs ++ ys) (now ++ ys)
    unfolding unstaged
    unstage_front c e f now is =
        let keep : Record → Bool = λ r. not (is_at path r) in
        one_unstaged c (xs ++ ys) (now ++ ys) path (e (xs ++ ys)) f
        (unstaged_from path (xs ++ ys) o (now ++ ys) (ap (λ l. l ++ ys) is
        ∙ ap (λ l. filter keep xs ++ l) (sym (filter_all keep ys
        (All-weaker (IsBeyond path) (λ r. keep r ≡ true) (λ r b. ap not (beyond_at path r b)) ys beyond)))
        ∙ sym (filter-append keep xs ys)))

pub change_front : (c : Change) (xs ys now : List Record) → IsStrictlyOrdered (xs ++ ys) → IsStrictlyOrdered xs
    → All (IsBeyond (change_path c)) ys → now ≡ applied_one c xs → IsAppliedTo (c ∷ []) (xs ++ ys) (now ++ ys)
change_front (Stage entry path) xs ys now o f b e =
    stage_front xs ys o f (with_path path.now entry) b (Stage entry path) (λ rs. refl) (λ r. refl) now e
change_front (Unstage path) xs ys now o f b e =
    unstage_front xs ys o f path.now b (Unstage path) (λ rs. refl) (λ r. refl) now e
