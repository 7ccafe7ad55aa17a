-- Entries that are passed by on the way to a path, and those beyond.
use Rattle.std.proofs.Common.{◌≡◌, ◌≢◌, ℕ, ◌+◌, ◌<◌, ◌≤◌, true, false, List, [], ◌∷◌, ◌++◌, All, length, get_or, take}
use Rattle.std.proofs.Common.{drop, map, refl, sym, ap, ◌∙◌, subst, arith, append_assoc}
use Rattle.std.specs.List.{AllPairs}
use Rattle.std.specs.Ordering.{is_eq, is_le, is_lt}
use Rattle.std.specs.declared.cmp.Ordering.{Ordering}
use Rattle.std.specs.declared.cmp.Ordering.TheVariants.{Less, Equal, Greater}
use Rattle.std.proofs.Math.Seq.{drop-append_seam, take-append_seam}
use Rattle.std.proofs.lemmas.List.{drop-map, get_or-drop, length-append, length-drop, length-map, map-append, take-append-drop, take_all}
use Rattle.std.proofs.lemmas.List.Elements.{All-drop, All-weaker}
use Rattle.std.proofs.lemmas.List.{take_more}
use Rattle.entry_list.specs.declared.Entry.{Entry}
use Rattle.entry_list.specs.Order.{IsOrderedByPath, IsStrictlyOrdered, path_cmp, record_cmp}
use Rattle.entry_list.specs.Record.{IsPlaced, Record, record_in, records_in}
use Rattle.entry_list.proofs.Orders.{same_path}
use Rattle.entry_list.proofs.Storing.{records_grow}
use Rattle.base_search.specs.Halving.{IsPartedAt}
use Rattle.base_search.specs.Prefix.{prefix_cmp}
use Rattle.base_search.proofs.Parting.{greater_from}
use Rattle.base_search.proofs.Prefixes.{below_by_prefix}
use Rattle.entry_lookup.specs.Range.{begins_with}
use Rattle.entry_lookup.proofs.Lookup.{ordered_by_path}
use Rattle.entry_lookup.proofs.Pairs.{pairs_drop, pairs_take}
use Rattle.entry_lookup.proofs.RunsFound.{begins_is, within_map}
use Rattle.entry_lookup.proofs.TableMade.{same_to}
use Rattle.entry_edit.specs.Changes.{IsAppliedTo, applied, change_path}
use Rattle.entry_edit.specs.EditSteps.{IsBeyond}
use Rattle.entry_edit.specs.declared.change.Change.{Change}
use Rattle.entry_edit.proofs.Applied.{applied_then}
use Rattle.entry_edit.proofs.Splits.{change_front}

greater_is : (o : Ordering) → o ≢ Less → o ≢ Equal → o ≡ Greater
greater_is Less a b = absurd (a refl)
greater_is Equal a b = absurd (b refl)
greater_is Greater a b = refl

own_begins : (path : List ℕ) (r : Record) → r.path ≡ path → begins_with path r ≡ true
own_begins path r e = same_to path (take (length path) r.path)
    (sym (ap (take (length path)) e ∙ take_all (length path) path (omega arith)))

not_less : (o : Ordering) → is_lt o ≡ false → o ≢ Less
not_less o e f = let both : true ≡ false = sym (ap is_lt f) ∙ e in cc

-- those after the index at which the results part
pub beyond_parted : (path : List ℕ) (rs : List Record) (k : ℕ)
    → IsPartedAt true (map (λ r. prefix_cmp path r.path) rs) k → All (IsBeyond path) (drop k rs)
beyond_parted path rs k p j d within =
    let f : Record → Ordering = λ r. prefix_cmp path r.path in
    let n : k + j < length rs = omega (arith, within, length-drop k rs) in
    let r = get_or rs (k + j) d in
    let le : is_le (f r) ≡ false =
    within_map is_le f (λ r. is_le (f r)) false rs k (length (map f rs)) (λ r. refl) p.behind (k + j) d (omega arith)
    (omega (arith, length-map rs f)) in
    let after : f r ≡ Greater = greater_from (f r) le in
    let apart : begins_with path r ≡ false = sym (begins_is path r) ∙ ap is_eq after in
    let b : IsBeyond path r = record {
      greater = greater_is (path_cmp r.path path) (not_less _ (below_by_prefix r.path path ∙ ap is_lt after))
          (λ e. let both : true ≡ false = sym (own_begins path r ((same_path r.path path).0 e)) ∙ apart in cc);
      apart = apart;
    } in
    subst (IsBeyond path) (sym (get_or-drop k rs j d)) b

-- ---- a change of what is done and what was passed by

pub placed_wider : (s more t : List ℕ) (es : List Entry) → t ≡ s ++ more → All (IsPlaced (length s)) es
    → All (IsPlaced (length t)) es
placed_wider s more t es e h = All-weaker (IsPlaced (length s)) (IsPlaced (length t))
    (λ x p. let n : length s ≤ length t = omega (arith, ap length e, length-append s more) in
    record { inside = omega (arith, p.inside) }) es h

pub back_placed : (len : ℕ) (xs ys : List Entry) → All (IsPlaced len) (xs ++ ys) → All (IsPlaced len) ys
back_placed len xs ys h =
    subst (All (IsPlaced len)) (drop-append_seam xs ys) (All-drop (IsPlaced len) (length xs) (xs ++ ys) h)

pub front_ordered : (xs ys : List Record) → IsStrictlyOrdered (xs ++ ys) → IsStrictlyOrdered xs
front_ordered xs ys o = record {
  less = subst (AllPairs (λ r q. record_cmp r q ≡ Less)) (take-append_seam xs ys)
      (pairs_take (λ r q. record_cmp r q ≡ Less) (length xs) (xs ++ ys) o.less);
}

pub back_ordered : (xs ys : List Record) → IsStrictlyOrdered (xs ++ ys) → IsStrictlyOrdered ys
back_ordered xs ys o = record {
  less = subst (AllPairs (λ r q. record_cmp r q ≡ Less)) (drop-append_seam xs ys)
      (pairs_drop (λ r q. record_cmp r q ≡ Less) (length xs) (xs ++ ys) o.less);
}

module _ (c : Change) (s more t : List ℕ) (done rest mid now : List Entry) (k : ℕ) (grown : t ≡ s ++ more)
    (placed : All (IsPlaced (length s)) rest) (passes : mid ≡ done ++ take k rest) where
  split_here : done ++ rest ≡ mid ++ drop k rest
  split_here = ap (λ l. done ++ l) (sym (take-append-drop k rest)) ∙ sym (append_assoc done (take k rest) (drop k rest))
      ∙ ap (λ l. l ++ drop k rest) (sym passes)

  pub next_applied : (IsOrderedByPath (records_in s rest) → All (IsBeyond (change_path c)) (drop k (records_in s rest)))
      → (IsStrictlyOrdered (records_in s mid) → IsAppliedTo (c ∷ []) (records_in s mid) (records_in t now))
      → IsStrictlyOrdered (records_in s (done ++ rest))
      → IsAppliedTo (c ∷ []) (records_in s (done ++ rest)) (records_in t (now ++ drop k rest))
  unfolding applied
  next_applied beyond one o =
      let ordered = ordered_by_path (records_in s rest) (back_ordered (records_in s done) (records_in s rest)
      (subst IsStrictlyOrdered (map-append (record_in s) done rest) o)) in
      let behind = drop k rest in
      let old : records_in s (done ++ rest) ≡ records_in s mid ++ records_in s behind =
      ap (records_in s) split_here ∙ map-append (record_in s) mid behind in
      let same : records_in t behind ≡ records_in s behind =
      ap (λ u. records_in u behind) grown
      ∙ records_grow s more behind (All-drop (IsPlaced (length s)) k rest placed) in
      let new : records_in t (now ++ behind) ≡ records_in t now ++ records_in s behind =
      map-append (record_in t) now behind ∙ ap (λ l. records_in t now ++ l) same in
      let whole : IsStrictlyOrdered (records_in s mid ++ records_in s behind) = subst IsStrictlyOrdered old o in
      let front = front_ordered (records_in s mid) (records_in s behind) whole in
      let b : All (IsBeyond (change_path c)) (records_in s behind) =
      subst (All (IsBeyond (change_path c))) (drop-map (record_in s) k rest) (beyond ordered) in
      subst (λ l. IsAppliedTo (c ∷ []) l (records_in t (now ++ behind))) (sym old)
      (subst (IsAppliedTo (c ∷ []) (records_in s mid ++ records_in s behind)) (sym new)
      (change_front c (records_in s mid) (records_in s behind) (records_in t now) whole front b (one front).is))

-- ---- the loop over the changes

pub same_entry : (x y : Entry) → (y.stat ≡ x.stat) × ((y.id ≡ x.id)
    × ((y.flags ≡ x.flags) × ((y.mode ≡ x.mode) × (y.path ≡ x.path)))) → y ≡ x
same_entry x y e = λ i. record {
  stat = e.0 i;
  id = e.1.0 i;
  flags = e.1.1.0 i;
  mode = e.1.1.1.0 i;
  path = e.1.1.1.1 i;
}

module _ (cs : List Change) (i : ℕ) (old : List Record) (s : List ℕ) (done rest : List Entry)
    (p : IsAppliedTo (take i cs) old (records_in s (done ++ rest))) where
  pub one_more : (d : Change) (t : List ℕ) (now next : List Entry) → i < length cs
      → (IsStrictlyOrdered (records_in s (done ++ rest)) → IsAppliedTo (get_or cs i d ∷ [])
      (records_in s (done ++ rest)) (records_in t (now ++ next)))
      → IsAppliedTo (take (i + 1) cs) old (records_in t (now ++ next))
  one_more d t now next within h =
      subst (λ l. IsAppliedTo l old (records_in t (now ++ next))) (sym (take_more cs i d within))
      (applied_then (take i cs) (get_or cs i d ∷ []) old _ _ p (h p.ordered))

  pub all_made : (now : List Entry) → length cs ≤ i → now ≡ done ++ rest → IsAppliedTo cs old (records_in s now)
  all_made now l e = subst (λ es. IsAppliedTo cs old (records_in s es)) (sym e)
      (subst (λ l. IsAppliedTo l old (records_in s (done ++ rest))) (take_all i cs l) p)
