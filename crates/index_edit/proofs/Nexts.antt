-- What one change takes out of entries that are done and the rest, and what several do.
use Rattle.std.proofs.Common.{◌≡◌, ◌≢◌, ℕ, ◌+◌, ◌-◌, ◌<◌, arith, get_or, length, Bool, true, false, ◌&&◌, ◌||◌, ◌==◌, not, List, [], ◌∷◌, ◌++◌, All, take, drop}
use Rattle.std.proofs.Common.{Option, refl, sym, ap, ◌∙◌, subst, append-nil, append_assoc}
use Rattle.std.proofs.lemmas.List.{drop-map, get_or_default, map-append, take-append-drop, take_more}
use Rattle.std.proofs.lemmas.List.Elements.{All-append, All-take, All-weaker}
use Rattle.entry_list.specs.Order.{IsOrderedByPath, IsStrictlyOrdered, record_stage}
use Rattle.entry_list.specs.Record.{IsPlaced, Record, record_in, records_in, with_path}
use Rattle.entry_list.specs.declared.Entry.{Entry}
use Rattle.entry_lookup.proofs.Lookup.{ordered_by_path}
use Rattle.entry_lookup.specs.Closest.{is_below}
use Rattle.entry_lookup.specs.Lookup.{has_key}
use Rattle.entry_lookup.specs.Range.{is_at}
use Rattle.entry_fields.specs.Flags.{stage_number}
use Rattle.entry_edit.proofs.Applied.{applied-append}
use Rattle.entry_edit.proofs.Clears.{clear_applied, clear_split, clear_unknown}
use Rattle.entry_edit.proofs.Passes.{back_ordered, front_ordered}
use Rattle.entry_edit.proofs.Splits.{beyond_above, beyond_at, beyond_below}
use Rattle.entry_edit.specs.Changes.{IsAppliedTo, applied, applied_one, change_path}
use Rattle.entry_edit.specs.ClearSteps.{IsClearAfter, IsClearFor}
use Rattle.entry_edit.specs.EditSteps.{IsBeyond}
use Rattle.entry_edit.specs.declared.change.Change.{Change}
use Rattle.entry_edit.specs.declared.change.Change.TheVariants.{Stage, Unstage}
use Rattle.ext_small.specs.ResolveUndo.{PathStages}
use Rattle.index_edit.specs.Undone.{all_recorded, is_lost, lost, undone}
use Rattle.index_edit.proofs.Losings.{filter_none, lost-append}

-- ---- entries that a change's path doesn't concern are unchanged

none_goes : (z a m s x y k : Bool) → a ≡ false → x ≡ false → y ≡ false
    → (z && (((a && m) || (s && (x || y))) && k)) ≡ false
none_goes z a m s x y k e f g = rw (e, f, g) (by z s)
  where
    by : (z s : Bool) → (z && ((false || (s && false)) && k)) ≡ false
    by false s = refl
    by true true = refl
    by true false = refl

not_there : (z a : Bool) → a ≡ false → (z && (a && not false)) ≡ false
not_there true a e = rw e refl
not_there false a e = refl

beyond_lost : (c : Change) (r : Record) → IsBeyond (change_path c) r → is_lost c r ≡ false
beyond_lost (Stage entry path) r b =
    let new = with_path path.now entry in
    none_goes (not (record_stage r == 0)) (is_at new.path r) ((record_stage new == 0) || (record_stage r == record_stage new))
    (record_stage r == record_stage new) (is_below new.path r) (is_below r.path new)
    (not (has_key path.now (stage_number entry.flags.0) r))
    (beyond_at new.path r b) (beyond_below new.path r b) (beyond_above new.path r b new refl)
beyond_lost (Unstage path) r b = not_there (not (record_stage r == 0)) (is_at path.now r) (beyond_at path.now r b)

pub mid_placed : (len : ℕ) (done rest mid : List Entry) (k : ℕ) → mid ≡ done ++ take k rest → All (IsPlaced len) done
    → All (IsPlaced len) rest → All (IsPlaced len) mid
mid_placed len done rest mid k passes here behind = subst (All (IsPlaced len)) (sym passes)
    (All-append (IsPlaced len) done (take k rest) here (All-take (IsPlaced len) k rest behind))

module _ (c : Change) (s : List ℕ) (done rest mid : List Entry) (k : ℕ) (passes : mid ≡ done ++ take k rest)
    (beyond : IsOrderedByPath (records_in s rest) → All (IsBeyond (change_path c)) (drop k (records_in s rest)))
    (o : IsStrictlyOrdered (records_in s (done ++ rest))) where
  split_here : done ++ rest ≡ mid ++ drop k rest
  split_here = ap (λ l. done ++ l) (sym (take-append-drop k rest)) ∙ sym (append_assoc done (take k rest) (drop k rest))
      ∙ ap (λ l. l ++ drop k rest) (sym passes)

  split_records : records_in s (done ++ rest) ≡ records_in s mid ++ drop k (records_in s rest)
  split_records = ap (records_in s) split_here ∙ map-append (record_in s) mid (drop k rest)
      ∙ ap (λ l. records_in s mid ++ l) (sym (drop-map (record_in s) k rest))

  pub mid_ordered : IsStrictlyOrdered (records_in s mid)
  mid_ordered = front_ordered (records_in s mid) (drop k (records_in s rest)) (subst IsStrictlyOrdered split_records o)

  pub mid_clear : (known : ℕ) → IsClearFor known c (records_in s (done ++ rest)) → IsClearFor known c (records_in s mid)
  mid_clear known h = clear_split known c (records_in s mid) (drop k (records_in s rest))
      (subst (IsClearFor known c) split_records h)

  -- so all that goes goes from those that are done
  pub next_lost : lost c (records_in s mid) ≡ lost c (records_in s (done ++ rest))
  next_lost =
      let behind = drop k (records_in s rest) in
      let ordered = ordered_by_path (records_in s rest) (back_ordered (records_in s done) (records_in s rest)
      (subst IsStrictlyOrdered (map-append (record_in s) done rest) o)) in
      let none = filter_none (is_lost c) behind
      (All-weaker (IsBeyond (change_path c)) (λ r. is_lost c r ≡ false) (beyond_lost c) behind (beyond ordered)) in
      sym (ap (lost c) split_records ∙ lost-append c (records_in s mid) behind
      ∙ ap (λ l. lost c (records_in s mid) ++ l) none ∙ append-nil (lost c (records_in s mid)))

-- ---- what is known of the next one

pub known_first : (c : Change) (cs : List Change) (place : ℕ) → place ≡ 0 → (rs : List Record)
    → IsClearFor 0 c (applied (take place cs) rs)
known_first c cs place e rs = clear_unknown c (applied (take place cs) rs)

pub known_after : (cs : List Change) (place : ℕ) (b z d : Change) (known : ℕ) → place ≢ 0 → place < length cs
    → ((rs : List Record) → IsClearAfter (get_or cs (place - 1) b) rs → IsClearFor known (get_or cs place z) rs)
    → (rs : List Record) → IsClearFor known (get_or cs place d) (applied (take place cs) rs)
unfolding applied
known_after cs place b z d known some within h rs =
    let c = get_or cs (place - 1) b in
    let n : (place - 1) + 1 ≡ place = omega arith in
    let is : take place cs ≡ take (place - 1) cs ++ c ∷ [] =
    ap (λ k. take k cs) (sym n) ∙ take_more cs (place - 1) b (omega arith) in
    subst (λ x. IsClearFor known x (applied (take place cs) rs)) (get_or_default cs place z d within)
    (subst (IsClearFor known (get_or cs place z))
    (sym (ap (λ l. applied l rs) is ∙ applied-append (take (place - 1) cs) (c ∷ []) rs))
    (h (applied_one c (applied (take (place - 1) cs) rs)) (clear_applied c (applied (take (place - 1) cs) rs))))

-- ---- several changes

pub undone_none : (rs : List Record) (undo : Option (List PathStages)) → undo ≡ undone [] rs undo
unfolding undone
undone_none rs undo = refl

pub undone-append : (cs ds : List Change) (rs : List Record) (undo : Option (List PathStages))
    → undone (cs ++ ds) rs undo ≡ undone ds (applied cs rs) (undone cs rs undo)
unfolding undone applied
undone-append [] ds rs undo = refl
undone-append (c ∷ cs) ds rs undo = undone-append cs ds _ _

pub undone_one : (c : Change) (rs : List Record) (undo : Option (List PathStages))
    → undone (c ∷ []) rs undo ≡ all_recorded (lost c rs) undo
unfolding undone
undone_one c rs undo = refl

-- one change more
pub undone_then : (cs : List Change) (c : Change) (old mid : List Record) (undo before now : Option (List PathStages))
    → mid ≡ applied cs old → before ≡ undone cs old undo → now ≡ all_recorded (lost c mid) before
    → now ≡ undone (cs ++ c ∷ []) old undo
undone_then cs c old mid undo before now is h one =
    one ∙ ap (λ rs. all_recorded (lost c rs) before) is ∙ ap (all_recorded (lost c (applied cs old))) h
    ∙ sym (undone_one c (applied cs old) (undone cs old undo)) ∙ sym (undone-append cs (c ∷ []) old undo)

module _ (cs : List Change) (i : ℕ) (old : List Record) (s : List ℕ) (done rest : List Entry)
    (p : IsAppliedTo (take i cs) old (records_in s (done ++ rest))) where
  pub one_clear : (d : Change) (known : ℕ) → IsClearFor known d (applied (take i cs) old)
      → IsClearFor known d (records_in s (done ++ rest))
  one_clear d known h = subst (IsClearFor known d) (sym p.is) h

  pub one_more_undone : (d : Change) (undo before now : Option (List PathStages)) → i < length cs
      → before ≡ undone (take i cs) old undo
      → (IsStrictlyOrdered (records_in s (done ++ rest))
      → now ≡ all_recorded (lost (get_or cs i d) (records_in s (done ++ rest))) before)
      → now ≡ undone (take (i + 1) cs) old undo
  one_more_undone d undo before now within b h =
      undone_then (take i cs) (get_or cs i d) old _ undo before now p.is b (h p.ordered)
      ∙ ap (λ l. undone l old undo) (sym (take_more cs i d within))
