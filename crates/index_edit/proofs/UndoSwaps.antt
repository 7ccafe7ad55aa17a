-- Two changes of paths apart take the same sides out in either order.
use Rattle.std.proofs.Common.{◌≡◌, ◌≢◌, ℕ, Bool, true, false, ◌&&◌, ◌||◌, ◌==◌, not, List, [], ◌∷◌, ◌++◌, All, filter, take, drop}
use Rattle.std.proofs.Common.{Option, Some, refl, sym, ap, ◌∙◌, arith}
use Rattle.std.proofs.lemmas.List.{take-append-drop}
use Rattle.std.proofs.lemmas.List.Elements.{All-cons, All-head, All-tail}
use Rattle.std.proofs.lemmas.List.Elements.{filter-append, filter_agree}
use Rattle.std.specs.List.{Contains}
use Rattle.std.specs.Option.{unwrap_or}
use Rattle.std.specs.declared.cmp.Ordering.TheVariants.{Less}
use Rattle.entry_list.specs.Order.{IsStrictlyOrdered, record_cmp, record_stage}
use Rattle.entry_list.specs.Record.{Record, with_path}
use Rattle.entry_list.proofs.Orders.{equal_key}
use Rattle.entry_lookup.specs.Lookup.{insertion_of}
use Rattle.entry_lookup.specs.Range.{is_at}
use Rattle.entry_lookup.proofs.Pairs.{contains_head, contains_tail, pairs_head, pairs_tail}
use Rattle.entry_fields.specs.Flags.{stage_number}
use Rattle.entry_edit.proofs.Swaps.{AreApart, apart_back, away, stays}
use Rattle.entry_edit.proofs.Ways.{key_from}
use Rattle.entry_edit.specs.Changes.{applied_one, change_path, takes_out}
use Rattle.entry_edit.specs.Edits.{is_displaced, staged, unstaged}
use Rattle.entry_edit.specs.declared.change.Change.{Change}
use Rattle.entry_edit.specs.declared.change.Change.TheVariants as changes
use Rattle.ext_small.specs.ResolveUndo.{PathStages}
use Rattle.index_edit.specs.Recorded.{recorded}
use Rattle.index_edit.specs.Dirty.{is_replaced}
use Rattle.index_edit.specs.Undone.{all_recorded, is_lost, lost}
use Rattle.index_edit.proofs.Sides.{AreSidesApart, recorded_swap}

-- ---- filters

filter_both : {X : Type 0} (p q : X → Bool) (xs : List X) → filter p (filter q xs) ≡ filter (λ x. p x && q x) xs
filter_both p q [] = refl
filter_both p q (x ∷ xs) = by (q x) (p x) refl refl (filter_both p q xs)
  where
    by : (b a : Bool) → q x ≡ b → p x ≡ a → filter p (filter q xs) ≡ filter (λ x. p x && q x) xs
        → filter p (filter q (x ∷ xs)) ≡ filter (λ x. p x && q x) (x ∷ xs)
    by true true e f rest = rw (e, f) (ap (λ l. x ∷ l) rest)
    by true false e f rest = rw (e, f) rest
    by false true e f rest = rw (e, f) rest
    by false false e f rest = rw (e, f) rest

filter_around : {X : Type 0} (p : X → Bool) (xs ys : List X) (x : X) → p x ≡ false
    → filter p (xs ++ x ∷ ys) ≡ filter p (xs ++ ys)
filter_around p xs ys x e =
    filter-append p xs (x ∷ ys) ∙ rw e (sym (filter-append p xs ys))

-- ---- what a change leaves of the sides that another takes out

not_lost : (z k : Bool) → (not z && (false && k)) ≡ false
not_lost true k = refl
not_lost false k = refl

lost_after : (c d : Change) (rs : List Record) → AreApart c d
    → lost d (applied_one c rs) ≡ filter (λ r. is_lost d r && not (takes_out c r)) rs
unfolding staged unstaged
lost_after (changes.Stage entry path) d rs a =
    let new = with_path path.now entry in
    let ks = filter (λ r. not (is_displaced new r)) rs in
    let i = insertion_of new.path (record_stage new) ks in
    let none : is_lost d new ≡ false =
    rw (stays (changes.Stage entry path) d a new refl) (not_lost (record_stage new == 0) (not (is_replaced d new))) in
    filter_around (is_lost d) (take i ks) (drop i ks) new none
    ∙ ap (filter (is_lost d)) (take-append-drop i ks) ∙ filter_both (is_lost d) (λ r. not (is_displaced new r)) rs
lost_after (changes.Unstage path) d rs a = filter_both (is_lost d) (λ r. not (is_at path.now r)) rs

-- ---- what both take out is a side that goes by either

replaced_path : (c : Change) (r : Record) → is_replaced c r ≡ true → r.path ≡ change_path c
replaced_path (changes.Stage entry path) r t = (key_from path.now (stage_number entry.flags.0) r t).path_is
replaced_path (changes.Unstage path) r t = cc

goes : (z t p : Bool) → (z && (t && p)) ≡ true → (z ≡ true) × (t ≡ true)
goes true true p h = (refl, refl)
goes true false p h = cc
goes false t p h = cc

same_lost : (c d : Change) → AreApart c d → (r : Record)
    → (is_lost d r && not (takes_out c r)) ≡ (is_lost d r && not (is_lost c r))
same_lost c d a r = by (is_lost d r) (takes_out c r) (is_replaced c r) refl refl refl
  where
    both : (z t p : Bool) → (z ≡ true) → t ≡ true → p ≡ false → (true && not t) ≡ (true && not (z && (t && not p)))
    both z t p e f g = rw (e, f, g) refl

    none : (z p : Bool) → not false ≡ not (z && (false && p))
    none true p = refl
    none false p = refl

    by : (l t p : Bool) → is_lost d r ≡ l → takes_out c r ≡ t → is_replaced c r ≡ p
        → (l && not (takes_out c r)) ≡ (l && not (is_lost c r))
    by false t p e f g = refl
    by true false p e f g = rw f (none (not (record_stage r == 0)) (not (is_replaced c r)))
    by true true true e f g =
        let out = away c d a r (replaced_path c r g) in
        let there = (goes (not (record_stage r == 0)) (takes_out d r) (not (is_replaced d r)) e).1 in
        let no : true ≡ false = sym there ∙ out in
        cc
    by true true false e f g =
        both (not (record_stage r == 0)) (takes_out c r) (is_replaced c r)
        (goes (not (record_stage r == 0)) (takes_out d r) (not (is_replaced d r)) e).0 f g

-- ---- recorded one after another

through : (r : Record) (xs : List Record) (undo : Option (List PathStages)) → All (AreSidesApart r) xs
    → all_recorded xs (Some (recorded r (unwrap_or undo [])))
    ≡ Some (recorded r (unwrap_or (all_recorded xs undo) []))
unfolding all_recorded
through r [] undo h = refl
through r (x ∷ xs) undo h =
    let ps = unwrap_or undo [] in
    ap (λ l. all_recorded xs (Some l)) (recorded_swap r x ps (All-head (AreSidesApart r) x xs h))
    ∙ through r xs (Some (recorded x ps)) (All-tail (AreSidesApart r) x xs h)

abbrev Below : Record → Record → Type 0
Below r q = record_cmp r q ≡ Less

side : (z b : Bool) → (not z && b) ≡ true → z ≡ false
side true b h = cc
side false b h = refl

not_zero : (n : ℕ) → (n == 0) ≡ false → n ≢ 0
not_zero n h e = let both : true ≡ false = sym (ap (λ m. m == 0) e) ∙ h in cc

pub lost_side : (c : Change) (r : Record) → is_lost c r ≡ true → record_stage r ≢ 0
lost_side c r h = not_zero _ (side (record_stage r == 0) (takes_out c r && not (is_replaced c r)) h)

sides_apart : (r q : Record) → Below r q → record_stage r ≢ 0 → record_stage q ≢ 0 → AreSidesApart r q
sides_apart r q less a b = record {
  first = a;
  second = b;
  apart = λ e f. let same = sym less ∙ equal_key q.path (record_stage q) r e f in cc;
}

module _ (P Q : Record → Bool) (sp : (r : Record) → P r ≡ true → record_stage r ≢ 0)
    (sq : (r : Record) → Q r ≡ true → record_stage r ≢ 0) where
  abbrev Rest : List Record → Option (List PathStages) → Type 0
  Rest rs undo = all_recorded (filter (λ r. Q r && not (P r)) rs) (all_recorded (filter P rs) undo)
      ≡ all_recorded (filter (λ r. P r || Q r) rs) undo

  later : (r : Record) (rs : List Record) → record_stage r ≢ 0 → ((q : Record) → Contains rs q → Below r q)
      → All (AreSidesApart r) (filter P rs)
  later r [] n h = λ k d l. absurd (omega arith)
  later r (q ∷ rs) n h = by (P q) refl (later r rs n (λ z c. h z (contains_tail q rs z c)))
    where
      by : (b : Bool) → P q ≡ b → All (AreSidesApart r) (filter P rs) → All (AreSidesApart r) (filter P (q ∷ rs))
      by true e rest = rw e (All-cons (AreSidesApart r) q (filter P rs)
          (sides_apart r q (h q (contains_head q rs)) n (sp q e)) rest)
      by false e rest = rw e rest

  both_recorded : (rs : List Record) (undo : Option (List PathStages)) → IsStrictlyOrdered rs → Rest rs undo
  unfolding all_recorded
  both_recorded [] undo o = refl
  both_recorded (r ∷ rs) undo o =
      by (P r) (Q r) refl refl (λ u. both_recorded rs u (record { less = pairs_tail Below r rs o.less }))
    where
      by : (a b : Bool) → P r ≡ a → Q r ≡ b → ((u : Option (List PathStages)) → Rest rs u) → Rest (r ∷ rs) undo
      by true true e f rest = rw (e, f) (rest _)
      by true false e f rest = rw (e, f) (rest _)
      by false true e f rest =
          let n = sq r f in
          rw (e, f) (ap (all_recorded (filter (λ r. Q r && not (P r)) rs))
          (sym (through r (filter P rs) undo (later r rs n (pairs_head Below r rs o.less)))) ∙ rest _)
      by false false e f rest = rw (e, f) (rest _)

or_back : (a b : Bool) → (a || b) ≡ (b || a)
or_back true true = refl
or_back true false = refl
or_back false true = refl
or_back false false = refl

module _ (c d : Change) (rs : List Record) (a : AreApart c d) (o : IsStrictlyOrdered rs) where
  one_way : (undo : Option (List PathStages)) → all_recorded (lost d (applied_one c rs)) (all_recorded (lost c rs) undo)
      ≡ all_recorded (filter (λ r. is_lost c r || is_lost d r) rs) undo
  one_way undo =
      ap (λ l. all_recorded l (all_recorded (lost c rs) undo)) (lost_after c d rs a
      ∙ filter_agree (λ r. is_lost d r && not (takes_out c r)) (λ r. is_lost d r && not (is_lost c r)) (same_lost c d a) rs)
      ∙ both_recorded (is_lost c) (is_lost d) (lost_side c) (lost_side d) rs undo o

pub undone_swap : (c d : Change) (rs : List Record) (undo : Option (List PathStages)) → AreApart c d → IsStrictlyOrdered rs
    → all_recorded (lost d (applied_one c rs)) (all_recorded (lost c rs) undo)
    ≡ all_recorded (lost c (applied_one d rs)) (all_recorded (lost d rs) undo)
undone_swap c d rs undo a o =
    one_way c d rs a o undo
    ∙ ap (λ l. all_recorded l undo) (filter_agree (λ r. is_lost c r || is_lost d r) (λ r. is_lost d r || is_lost c r)
    (λ r. or_back (is_lost c r) (is_lost d r)) rs)
    ∙ sym (one_way d c rs (apart_back c d a) o undo)
