-- A record at its place among others.
use Rattle.std.proofs.Common.{◌≡◌, ◌≢◌, ℕ, suc, ◌+◌, ◌<◌, ◌≤◌, List, [], ◌∷◌, ◌++◌, All, length, get_or, take, drop}
use Rattle.std.proofs.Common.{map}
use Rattle.std.proofs.Common.{Option, Some, None, Result, Ok, Err, IfErr, IfOk, refl, sym, ap, ◌∙◌, subst, arith}
use Rattle.std.proofs.Common.{length-take}
use Rattle.std.proofs.Math.ListN.{set}
use Rattle.std.proofs.Math.Seq.{drop-cons}
use Rattle.std.proofs.lemmas.List.{take-append-drop, take-set, drop-set, length-drop, get_or-take, get_or-drop}
use Rattle.std.proofs.lemmas.List.{get_or_default}
use Rattle.std.proofs.lemmas.List.{take-map, drop-map, map-append, length-append, get_or_append_left, get_or_at}
use Rattle.std.proofs.lemmas.List.{map-set}
use Rattle.std.proofs.lemmas.List.Elements.{All-append, All-push, All-take, All-drop, All-cons}
use Rattle.std.specs.List.{insert}
use Rattle.std.specs.Option.{ok_or}
use Rattle.std.specs.Ordering.{ordering_reverse}
use Rattle.std.specs.declared.cmp.Ordering.{Ordering}
use Rattle.std.specs.declared.cmp.Ordering.TheVariants.{Less, Equal, Greater}
use Rattle.entry_list.specs.declared.Entry.{Entry}
use Rattle.entry_list.specs.Order.{IsStrictlyOrdered, key_cmp, record_cmp, record_stage}
use Rattle.entry_list.specs.Record.{IsPlaced, Record, made_entry, record_in, records_in, with_path}
use Rattle.entry_list.specs.declared.Pathless.{Pathless}
use Rattle.entry_fields.specs.Flags.{stage_number}
use Rattle.entry_list.proofs.Orders.{own_key, records_total}
use Rattle.entry_lookup.specs.Lookup.{HasKey, IsKeyAt, insertion_of, record_index}
use Rattle.entry_lookup.proofs.Insertion.{insertion_of-splits}
use Rattle.entry_list.specs.Held.{Appends}
use Rattle.entry_list.proofs.Storing.{records_grow}
use Rattle.entry_lookup.proofs.Lookup.{entry_key, err_is, key_place, ok_is}
use Rattle.entry_edit.specs.EditSteps.{IsPutInto}

set_is : {A : Type 0} (xs : List A) (i : ℕ) (y : A) → i < length xs → set xs i y ≡ take i xs ++ y ∷ drop (suc i) xs
set_is xs i y h =
    let e : i + 1 ≡ suc i = omega arith in
    sym (take-append-drop i (set xs i y))
    ∙ ap (λ l. l ++ drop i (set xs i y)) (take-set xs i y)
    ∙ ap (λ l. take i xs ++ l) (drop-set xs i y h ∙ ap (λ n. y ∷ drop n xs) e)

around : {A : Type 0} (xs : List A) (i : ℕ) (d : A) → i < length xs
    → xs ≡ take i xs ++ ((get_or xs i d ∷ []) ++ drop (suc i) xs)
around xs i d h = sym (take-append-drop i xs) ∙ ap (λ l. take i xs ++ l) (drop-cons xs i d h)

-- ---- over the one that has the path and the stage

module _ (new : Record) (rs : List Record) (i : ℕ) (o : IsStrictlyOrdered rs)
    (h : IsKeyAt new.path (record_stage new) rs i) where
  like_here : (d r : Record) → record_cmp r (get_or rs i d) ≡ record_cmp r new
  like_here d r =
      let k = h.here d in
      ap (λ p. key_cmp p (record_stage (get_or rs i d)) r) k.path_is ∙ ap (λ s. key_cmp new.path s r) k.stage_is

  before : All (λ r. record_cmp r new ≡ Less) (take i rs)
  before k d within =
      let n : k < i = omega (arith, within, length-take i rs) in
      rw (get_or-take i rs k d n) (sym (like_here d (get_or rs k d)) ∙ o.less k i d n h.in_range)

  after : All (λ r. record_cmp r new ≡ Greater) (drop (suc i) rs)
  after k d within =
      let n : suc i + k < length rs = omega (arith, within, length-drop (suc i) rs) in
      let less : record_cmp (get_or rs i d) (get_or rs (suc i + k) d) ≡ Less =
      o.less i (suc i + k) d (omega arith) n in
      rw (get_or-drop (suc i) rs k d)
      (sym (like_here d (get_or rs (suc i + k) d))
      ∙ records_total.antisymm (get_or rs (suc i + k) d) (get_or rs i d)
      ∙ ap ordering_reverse less)

  pub put_over : IsPutInto new rs (set rs i new)
  put_over = record {
    front = take i rs;
    gone = get_or rs i new ∷ [];
    behind = drop (suc i) rs;
    was = around rs i new h.in_range;
    is = set_is rs i new h.in_range;
    below = before;
    same = All-push (HasKey new.path (record_stage new)) [] (get_or rs i new) (λ k d l. absurd (omega arith))
        (h.here new);
    above = after;
  }

-- ---- between those below and those above

not_found : (p : Option ℕ) (place i : ℕ) → Err place ≡ ok_or p i → (p ≡ None) × (place ≡ i)
not_found None place i e = (refl, cc)
not_found (Some x) place i e = cc

above_is : (o : Ordering) → o ≢ Less → o ≢ Equal → o ≡ Greater
above_is Less a b = absurd (a refl)
above_is Equal a b = absurd (b refl)
above_is Greater a b = refl

module _ (new : Record) (rs : List Record) (place : ℕ) (o : IsStrictlyOrdered rs)
    (e : Err place ≡ ok_or (record_index new.path (record_stage new) rs) (insertion_of new.path (record_stage new) rs))
    (fits : place ≤ length rs) where
  found : (record_index new.path (record_stage new) rs ≡ None) × (place ≡ insertion_of new.path (record_stage new) rs)
  found = not_found _ place _ e

  apart : (k : ℕ) (d : Record) → k < length rs → record_cmp (get_or rs k d) new ≢ Equal
  apart k d within same =
      let here : (z : Record) → HasKey new.path (record_stage new) (get_or rs k z) = λ z.
      let at : record_cmp (get_or rs k z) new ≡ Equal = rw (get_or_default rs k z d within) same in
      let own = own_key new.path (record_stage new) (get_or rs k z) at in
      record { path_is = own.0; stage_is = own.1 } in
      let there = key_place new.path (record_stage new) rs k o (record { in_range = within; here = here }) in
      let none = found.0 in
      cc

  pub put_between : IsPutInto new rs (insert rs place new)
  put_between =
      let s = insertion_of-splits new.path (record_stage new) rs o in
      record {
        front = take place rs;
        gone = [];
        behind = drop place rs;
        was = sym (take-append-drop place rs);
        is = refl;
        below = λ k d within.
            let n : k < place = omega (arith, within, length-take place rs) in
            rw (get_or-take place rs k d n) (s.0 k d (omega arith) (omega (arith, found.1)));
        same = λ k d l. absurd (omega arith);
        above = λ k d within.
            let n : place + k < length rs = omega (arith, within, length-drop place rs) in
            rw (get_or-drop place rs k d)
            (above_is _ (s.1 (place + k) d (omega (arith, found.1)) n) (apart (place + k) d n));
      }

-- ---- the entries of the records

pub records_insert : (storage : List ℕ) (es : List Entry) (e : Entry) (i : ℕ)
    → records_in storage (insert es i e) ≡ insert (records_in storage es) i (record_in storage e)
records_insert storage es e i =
    map-append (record_in storage) (take i es) (e ∷ drop i es)
    ∙ ap (λ l. l ++ map (record_in storage) (e ∷ drop i es)) (sym (take-map (record_in storage) i es))
    ∙ ap (λ l. take i (map (record_in storage) es) ++ record_in storage e ∷ l) (sym (drop-map (record_in storage) i es))

pub placed_insert : (len : ℕ) (es : List Entry) (e : Entry) (i : ℕ) → All (IsPlaced len) (es ++ e ∷ [])
    → All (IsPlaced len) (insert es i e)
placed_insert len es e i h =
    let n : length (es ++ e ∷ []) ≡ length es + 1 = length-append es (e ∷ []) in
    let front : All (IsPlaced len) es = λ k d l.
    subst (IsPlaced len) (get_or_append_left es (e ∷ []) d k l) (h k d (omega arith)) in
    let last : IsPlaced len e = subst (IsPlaced len) (get_or_at es e [] e (length es) refl) (h (length es) e (omega arith)) in
    All-append (IsPlaced len) (take i es) (e ∷ drop i es) (All-take (IsPlaced len) i es front)
    (All-cons (IsPlaced len) e (drop i es) last (All-drop (IsPlaced len) i es front))

-- ---- one entry more, moved to its position

module _ (new : Record) (s t : List ℕ) (es fs gs : List Entry) (place : ℕ) (placed : All (IsPlaced (length s)) es)
    (a : Appends s es new t fs) (is : gs ≡ insert es place a.entry) where
  inserted : records_in t gs ≡ insert (records_in s es) place new
  inserted =
      ap (records_in t) is ∙ records_insert t es a.entry place
      ∙ ap (λ r. insert (records_in t es) place r) a.is
      ∙ ap (λ rs. insert rs place new)
      (ap (λ u. records_in u es) a.storage ∙ records_grow s new.path es placed)

  pub put_more : (r : Result ℕ ℕ) → r ≡ Err place → IfErr r (λ i. i ≤ length (records_in s es))
      → (IsStrictlyOrdered (records_in s es) → r ≡ ok_or (record_index new.path (record_stage new) (records_in s es))
      (insertion_of new.path (record_stage new) (records_in s es)))
      → IsStrictlyOrdered (records_in s es) → IsPutInto new (records_in s es) (records_in t gs)
  put_more r e fits answer o =
      subst (IsPutInto new (records_in s es)) (sym inserted)
      (put_between new (records_in s es) place o (sym e ∙ answer o) (err_is r place _ e fits))

  pub placed_more : All (IsPlaced (length t)) fs → All (IsPlaced (length t)) gs
  placed_more h = subst (All (IsPlaced (length t))) (sym is) (placed_insert (length t) es a.entry place (rw a.entries at h))

-- ---- other parts in an entry

module _ (entry : Pathless) (path s : List ℕ) (es : List Entry) (slot now : Entry) (place n : ℕ) (there : List Record)
    (r : Result ℕ ℕ) (e : r ≡ Ok place) (is : there ≡ records_in s es) (stage : n ≡ stage_number entry.flags.0)
    (found : IfOk r (IsKeyAt path n there)) (read : slot ≡ get_or es place slot)
    (made : now ≡ made_entry entry slot.path) where
  here : IsKeyAt path (stage_number entry.flags.0) (records_in s es) place
  here = rw (is, stage) at (ok_is r place _ e found)

  own : record_in s now ≡ with_path path entry
  own =
      let key = entry_key path (stage_number entry.flags.0) s es place slot here read in
      ap (record_in s) made ∙ ap (λ (p : List ℕ). with_path p entry) key.path_is

  pub put_replaced : IsStrictlyOrdered (records_in s es)
      → IsPutInto (with_path path entry) (records_in s es) (records_in s (set es place now))
  put_replaced o =
      subst (IsPutInto (with_path path entry) (records_in s es))
      (sym (map-set (record_in s) es place now ∙ ap (set (records_in s es) place) own))
      (put_over (with_path path entry) (records_in s es) place o here)
