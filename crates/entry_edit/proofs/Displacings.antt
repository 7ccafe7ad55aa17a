-- The records that a new record replaces, determined from the new record alone.
use Rattle.std.proofs.Common.{◌≡◌, ◌≢◌, ℕ, ◌==◌, Bool, true, false, cond, ◌&&◌, ◌||◌, not, List, [], ◌∷◌}
use Rattle.std.proofs.Common.{length, All, refl, sym, ap, ◌∙◌, arith}
use Rattle.std.specs.List.{list_any}
use Rattle.std.specs.Prelude.{nat_lt}
use Rattle.std.specs.declared.cmp.Ordering.{Ordering}
use Rattle.std.specs.declared.cmp.Ordering.TheVariants.{Less, Equal, Greater}
use Rattle.std.proofs.lemmas.Bool.Decides.{nat_tests}
use Rattle.std.proofs.lemmas.List.Elements.{All-weaker, filter_passes}
use Rattle.entry_list.specs.Order.{record_cmp, record_stage}
use Rattle.entry_list.specs.Record.{Record}
use Rattle.entry_list.proofs.Orders.{equal_key, own_key}
use Rattle.entry_lookup.specs.Closest.{is_below}
use Rattle.entry_lookup.specs.Lookup.{HasKey}
use Rattle.entry_lookup.specs.Range.{is_at}
use Rattle.entry_lookup.proofs.TableMade.{begins_at, same_from, same_to}
use Rattle.entry_edit.specs.Edits.{have_df_conflict, displaced, is_displaced, is_succeeded}
use Rattle.entry_edit.specs.EditSteps.{is_other, is_side_at}
use Rattle.entry_edit.proofs.Anys.{any_agree, any_filter, any_or}

-- ---- numbers

pub same_number : (m n : ℕ) → (m == n) ≡ true → m ≡ n
same_number m n h = grind (arith, nat_tests, h)

pub number_to : (m n : ℕ) → m ≡ n → (m == n) ≡ true
number_to m n h = grind (arith, nat_tests, h)

pub other_number : (m n : ℕ) → (m == n) ≡ false → m ≢ n
other_number m n h e = let t = number_to m n e in let both : true ≡ false = sym t ∙ h in cc

false_from : (b : Bool) → (b ≡ true → ⊥) → b ≡ false
false_from true h = absurd (h refl)
false_from false h = refl

pub not_number : (m n : ℕ) → m ≢ n → (m == n) ≡ false
not_number m n h = false_from (m == n) (λ t. h (same_number m n t))

-- ---- a path isn't below itself

not_below : (p q : List ℕ) (r : Record) → r.path ≡ q → q ≡ p → is_below p r ≡ false
not_below p q r e f = false_from (is_below p r) (λ t.
    let within = (begins_at p r.path 47 t).0 in
    let n : length r.path ≡ length p = ap length (e ∙ f) in
    omega arith)

pub at_no_odds : (new r : Record) → is_at new.path r ≡ true → have_df_conflict new r ≡ false
at_no_odds new r t =
    let e = same_from r.path new.path t in
    rw (not_below new.path r.path r refl e, not_below r.path new.path new refl (sym e)) (by (record_stage r == record_stage new))
  where
    by : (b : Bool) → (b && (false || false)) ≡ false
    by true = refl
    by false = refl

-- ---- what is displaced

module _ (new r : Record) where
  pub displaced_key : HasKey new.path (record_stage new) r → is_displaced new r ≡ true
  displaced_key h =
      let merged = record_stage new == 0 in
      ap (λ at. (at && (merged || (record_stage r == record_stage new))) || have_df_conflict new r)
      (same_to r.path new.path h.path_is)
      ∙ ap (λ same. (true && (merged || same)) || have_df_conflict new r)
      (number_to (record_stage r) (record_stage new) h.stage_is)
      ∙ by merged (have_df_conflict new r)
    where
      by : (m o : Bool) → ((true && (m || true)) || o) ≡ true
      by true o = refl
      by false o = refl

  no_key : record_cmp r new ≢ Equal → is_at new.path r ≡ true → (record_stage r == record_stage new) ≡ false
  no_key apart at = false_from (record_stage r == record_stage new) (λ t.
      apart (equal_key new.path (record_stage new) r (same_from r.path new.path at)
      (same_number (record_stage r) (record_stage new) t)))

  pub displaced_other : record_cmp r new ≢ Equal → is_displaced new r ≡ is_other new r
  displaced_other apart = by (is_at new.path r) refl
    where
      merged : (b : Bool) → (record_stage new == 0) ≡ b → is_at new.path r ≡ true
          → ((b || (record_stage r == record_stage new)) || have_df_conflict new r) ≡ (b && not (record_stage r == 0))
      merged true m at =
          let s : (record_stage r == 0) ≡ false =
          ap (λ n. record_stage r == n) (sym (same_number (record_stage new) 0 m)) ∙ no_key apart at in
          rw s refl
      merged false m at =
          ap (λ same. (false || same) || have_df_conflict new r) (no_key apart at) ∙ at_no_odds new r at

      by : (b : Bool) → is_at new.path r ≡ b
          → ((b && ((record_stage new == 0) || (record_stage r == record_stage new))) || have_df_conflict new r)
          ≡ cond b ((record_stage new == 0) && not (record_stage r == 0)) (have_df_conflict new r)
      by true at = merged (record_stage new == 0) refl at
      by false at = refl

pub own_other : (new : Record) → is_other new new ≡ false
own_other new = rw (same_to new.path new.path refl) (by (record_stage new == 0))
  where
    by : (b : Bool) → (b && not b) ≡ false
    by true = refl
    by false = refl

pub key_other : (new r : Record) → HasKey new.path (record_stage new) r → is_other new r ≡ false
key_other new r h =
    rw (same_to r.path new.path h.path_is) (ap (λ n. (record_stage new == 0) && not (n == 0)) h.stage_is
    ∙ by (record_stage new == 0))
  where
    by : (b : Bool) → (b && not b) ≡ false
    by true = refl
    by false = refl

-- what goes has the key alone
pub alone : (new r : Record) → (is_displaced new r ≡ true → HasKey new.path (record_stage new) r)
    → is_other new r ≡ false
alone new r h = by (record_cmp r new) refl
  where
    apart : record_cmp r new ≢ Equal → is_other new r ≡ false
    apart n = false_from (is_other new r) (λ t.
        let key = h (displaced_other new r n ∙ t) in
        n (equal_key new.path (record_stage new) r key.path_is key.stage_is))

    by : (o : Ordering) → record_cmp r new ≡ o → is_other new r ≡ false
    by Less e = apart (λ f. let both = sym e ∙ f in cc)
    by Equal e =
        let own = own_key new.path (record_stage new) r e in
        key_other new r (record { path_is = own.0; stage_is = own.1 })
    by Greater e = apart (λ f. let both = sym e ∙ f in cc)

-- ---- what is in the way

other_is : (new r : Record)
    → is_other new r ≡ (((record_stage new == 0) && is_side_at new.path r) || have_df_conflict new r)
other_is new r = by (is_at new.path r) refl
  where
    or_false : (a b : Bool) → b ≡ false → a ≡ (a || b)
    or_false true b e = refl
    or_false false b e = sym e

    none : (a b : Bool) → b ≡ ((a && (false && not (record_stage r == 0))) || b)
    none true b = refl
    none false b = refl

    by : (b : Bool) → is_at new.path r ≡ b
        → cond b ((record_stage new == 0) && not (record_stage r == 0)) (have_df_conflict new r)
        ≡ (((record_stage new == 0) && (b && not (record_stage r == 0))) || have_df_conflict new r)
    by true at = or_false ((record_stage new == 0) && not (record_stage r == 0)) (have_df_conflict new r) (at_no_odds new r at)
    by false at = none (record_stage new == 0) (have_df_conflict new r)

any_and : {X : Type 0} (b : Bool) (p : X → Bool) (xs : List X) → list_any (λ x. b && p x) xs ≡ (b && list_any p xs)
any_and true p xs = refl
any_and false p [] = refl
any_and false p (x ∷ xs) = any_and false p xs

pub others_any : (new : Record) (rs : List Record)
    → list_any (is_other new) rs
    ≡ (((record_stage new == 0) && list_any (is_side_at new.path) rs) || list_any (have_df_conflict new) rs)
others_any new rs =
    any_agree (is_other new) (λ r. ((record_stage new == 0) && is_side_at new.path r) || have_df_conflict new r) (other_is new) rs
    ∙ any_or (λ r. (record_stage new == 0) && is_side_at new.path r) (have_df_conflict new) rs
    ∙ ap (λ b. b || list_any (have_df_conflict new) rs) (any_and (record_stage new == 0) (is_side_at new.path) rs)

pub others_told : (new : Record) (rs : List Record) (sides odds : Bool)
    → sides ≡ ((record_stage new == 0) && list_any (is_side_at new.path) rs) → odds ≡ list_any (have_df_conflict new) rs
    → (sides || odds) ≡ list_any (is_other new) rs
others_told new rs sides odds e f = rw (e, f) (sym (others_any new rs))

-- ---- what isn't displaced isn't at odds

or_second : (a b : Bool) → (a || b) ≡ false → b ≡ false
or_second true b e = cc
or_second false b e = e

pub stays_apart : (new r : Record) → is_displaced new r ≡ false → have_df_conflict new r ≡ false
stays_apart new r e = or_second (is_succeeded new r) (have_df_conflict new r) e

pub own_odds : (new : Record) → have_df_conflict new new ≡ false
own_odds new = at_no_odds new new (same_to new.path new.path refl)

or_other : (a b : Bool) → (a || b) ≡ (b || a)
or_other true true = refl
or_other true false = refl
or_other false true = refl
or_other false false = refl

same_either : (m n : ℕ) → (m == n) ≡ (n == m)
same_either m n = grind (arith, nat_tests)

pub odds_both : (r q : Record) → have_df_conflict r q ≡ have_df_conflict q r
odds_both r q =
    ap (λ b. b && (is_below r.path q || is_below q.path r)) (same_either (record_stage q) (record_stage r))
    ∙ ap (λ b. (record_stage r == record_stage q) && b) (or_other (is_below r.path q) (is_below q.path r))

-- ---- the stages of a conflict

above_zero : (n : ℕ) → nat_lt 0 n ≡ not (n == 0)
above_zero n = grind (arith, nat_tests)

side : (a z x : Bool) → (((a && (true || z)) || (z && x)) && not z) ≡ (a && not z)
side true true x = refl
side true false x = refl
side false true true = refl
side false true false = refl
side false false x = refl

module _ (new : Record) (old : List Record) where
  side_is : record_stage new ≡ 0 → (r : Record)
      → (is_displaced new r && nat_lt 0 (record_stage r)) ≡ is_side_at new.path r
  side_is e r =
      let a = is_at new.path r in
      let n = record_stage r in
      let x = is_below new.path r || is_below r.path new in
      ap (λ m. (((a && ((m == 0) || (n == m))) || ((n == m) && x)) && nat_lt 0 n)) e
      ∙ ap (λ b. ((a && (true || (n == 0))) || ((n == 0) && x)) && b) (above_zero n)
      ∙ side a (n == 0) x

  pub conflict_merged : record_stage new ≡ 0
      → list_any (λ r. nat_lt 0 (record_stage r)) (displaced new old) ≡ list_any (is_side_at new.path) old
  conflict_merged e =
      any_filter (λ (r : Record). nat_lt 0 (record_stage r)) (is_displaced new) old
      ∙ any_agree (λ (r : Record). is_displaced new r && nat_lt 0 (record_stage r)) (is_side_at new.path) (side_is e) old

  same_stage : (a s x : Bool) → ((a && (false || s)) || (s && x)) ≡ true → s ≡ true
  same_stage a true x t = refl
  same_stage true false x t = t
  same_stage false false x t = t

  unmerged_above : (record_stage new == 0) ≡ false → (r : Record) → is_displaced new r ≡ true
      → nat_lt 0 (record_stage r) ≡ true
  unmerged_above e r t =
      let a = is_at new.path r in
      let s = record_stage r == record_stage new in
      let x = is_below new.path r || is_below r.path new in
      let same = same_stage a s x (ap (λ m. (a && (m || s)) || (s && x)) (sym e) ∙ t) in
      let n = same_number (record_stage r) (record_stage new) same in
      above_zero (record_stage r) ∙ ap (λ k. not (k == 0)) n ∙ ap not e

  all_any : (p : Record → Bool) (xs : List Record) → All (λ r. p r ≡ true) xs → list_any p xs ≡ nat_lt 0 (length xs)
  all_any p [] h = refl
  all_any p (x ∷ xs) h =
      let some : true ≡ nat_lt 0 (length (x ∷ xs)) = grind (arith, nat_tests) in
      ap (λ b. b || list_any p xs) (h 0 x (omega arith)) ∙ some

  pub conflict_unmerged : (record_stage new == 0) ≡ false
      → list_any (λ r. nat_lt 0 (record_stage r)) (displaced new old) ≡ nat_lt 0 (length (displaced new old))
  conflict_unmerged e = all_any (λ r. nat_lt 0 (record_stage r)) (displaced new old)
      (All-weaker (λ r. is_displaced new r ≡ true) (λ r. nat_lt 0 (record_stage r) ≡ true) (unmerged_above e)
      (displaced new old) (filter_passes (is_displaced new) old))

  -- the reported conflict, if `count` records are replaced
  pub conflict_told : (sides told : Bool) (count : ℕ)
      → sides ≡ ((record_stage new == 0) && list_any (is_side_at new.path) old) → count ≡ length (displaced new old)
      → (record_stage new ≡ 0 → told ≡ sides) → (record_stage new ≢ 0 → told ≡ nat_lt 0 count)
      → told ≡ list_any (λ r. nat_lt 0 (record_stage r)) (displaced new old)
  conflict_told sides told count s n merged unmerged = by (record_stage new == 0) refl
    where
      by : (b : Bool) → (record_stage new == 0) ≡ b
          → told ≡ list_any (λ r. nat_lt 0 (record_stage r)) (displaced new old)
      by true e =
          let zero = same_number (record_stage new) 0 e in
          merged zero ∙ s ∙ ap (λ b. b && list_any (is_side_at new.path) old) e ∙ sym (conflict_merged zero)
      by false e = unmerged (other_number (record_stage new) 0 e) ∙ ap (nat_lt 0) n ∙ sym (conflict_unmerged e)
