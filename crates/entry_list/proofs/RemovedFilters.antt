-- The entries that are left after calls of a closure with further properties, by what each call does.
use Rattle.std.proofs.Common.{◌≡◌, ℕ, suc, ◌+◌, ◌<◌, Bool, true, false, cond, not, List, [], ◌∷◌, length, map, get_or}
use Rattle.std.proofs.Common.{refl, sym, ap, ◌∙◌, arith, subst, All, Bor, MutBor}
use denote.Param.Members.{Mut}
use Rattle.std.specs.Fn.{Called, AlwaysReturns}
use Rattle.std.specs.Prelude.{slice_range}
use Rattle.std.specs.List.{FoldsTo, AllByRecursion, filter, range_with_len, zip}
use Rattle.std.proofs.lemmas.List.{length-map}
use Rattle.std.proofs.lemmas.List.Elements.{All-from_recursion, recursion_from_All, All-map}
use Rattle.entry_list.specs.declared.Entry.{Entry}
use Rattle.entry_list.specs.PathRange.{range_end, range_start}
use Rattle.entry_list.specs.Record.{Record, IsPlaced, record_in, records_in}
use Rattle.entry_list.proofs.Sorting.{record_at}
use Rattle.entry_list.specs.Removed.{Answered, AnswersBy, AnswersByPlace, Call, ChangesFlagsAlone, IsCalled}
use Rattle.entry_list.specs.Removed.{IsSameButFlags, LeavesPaths, RemovesBy, RemovesWith, Shown, left_by}
use Rattle.entry_list.specs.Removed.{shown_record}

-- a call answers what a test gives, and leaves the entry as it is
abbrev Tests : List ℕ → (ℕ → Record → Bool) → Call → Type 0
Tests storage test c = (c.is_removed ≡ test c.place (record_in storage c.before)) × (c.after ≡ c.before)

module _ {F : Type 0} (g : Mut F Shown Answered) (storage : List ℕ) where
  abbrev Step : F → ℕ → Bor (List ℕ) → MutBor Entry → Bool → MutBor Entry → F → Type 0
  Step f i p e b o h = Called g f (i, (p, (e, tt))) (b, (o, tt)) h

  -- a call of which this relation between arguments and results is true
  abbrev Says : (Shown → Answered → Type 0) → Call → Type 0
  Says P c = (p : Bor (List ℕ)) × (e : MutBor Entry) × (e' : MutBor Entry) × (p.now ≡ (record_in storage c.before).path)
      × (e.now ≡ c.before) × (e'.now ≡ c.after) × P (c.place, (p, (e, tt))) (c.is_removed, (e', tt))

  each_says : (P : Shown → Answered → Type 0) (calls : List Call) (f last : F) → AlwaysReturns g P f
      → FoldsTo (λ f c h. IsCalled Step storage f c h) f calls last → AllByRecursion (Says P) calls
  each_says P [] f last always ran = tt
  each_says P (c ∷ cs) f last always ran =
      let k = ran.1 in
      let a : Shown = (c.place, (k.0, (k.1, tt))) in
      let r : Answered = (c.is_removed, (k.2, tt)) in (
        (k.0, k.1, k.2, k.3, k.4, k.5, (always.at (a ∷ []) r ran.0 k.6).0),
        each_says P cs ran.0 last (record { at = λ xs. (always.at (a ∷ xs) r ran.0 k.6).1 }) ran.2,
      )

  -- what each call leaves of its entry, and what it answers
  same_paths : (calls : List Call) → AllByRecursion (Says (λ a r. r.1.0.now.path ≡ a.1.1.0.now.path)) calls
      → AllByRecursion (λ (c : Call). c.after.path ≡ c.before.path) calls
  same_paths [] h = tt
  same_paths (c ∷ cs) h =
      let k = h.0 in
      (ap (λ (e : Entry). e.path) (sym k.5) ∙ k.6 ∙ ap (λ (e : Entry). e.path) k.4, same_paths cs h.1)

  same_but_flags : (calls : List Call) → AllByRecursion (Says (λ a r. IsSameButFlags a.1.1.0.now r.1.0.now)) calls
      → AllByRecursion (λ (c : Call). IsSameButFlags c.before c.after) calls
  same_but_flags [] h = tt
  same_but_flags (c ∷ cs) h =
      let k = h.0 in
      let one : IsSameButFlags c.before c.after = subst (λ (d : Entry). IsSameButFlags d c.after) k.4
      (subst (λ (e : Entry). IsSameButFlags k.1.now e) k.5 k.6) in
      (one, same_but_flags cs h.1)

  tested : (test : ℕ → Record → Bool) (calls : List Call)
      → AllByRecursion (Says (λ a r. (r.0 ≡ test a.0 (shown_record a)) × (r.1.0.now ≡ a.1.1.0.now))) calls
      → AllByRecursion (Tests storage test) calls
  tested test [] h = tt
  tested test (c ∷ cs) h =
      let k = h.0 in
      let same : shown_record (c.place, (k.0, (k.1, tt))) ≡ record_in storage c.before = λ i. record {
        path = k.3 i;
        stat = (k.4 i).stat;
        id = (k.4 i).id;
        flags = (k.4 i).flags.0;
        mode = (k.4 i).mode.0;
      } in
      ((k.6.0 ∙ ap (test c.place) same, sym k.5 ∙ k.6.1 ∙ k.4), tested test cs h.1)

each_weaker : {A : Type 0} (P Q : A → Type 0) → ((x : A) → P x → Q x) → (xs : List A) → AllByRecursion P xs
    → AllByRecursion Q xs
each_weaker P Q w [] h = tt
each_weaker P Q w (x ∷ xs) h = (w x h.0, each_weaker P Q w xs h.1)

-- ---- what each entry had that a call was shown, what is left has

abbrev stays : Call → Bool
stays c = not c.is_removed

left_all : (P : Entry → Type 0) (calls : List Call) → AllByRecursion (λ (c : Call). P c.before → P c.after) calls
    → AllByRecursion P (map (λ (c : Call). c.before) calls)
    → AllByRecursion P (map (λ (c : Call). c.after) (filter stays calls))
left_all P [] keeps h = tt
left_all P (c ∷ cs) keeps h = by c.is_removed (left_all P cs keeps.1 h.1)
  where
    by : (b : Bool) → AllByRecursion P (map (λ (c : Call). c.after) (filter stays cs))
        → AllByRecursion P (map (λ (c : Call). c.after) (cond (not b) (c ∷ filter stays cs) (filter stays cs)))
    by true rest = rest
    by false rest = (keeps.0 h.0, rest)

left_has : (P : Entry → Type 0) (calls : List Call) (old new : List Entry) → RemovesBy calls old new
    → AllByRecursion (λ (c : Call). P c.before → P c.after) calls → All P old → All P new
left_has P calls old new left keeps h =
    let before : AllByRecursion P (map (λ (c : Call). c.before) calls) =
    recursion_from_All P (map (λ (c : Call). c.before) calls) (rw left.looked_at h) in
    rw left.retained
    (All-from_recursion P (map (λ (c : Call). c.after) (filter stays calls)) (left_all P calls keeps before))

-- ---- what is left is a filter

module _ (storage : List ℕ) (test : ℕ → Record → Bool) where
  abbrev seen : List Call → List Record
  seen calls = map (record_in storage) (map (λ (c : Call). c.before) calls)

  abbrev passes : ℕ × Record → Bool
  passes p = not (test p.0 p.1)

  abbrev InOrder : ℕ → List Call → Type 0
  InOrder a calls = (k : ℕ) (d : Call) → k < length calls → (get_or calls k d).place ≡ a + k

  filtered_from : (calls : List Call) (a : ℕ) → AllByRecursion (Tests storage test) calls → InOrder a calls
      → map (record_in storage) (map (λ (c : Call). c.after) (filter stays calls))
      ≡ map (λ p. p.1) (filter passes (zip (range_with_len a (length (seen calls))) (seen calls)))
  filtered_from [] a h order = refl
  filtered_from (c ∷ cs) a h order =
      let place : c.place ≡ a = order 0 c (omega arith) ∙ omega arith in
      let answer : c.is_removed ≡ test a (record_in storage c.before) =
      h.0.0 ∙ ap (λ n. test n (record_in storage c.before)) place in
      rw (← answer)
      (by c.is_removed (filtered_from cs (a + 1) h.1 (λ k d l. order (suc k) d (omega arith) ∙ omega arith)))
    where
      rest : List Record
      rest = map (λ p. p.1) (filter passes (zip (range_with_len (a + 1) (length (seen cs))) (seen cs)))

      by : (b : Bool) → map (record_in storage) (map (λ (c : Call). c.after) (filter stays cs)) ≡ rest
          → map (record_in storage) (map (λ (c : Call). c.after) (cond (not b) (c ∷ filter stays cs) (filter stays cs)))
          ≡ map (λ p. p.1) (cond (not b)
          ((a, record_in storage c.before) ∷ filter passes (zip (range_with_len (a + 1) (length (seen cs))) (seen cs)))
          (filter passes (zip (range_with_len (a + 1) (length (seen cs))) (seen cs))))
      by true e = e
      by false e = λ i. record_in storage (h.0.1 i) ∷ e i

-- a test that asks no place makes a filter
filter_from : {A : Type 0} (test : A → Bool) (xs : List A) (a : ℕ)
    → map (λ p. p.1) (filter (λ p. not (test p.1)) (zip (range_with_len a (length xs)) xs))
    ≡ filter (λ x. not (test x)) xs
filter_from test [] a = refl
filter_from {A = A} test (x ∷ xs) a = by (test x) (filter_from test xs (a + 1))
  where
    rest : List (ℕ × A)
    rest = filter (λ p. not (test p.1)) (zip (range_with_len (a + 1) (length xs)) xs)

    by : (b : Bool) → map (λ p. p.1) rest ≡ filter (λ y. not (test y)) xs
        → map (λ p. p.1) (cond (not b) ((a, x) ∷ rest) rest)
        ≡ cond (not b) (x ∷ filter (λ y. not (test y)) xs) (filter (λ y. not (test y)) xs)
    by true e = e
    by false e = ap (λ ys. x ∷ ys) e

pub left_by_filter : {A : Type 0} (test : A → Bool) (xs : List A)
    → left_by (λ place x. test x) xs ≡ filter (λ x. not (test x)) xs
left_by_filter test xs = filter_from test xs 0

-- the record of an entry that has other flags
with_flags : (storage : List ℕ) (d e : Entry) → IsSameButFlags d e
    → record (record_in storage d) { flags = e.flags.0 } ≡ record_in storage e
with_flags storage d e same =
    let path = sym same.0 in
    let stat = sym same.1 in
    let id = sym same.2 in
    let mode = sym same.3 in
    λ i. record {
      path = slice_range storage (range_start (path i)) (range_end (path i));
      stat = stat i;
      id = id i;
      flags = e.flags.0;
      mode = (mode i).0;
    }

-- ---- what a removal leaves

module _ {F : Type 0} (g : Mut F Shown Answered) (storage : List ℕ) (f last : F) (old new : List Entry)
    (removes : RemovesWith (Step g storage) storage f old last new) where
  pub left_placed : LeavesPaths g f → All (IsPlaced (length storage)) old → All (IsPlaced (length storage)) new
  left_placed leaves h =
      let says = same_paths g storage removes.calls (each_says g storage _ removes.calls f last leaves removes.ran) in
      let keeps = each_weaker _ (λ (c : Call). IsPlaced (length storage) c.before → IsPlaced (length storage) c.after)
      (λ c e p. record { inside = rw e p.inside }) removes.calls says in
      left_has (IsPlaced (length storage)) removes.calls old new removes.left keeps h

  pub left_but_flags : (P : Record → Type 0) → ((r : Record) (flags : ℕ) → P r → P (record r { flags = flags }))
      → ChangesFlagsAlone g f → All P (records_in storage old) → All P (records_in storage new)
  left_but_flags P whatever leaves h =
      let says =
      same_but_flags g storage removes.calls (each_says g storage _ removes.calls f last leaves removes.ran) in
      let R : Entry → Type 0 = λ e. P (record_in storage e) in
      let keeps =
      each_weaker _ (λ (c : Call). R c.before → R c.after) (λ c e p. subst P (with_flags storage c.before c.after e)
      (whatever (record_in storage c.before) c.after.flags.0 p)) removes.calls says in
      let before : All R old = λ k d l. subst P (record_at storage old k d (record_in storage d) l)
      (h k (record_in storage d) (omega (arith, length-map old (record_in storage)))) in
      All-map P (record_in storage) new (left_has R removes.calls old new removes.left keeps before)

  pub left_by_place : (test : ℕ → Record → Bool) → AnswersByPlace g test f
      → records_in storage new ≡ left_by test (records_in storage old)
  left_by_place test answers =
      let says = tested g storage test removes.calls (each_says g storage _ removes.calls f last answers removes.ran) in
      let left = removes.left in
      rw (left.retained, ← left.looked_at)
      (filtered_from storage test removes.calls 0 says (λ k d l. left.in_order k d l ∙ omega arith))

  pub left_filtered : (test : Record → Bool) → AnswersBy g test f
      → records_in storage new ≡ filter (λ r. not (test r)) (records_in storage old)
  left_filtered test answers = left_by_place (λ place r. test r) answers ∙ left_by_filter test (records_in storage old)
