-- The walk over the paths of records, turn by turn.
use Rattle.std.proofs.Common.{◌≡◌, ◌≢◌, ℕ, ◌+◌, ◌-◌, ◌<◌, ◌≤◌, ◌⊎◌, inl, inr, Bool, true, false, List, [], ◌∷◌, ◌++◌}
use Rattle.std.proofs.Common.{length, get_or, take, drop, reverse, refl, sym, ap, ◌∙◌, subst, arith}
use Rattle.std.specs.Prelude.{◌&&◌}
use Rattle.std.specs.List.{Contains, HoldsAt}
use Rattle.std.specs.declared.cmp.Ordering.TheVariants.{Greater}
use Rattle.std.proofs.lemmas.Bool.{cases_lt}
use Rattle.std.proofs.lemmas.List.{take_all, take_more}
use Rattle.std.proofs.lemmas.List.Elements.{Contains-append_cases}
use Rattle.entry_list.specs.Order.{path_cmp}
use Rattle.entry_list.specs.Record.{Record}
use Rattle.entry_list.specs.Shared.{shared_len}
use Rattle.entry_list.specs.Slice.{IsRecordOf}
use Rattle.entry_list.specs.declared.Entry.{Entry}
use Rattle.entry_fields.specs.Flags.{stage_number}
use Rattle.entry_lookup.specs.RangeSteps.{is_wanted}
use Rattle.entry_lookup.specs.declared.range.Wanted.TheVariants.{Directory}
use Rattle.entry_lookup.specs.Closest.{is_directory}
use Rattle.entry_lookup.specs.Folded.{folded}
use Rattle.entry_lookup.specs.NameSteps.{NamedValue}
use Rattle.entry_lookup.specs.WalkSteps.{AreExtents, AreVisits, IsStep, SpanValue, is_parent, stands_where}
use Rattle.entry_lookup.proofs.Extents.{front_folded, stands_from, stands_to}
use Rattle.base_search.proofs.Places.{some_of}
use Rattle.entry_lookup.proofs.TableMade.{contains_none, contains_one, folded_length, folded_take}
use Rattle.entry_lookup.proofs.Stepping.{walked_step}
use Rattle.entry_lookup.proofs.Walks.{HasEnds, Walked, ends_closed, covers_closed, rises_closed, walked_fewer}
use Rattle.entry_lookup.proofs.Walks.{walked_none}

-- the record at an index is in the directory
abbrev pub StandsAt : Bool → Bool → List Record → List ℕ → ℕ → Type 0
StandsAt own ignore_case rs n i = (q : Record) → stands_where own ignore_case n (get_or rs i q) ≡ true

abbrev pub Seen : List NamedValue → ℕ → ℕ → Type 0
Seen vs turn i = (v : NamedValue) × Contains (take turn vs) v × (v.place ≡ i)

-- what is known after so many turns, the last of which was at this path
pub record AtTurn (own ignore_case : Bool) (rs : List Record) (vs : List NamedValue) (turn : ℕ) (last : List ℕ)
    (closed live : List SpanValue) : Type 0 where
  pub first : turn ≡ 0 → last ≡ []
  pub next : 0 < turn → (d : NamedValue) → (get_or vs (turn - 1) d).name ≡ last
  pub walked : Walked (folded ignore_case) (StandsAt own ignore_case rs) (length rs) (Seen vs turn)
      (folded ignore_case last) closed live

folded_none : (ignore_case : Bool) → [] ≡ folded ignore_case []
folded_none true = refl
folded_none false = refl

pub at_first : (own ignore_case : Bool) (rs : List Record) (vs : List NamedValue)
    → AtTurn own ignore_case rs vs 0 [] [] []
at_first own ignore_case rs vs = record {
  first = λ e. refl;
  next = λ l d. absurd (omega arith);
  walked = subst (λ (xs : List ℕ). Walked (folded ignore_case) (StandsAt own ignore_case rs) (length rs)
      (Seen vs 0) xs [] []) (folded_none ignore_case)
      (walked_fewer (folded ignore_case) (StandsAt own ignore_case rs) (length rs) (λ _. ⊥) (Seen vs 0) [] [] []
      (λ i s. contains_none s.0 s.1) (walked_none (folded ignore_case) (StandsAt own ignore_case rs) (length rs)));
}

none_rises : (xs : List ℕ) → path_cmp [] xs ≢ Greater
none_rises [] e = cc
none_rises (x ∷ xs) e = cc

module _ (own ignore_case : Bool) (rs : List Record) (vs : List NamedValue) (visits : AreVisits ignore_case rs vs)
    (turn : ℕ) (last : List ℕ) (closed live : List SpanValue)
    (before : AtTurn own ignore_case rs vs turn last closed live) where
  module _ (visit : NamedValue) (b : Bool) (shared : ℕ) (closed' live' : List SpanValue) (within : turn < length vs)
      (here : HoldsAt (λ v. v ≡ visit) vs turn)
      (told : (d : Record) → b ≡ (own && is_directory (get_or rs visit.place d)))
      (shares : shared ≡ shared_len (folded ignore_case last) (folded ignore_case visit.name))
      (step : IsStep b visit shared live closed live' closed') where
    name : List ℕ
    name = folded ignore_case visit.name

    there : Contains vs visit
    there = (turn, within, here visit)

    each : (visit.place < length rs) × ((q : Record) → (get_or rs visit.place q).path ≡ visit.name)
    each = visits.each visit there

    rises : path_cmp (folded ignore_case last) (folded ignore_case visit.name) ≢ Greater
    rises = elim (cases_lt 0 turn) [
      | inl l ↦ subst (λ (xs : List ℕ). path_cmp (folded ignore_case xs) (folded ignore_case visit.name) ≢ Greater)
          (before.next l visit) (subst (λ (v : NamedValue). path_cmp
          (folded ignore_case (get_or vs (turn - 1) visit).name) (folded ignore_case v.name) ≢ Greater) (here visit)
          (visits.ordered (turn - 1) turn visit (omega arith) within))
      | inr l ↦ subst (λ (xs : List ℕ). path_cmp xs (folded ignore_case visit.name) ≢ Greater) (folded_none ignore_case
          ∙ ap (folded ignore_case) (sym (before.first (omega arith)))) (none_rises (folded ignore_case visit.name))
    ]

    to : (n : List ℕ) → is_parent b (folded ignore_case visit.name) (length n) ≡ true → folded ignore_case n
        ≡ take (length n) (folded ignore_case visit.name) → StandsAt own ignore_case rs n visit.place
    to n t e q = stands_to own ignore_case n (get_or rs visit.place q) (rw (← told q, each.1 q) t) (rw (each.1 q) e)

    back : (n : List ℕ) → StandsAt own ignore_case rs n visit.place
        → (is_parent b (folded ignore_case visit.name) (length n) ≡ true)
        × (folded ignore_case n ≡ take (length n) (folded ignore_case visit.name))
    back n h =
        let z : Record = some_of rs visit.place each.0 in
        let r : Record = get_or rs visit.place (some_of rs visit.place each.0) in
        let s = stands_from own ignore_case n (get_or rs visit.place (some_of rs visit.place each.0))
        (h (some_of rs visit.place each.0)) in
        rw (← told (some_of rs visit.place each.0), each.1 (some_of rs visit.place each.0)) at s

    seen : (i : ℕ) → Seen vs (turn + 1) i → Seen vs turn i ⊎ (i ≡ visit.place)
    seen i s = elim (Contains-append_cases (take turn vs) (get_or vs turn visit ∷ []) s.0
        (subst (λ (xs : List NamedValue). Contains xs s.0) (take_more vs turn visit within) s.1)) [
          | inl c ↦ inl (s.0, c, s.2)
          | inr c ↦ inr
              (sym s.2
              ∙ ap (λ (v : NamedValue). v.place) (sym (contains_one (get_or vs turn visit) s.0 c) ∙ here visit))
        ]

    pub at_next : AtTurn own ignore_case rs vs (turn + 1) visit.name closed' live'
    at_next = record {
      first = λ e. absurd (omega arith);
      next = λ l d.
          let level : turn + 1 - 1 ≡ turn = omega arith in
          ap (λ (i : ℕ). (get_or vs i d).name) level ∙ ap (λ (v : NamedValue). v.name) (here d);
      walked = walked_fewer (folded ignore_case) (StandsAt own ignore_case rs) (length rs) (λ i. Seen vs turn i
          ⊎ (i ≡ visit.place)) (Seen vs (turn + 1)) (folded ignore_case visit.name) closed' live' seen
          (walked_step (folded ignore_case) (StandsAt own ignore_case rs) (length rs) (Seen vs turn) b visit
          (folded ignore_case last) shared live closed live' closed' step before.walked each.0 shares rises to back
          (λ m. folded_take ignore_case m visit.name) (folded_length ignore_case visit.name)
          (λ m. front_folded b ignore_case visit.name m));
    }

  pub at_end : (closed' : List SpanValue) → length vs ≤ turn → closed' ≡ closed ++ reverse (drop 0 live)
      → AreExtents own ignore_case rs closed'
  at_end closed' all e = subst (AreExtents own ignore_case rs) (sym e) (record {
    some = λ s c. let h = ends s c in (h.some, h.inside);
    first = λ s q c. (ends s c).first q;
    last = λ s q c. (ends s c).last q;
    covers = λ name i l t.
        let v = visits.whole i l in
        let s : Seen vs turn i =
        (v.0, subst (λ (xs : List NamedValue). Contains xs v.0) (sym (take_all turn vs all)) v.1, v.2) in
        let c = covers_closed (folded ignore_case) (StandsAt own ignore_case rs) (length rs) (Seen vs turn)
        (folded ignore_case last) closed live before.walked 0 i name s t in
        (c.span, in_closed c.span c.there, c.named, c.from, c.upto);
    rises = rises_closed (folded ignore_case) (StandsAt own ignore_case rs) (length rs) (Seen vs turn)
        (folded ignore_case last) closed live before.walked 0;
  })
    where
      ends : (s : SpanValue) → Contains (closed ++ reverse (drop 0 live)) s
          → HasEnds (folded ignore_case) (StandsAt own ignore_case rs) (length rs) s
      ends s c = ends_closed (folded ignore_case) (StandsAt own ignore_case rs) (length rs) (Seen vs turn)
          (folded ignore_case last) closed live before.walked 0 s (inl c)

      in_closed : (s : SpanValue) → Contains (closed ++ reverse (drop 0 live)) s ⊎ Contains (take 0 live) s
          → Contains (closed ++ reverse (drop 0 live)) s
      in_closed s (inl c) = c
      in_closed s (inr c) = absurd (contains_none s c)

-- ---- whether the record at an index is for a directory

pub is_directory_of : (rs : List Record) (place : ℕ) (e : Entry) → HoldsAt (IsRecordOf e) rs place → (d : Record)
    → is_wanted Directory e.mode.0 (stage_number e.flags.0) ≡ is_directory (get_or rs place d)
is_directory_of rs place e is d = sym (rw (is d).mode refl)

pub asked_own : (own b d : Bool) → own ≡ true → b ≡ d → b ≡ (own && d)
asked_own own b d e f = rw e f

pub not_asked : (own b d : Bool) → own ≡ false → b ≡ false → b ≡ (own && d)
not_asked own b d e f = rw e f
