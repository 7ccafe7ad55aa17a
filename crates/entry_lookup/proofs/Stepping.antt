-- One step of the walk: what is opened, what goes on, and that what is known of directories stays.
use Rattle.std.proofs.Common.{◌≡◌, ◌≢◌, ℕ, suc, ◌+◌, ◌-◌, ◌<◌, ◌≤◌, ◌⊎◌, inl, inr, Bool, true, false, min, max, List}
use Rattle.std.proofs.Common.{◌++◌, length, get_or, map, take, drop, reverse, refl, sym, ap, ◌∙◌, subst, arith}
use Rattle.std.proofs.Common.{length-take}
use Rattle.std.specs.List.{Contains}
use Rattle.std.specs.declared.cmp.Ordering.TheVariants.{Greater}
use Rattle.std.proofs.lemmas.Bool.{cases_lt}
use Rattle.std.proofs.lemmas.List.{get_or-take, get_or_default}
use Rattle.std.proofs.lemmas.List.Elements.{All-contains, Contains-append_left, Contains-append_right}
use Rattle.std.proofs.lemmas.List.Elements.{Contains-append_cases, Contains-get_or}
use Rattle.entry_list.specs.Order.{path_cmp}
use Rattle.entry_list.specs.Shared.{shared_len}
use Rattle.entry_list.proofs.SharedFronts.{shared_within_second}
use Rattle.entry_lookup.specs.NameSteps.{NamedValue}
use Rattle.entry_lookup.specs.WalkSteps.{IsStep, SpanValue, extended, is_parent, opened, widened}
use Rattle.base_search.proofs.Places.{some_of}
use Rattle.entry_lookup.proofs.Pairs.{pairs_join}
use Rattle.base_search.proofs.OrderedAnswers.{pairs_map}
use Rattle.entry_lookup.proofs.TableMade.{contains_map, contains_map_in}
use Rattle.entry_lookup.proofs.OpenedFronts.{front_slash, front_within, fresh, opened_is, opened_has, opened_longer}
use Rattle.entry_lookup.proofs.Walks.{HasEnds, Covers, Walked, Reached, reached_next}

module _ (F : List ℕ → List ℕ) (Stands : List ℕ → ℕ → Type 0) (size : ℕ) where
  -- ---- what is opened, and what goes on

  pub widened_name : (b : Bool) (place : ℕ) (s : SpanValue) → (widened b place s).name ≡ s.name
  widened_name true place s = refl
  widened_name false place s = refl

  widened_start : (b : Bool) (place : ℕ) (s : SpanValue) → (widened b place s).start ≤ s.start
  widened_start true place s = omega arith
  widened_start false place s = omega arith

  widened_end : (b : Bool) (place : ℕ) (s : SpanValue) → s.end ≤ (widened b place s).end
  widened_end true place s = omega arith
  widened_end false place s = omega arith

  widened_ends : (b : Bool) (place : ℕ) (s : SpanValue) → place < size → HasEnds F Stands size s
      → (b ≡ true → Stands s.name place) → HasEnds F Stands size (widened b place s)
  widened_ends false place s l h t = h
  widened_ends true place s l h t = record {
    some = omega (arith, h.some);
    inside = omega (arith, h.inside);
    first = elim (cases_lt place s.start) [
      | inl u ↦ (let e : min s.start place ≡ place = omega arith in rw e (t refl))
      | inr u ↦ (let e : min s.start place ≡ s.start = omega arith in rw e h.first)
    ];
    last = elim (cases_lt place s.end) [
      | inl u ↦ (let e : max s.end (place + 1) - 1 ≡ s.end - 1 = omega arith in rw e h.last)
      | inr u ↦ (let e : max s.end (place + 1) - 1 ≡ place = omega arith in rw e (t refl))
    ];
  }

  module _ (Seen : ℕ → Type 0) (own : Bool) (path : List ℕ) (place from : ℕ) (closed live : List SpanValue)
      (r : Reached F Stands size Seen own (F path) closed live from) (inside : place < size)
      (to : (n : List ℕ) → is_parent own (F path) (length n) ≡ true → F n ≡ take (length n) (F path) → Stands n place)
      (back : (n : List ℕ) → Stands n place
      → (is_parent own (F path) (length n) ≡ true) × (F n ≡ take (length n) (F path)))
      (F_take : (m : ℕ) → F (take m path) ≡ take m (F path)) (F_len : length (F path) ≡ length path)
      (F_front : (m : ℕ) → is_parent own path m ≡ is_parent own (F path) m) where
    abbrev go : SpanValue → SpanValue
    go s = extended own path place s

    abbrev new : List SpanValue
    new = opened own path place from (suc (length path))

    name_kept : (s : SpanValue) → (extended own path place s).name ≡ s.name
    name_kept s = widened_name (is_parent own path (length s.name)) place s

    fresh_name : (m : ℕ) → m ≤ length path → length (take m path) ≡ m
    fresh_name m l = omega (arith, length-take m path)

    -- each that is open now was open, and goes on, or is fresh
    open_cases : (P : SpanValue → Type 0) (s : SpanValue)
        → Contains (map (extended own path place) live ++ opened own path place from (suc (length path))) s
        → ((t : SpanValue) → Contains live t → P (extended own path place t))
        → ((m : ℕ) → from ≤ m → m ≤ length path → is_parent own path m ≡ true → P (fresh path place m)) → P s
    open_cases P s c went new = elim (Contains-append_cases (map (extended own path place) live)
        (opened own path place from (suc (length path))) s c) [
          | inl d ↦ (let t = contains_map (extended own path place) live s d in subst P t.2 (went t.0 t.1))
          | inr d ↦ (let m = opened_is own path place from (suc (length path)) s d in
              subst P m.4 (new m.0 m.1 (omega (arith, m.2)) m.3))
        ]

    went_in : (s : SpanValue) → Contains live s
        → Contains (map (extended own path place) live ++ opened own path place from (suc (length path)))
        (extended own path place s)
    went_in s c =
        Contains-append_left (map (extended own path place) live) (opened own path place from (suc (length path)))
        (extended own path place s) (contains_map_in (extended own path place) live s c)

    fresh_in : (m : ℕ) → from ≤ m → is_parent own path m ≡ true → Contains
        (map (extended own path place) live ++ opened own path place from (suc (length path))) (fresh path place m)
    fresh_in m l e = Contains-append_right (map (extended own path place) live)
        (opened own path place from (suc (length path))) (fresh path place m)
        (opened_has own path place from (suc (length path)) m l (omega (arith, front_within own path m e)) e)

    ends_went : (s : SpanValue) → Contains live s → HasEnds F Stands size (extended own path place s)
    ends_went s c = widened_ends (is_parent own path (length s.name)) place s inside (r.ends s (inr c))
        (λ e. to s.name (sym (F_front (length s.name)) ∙ e) (r.fronts s c))

    ends_fresh : (m : ℕ) → m ≤ length path → is_parent own path m ≡ true → HasEnds F Stands size (fresh path place m)
    ends_fresh m l e =
        let len : length (take m path) ≡ m = fresh_name m l in
        let here : Stands (take m path) place = to (take m path) (rw len (sym (F_front m) ∙ e)) (rw len (F_take m)) in
        let level : place + 1 - 1 ≡ place = omega arith in
        record { some = omega arith; inside = omega (arith, inside); first = here; last = rw level here }

    -- the directory of this length is open
    slash_open : (m : ℕ) → is_parent own (F path) m ≡ true → (s : SpanValue)
        × Contains (map (extended own path place) live ++ opened own path place from (suc (length path))) s
        × (length s.name ≡ m) × (s.start ≤ place) × (place < s.end)
    slash_open m t = elim (cases_lt m from) [
      | inl u ↦ (let s = r.there m u t in
          let b : is_parent own path (length s.0.name) ≡ true = ap (is_parent own path) s.2 ∙ F_front m ∙ t in (
            extended own path place s.0,
            went_in s.0 s.1,
            ap length (name_kept s.0) ∙ s.2,
            rw b (omega arith),
            rw b (omega arith),
          ))
      | inr u ↦ (let b : is_parent own path m ≡ true = F_front m ∙ t in
          (fresh path place m, fresh_in m u b, fresh_name m (front_within own path m b), omega arith, omega arith))
    ]

    fronts_next : (s : SpanValue)
        → Contains (map (extended own path place) live ++ opened own path place from (suc (length path))) s
        → F s.name ≡ take (length s.name) (F path)
    fronts_next s c = open_cases (λ x. F x.name ≡ take (length x.name) (F path)) s c
        (λ t d. rw (name_kept t) (r.fronts t d))
        (λ m f l e. rw (fresh_name m l) (F_take m))

    covers_old : (i : ℕ) (n : List ℕ) → Covers F Stands size closed live n i → Covers F Stands size closed
        (map (extended own path place) live ++ opened own path place from (suc (length path))) n i
    covers_old i n c = elim c.there [
      | inl d ↦ record { span = c.span; there = inl d; named = c.named; from = c.from; upto = c.upto }
      | inr d ↦ record {
        span = extended own path place c.span;
        there = inr (went_in c.span d);
        named = ap F (name_kept c.span) ∙ c.named;
        from = omega (arith, c.from, widened_start (is_parent own path (length c.span.name)) place c.span);
        upto = omega (arith, c.upto, widened_end (is_parent own path (length c.span.name)) place c.span);
      }
    ]

    covers_new : (n : List ℕ) → Stands n place → Covers F Stands size closed
        (map (extended own path place) live ++ opened own path place from (suc (length path))) n place
    covers_new n t =
        let b = back n t in
        let s = slash_open (length n) b.0 in
        record {
          span = s.0;
          there = inr s.1;
          named = fronts_next s.0 s.1 ∙ ap (λ (m : ℕ). take m (F path)) s.2 ∙ sym b.1;
          from = s.3;
          upto = s.4;
        }

    pub walked_next : Walked F Stands size (λ i. Seen i ⊎ (i ≡ place)) (F path) closed
        (map (extended own path place) live ++ opened own path place from (suc (length path)))
    walked_next = record {
      fronts = fronts_next;
      fits = λ s c. open_cases (λ x. length x.name ≤ length (F path)) s c
          (λ t d. rw (name_kept t) (r.fits t d))
          (λ m f l e. omega (arith, fresh_name m l, F_len));
      longer = pairs_join (λ a b. length a.name < length b.name) (map (extended own path place) live)
          (opened own path place from (suc (length path)))
          (pairs_map (λ a b. length a.name < length b.name) (extended own path place) live (λ i j d before within.
          rw (name_kept (get_or live i d), name_kept (get_or live j d)) (r.longer i j d before within)))
          (opened_longer own path place from (suc (length path)) (omega arith))
          (λ a b c d.
          let t = contains_map (extended own path place) live a c in
          let m = opened_is own path place from (suc (length path)) b d in
          omega (
            arith,
            ap (λ (s : SpanValue). length s.name) t.2,
            ap length (name_kept t.0),
            r.short t.0 t.1,
            ap (λ (s : SpanValue). length s.name) m.4,
            fresh_name m.0 (omega (arith, m.2)),
            m.1,
          ));
      rises = r.rises;
      passed = r.passed;
      slashes = λ m e. let s = slash_open m (front_slash own (F path) m e) in (s.0, s.1, s.2);
      ends = λ s h. elim h [
        | inl c ↦ r.ends s (inl c)
        | inr c ↦ open_cases (HasEnds F Stands size) s c (λ t d. ends_went t d) (λ m f l e. ends_fresh m l e)
      ];
      covers = λ i n h t. elim h [
        | inl seen ↦ covers_old i n (r.covers i n seen t)
        | inr e ↦ subst (λ (k : ℕ). Covers F Stands size closed (map (extended own path place) live
            ++ opened own path place from (suc (length path))) n k) (sym e) (covers_new n (subst (Stands n) e t))
      ];
    }

  -- ---- one step of the walk

  module _ (Seen : ℕ → Type 0) (own : Bool) (visit : NamedValue) (P : List ℕ) (shared : ℕ)
      (live closed live' closed' : List SpanValue) (step : IsStep own visit shared live closed live' closed')
      (w : Walked F Stands size Seen P closed live) (inside : visit.place < size)
      (shares : shared ≡ shared_len P (F visit.name)) (rises : path_cmp P (F visit.name) ≢ Greater)
      (to : (n : List ℕ) → is_parent own (F visit.name) (length n) ≡ true → F n ≡ take (length n) (F visit.name)
      → Stands n visit.place) (back : (n : List ℕ) → Stands n visit.place
      → (is_parent own (F visit.name) (length n) ≡ true) × (F n ≡ take (length n) (F visit.name)))
      (F_take : (m : ℕ) → F (take m visit.name) ≡ take m (F visit.name)) (F_len : length (F visit.name)
      ≡ length visit.name) (F_front : (m : ℕ) → is_parent own visit.name m ≡ is_parent own (F visit.name) m) where
    in_shared : shared ≤ length visit.name
    in_shared = omega (arith, shares, shared_within_second P (F visit.name), F_len)

    -- the last that goes on, read with a default z
    module _ (some : 0 < step.open_count) (z : SpanValue) where
      abbrev last : SpanValue
      last = get_or live (step.open_count - 1) z

      last_there : Contains (take step.open_count live) (get_or live (step.open_count - 1) z)
      last_there = subst (λ (s : SpanValue). Contains (take step.open_count live) s) (get_or-take step.open_count live
          (step.open_count - 1) z (omega arith)) (Contains-get_or (take step.open_count live) (step.open_count - 1) z
          (omega (arith, step.within, length-take step.open_count live)))

      last_from : step.from ≡ suc (length (get_or live (step.open_count - 1) z).name)
      last_from = omega (arith, step.last some z, step.short some z, in_shared)

      upto_last : (s : SpanValue) → Contains (take step.open_count live) s
          → length s.name ≤ length (get_or live (step.open_count - 1) z).name
      upto_last s c = by (cases_lt c.0 (step.open_count - 1))
        where
          in_take : c.0 < step.open_count
          in_take = omega (arith, c.1, length-take step.open_count live)

          here : get_or live c.0 z ≡ s
          here = get_or_default live c.0 z s (omega (arith, in_take, step.within))
              ∙ sym (get_or-take step.open_count live c.0 s in_take) ∙ c.2

          by : (c.0 < step.open_count - 1) ⊎ (step.open_count - 1 ≤ c.0)
              → length s.name ≤ length (get_or live (step.open_count - 1) z).name
          by (inl l) = omega (
            arith,
            w.longer c.0 (step.open_count - 1) z l (omega (arith, step.within)),
            ap (λ (t : SpanValue). length t.name) here,
          )
          by (inr l) =
              let level : step.open_count - 1 ≡ c.0 = omega (arith, in_take) in
              omega (arith, ap (λ (t : SpanValue). length t.name) (ap (λ (i : ℕ). get_or live i z) level ∙ here))

    some_kept : (s : SpanValue) → Contains (take step.open_count live) s → 0 < step.open_count
    some_kept s c = omega (arith, c.1, length-take step.open_count live)

    reach : (step.from ≡ 0)
        ⊎ ((s : SpanValue) × Contains (take step.open_count live) s × (step.from ≡ suc (length s.name)))
    reach = elim (cases_lt 0 step.open_count) [
      | inl some ↦ (let z : SpanValue = some_of live 0 (omega (arith, step.within)) in
          inr (get_or live (step.open_count - 1) z, last_there some z, last_from some z))
      | inr none ↦ inl (step.first (omega arith))
    ]

    reached : Reached F Stands size Seen own (F visit.name) (closed ++ reverse (drop step.open_count live))
        (take step.open_count live) step.from
    reached = reached_next F Stands size Seen P closed live w step.open_count own (F visit.name) step.from rises
        (λ s c. omega (arith, upto_last (some_kept s c) s s c, step.short (some_kept s c) s, shares))
        (λ s c. subst (λ (k : ℕ). k < length s.name) shares
        (All-contains (λ t. shared < length t.name) (drop step.open_count live) s step.long c))
        (λ s c. omega (arith, upto_last (some_kept s c) s s c, last_from (some_kept s c) s))
        reach

    pub walked_step : Walked F Stands size (λ i. Seen i ⊎ (i ≡ visit.place)) (F visit.name) closed' live'
    walked_step =
        subst (λ (ss : List SpanValue). Walked F Stands size (λ i. Seen i ⊎ (i ≡ visit.place)) (F visit.name) ss live')
        (sym step.closed_is) (subst (λ (ss : List SpanValue). Walked F Stands size (λ i. Seen i ⊎ (i ≡ visit.place))
        (F visit.name) (closed ++ reverse (drop step.open_count live)) ss) (sym step.open_is)
        (walked_next Seen own visit.name visit.place step.from (closed ++ reverse (drop step.open_count live))
        (take step.open_count live) reached inside to back F_take F_len F_front))
