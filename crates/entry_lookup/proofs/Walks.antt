-- The state of directories while paths are traversed in order. Open directories are prefixes of the last path, and
-- closed ones are below all later paths.
use Rattle.std.proofs.Common.{◌≡◌, ◌≢◌, ℕ, suc, ◌-◌, ◌<◌, ◌≤◌, ◌⊎◌, inl, inr, Bool, true, List, [], ◌++◌, length}
use Rattle.std.proofs.Common.{get_or, take, drop, reverse, sym, ap, ◌∙◌, arith, length-take}
use Rattle.std.specs.List.{AllPairs, Contains}
use Rattle.std.specs.declared.cmp.Ordering.TheVariants.{Less, Greater}
use Rattle.std.proofs.lemmas.Bool.{cases_lt}
use Rattle.std.proofs.lemmas.List.{get_or-take}
use Rattle.std.proofs.lemmas.List.Elements.{Contains-append_left, Contains-append_right, Contains-append_cases}
use Rattle.std.proofs.lemmas.List.Elements.{Contains-get_or}
use Rattle.entry_list.specs.Order.{path_cmp}
use Rattle.entry_list.specs.Shared.{shared_len}
use Rattle.entry_list.proofs.SharedFronts.{shared_front, shared_within_second}
use Rattle.entry_lookup.specs.NameSteps.{common_cmp, outer_cmp}
use Rattle.entry_lookup.specs.WalkSteps.{SpanValue, is_parent}
use Rattle.entry_lookup.proofs.Fronts.{same_front}
use Rattle.entry_lookup.proofs.Outer.{front_left, front_stays, outer_longer, outer_of_front}
use Rattle.entry_lookup.proofs.Pairs.{contains_drop, contains_in_reverse, contains_reverse, contains_split}
use Rattle.entry_lookup.proofs.Pairs.{contains_take, pairs_drop, pairs_join, pairs_reverse, pairs_take}
use Rattle.entry_lookup.proofs.TableMade.{contains_none}
use Rattle.entry_lookup.proofs.OpenedFronts.{slash_of}

module _ (F : List ℕ → List ℕ) (Stands : List ℕ → ℕ → Type 0) (size : ℕ) where
  -- the first and the last of a directory's indices are in it
  pub record HasEnds (s : SpanValue) : Type 0 where
    pub some : s.start < s.end
    pub inside : s.end ≤ size
    pub first : Stands s.name s.start
    pub last : Stands s.name (s.end - 1)

  -- one of these directories has the name, and the place between its ends
  pub record Covers (closed live : List SpanValue) (name : List ℕ) (place : ℕ) : Type 0 where
    pub span : SpanValue
    pub there : Contains closed span ⊎ Contains live span
    pub named : F span.name ≡ F name
    pub from : span.start ≤ place
    pub upto : place < span.end

  -- the last path is P, and Seen is true of the indices that were visited
  pub record Walked (Seen : ℕ → Type 0) (P : List ℕ) (closed live : List SpanValue) : Type 0 where
    pub fronts : (s : SpanValue) → Contains live s → F s.name ≡ take (length s.name) P
    pub fits : (s : SpanValue) → Contains live s → length s.name ≤ length P
    pub longer : AllPairs (λ a b. length a.name < length b.name) live
    pub rises : AllPairs (λ a b. outer_cmp (F a.name) (F b.name) ≡ Less) closed
    pub passed : (s : SpanValue) → Contains closed s → common_cmp (F s.name) P ≡ Less
    pub slashes : (m : ℕ) → get_or P m 0 ≡ 47 → (s : SpanValue) × Contains live s × (length s.name ≡ m)
    pub ends : (s : SpanValue) → Contains closed s ⊎ Contains live s → HasEnds s
    pub covers : (i : ℕ) (n : List ℕ) → Seen i → Stands n i → Covers closed live n i

  -- the next path is P: what isn't a front of it is closed, and no front of it that is shorter than `from` is missing
  pub record Reached (Seen : ℕ → Type 0) (own : Bool) (P : List ℕ) (closed live : List SpanValue)
      (from : ℕ) : Type 0 where
    pub fronts : (s : SpanValue) → Contains live s → F s.name ≡ take (length s.name) P
    pub fits : (s : SpanValue) → Contains live s → length s.name ≤ length P
    pub short : (s : SpanValue) → Contains live s → length s.name < from
    pub longer : AllPairs (λ a b. length a.name < length b.name) live
    pub rises : AllPairs (λ a b. outer_cmp (F a.name) (F b.name) ≡ Less) closed
    pub passed : (s : SpanValue) → Contains closed s → common_cmp (F s.name) P ≡ Less
    pub there : (m : ℕ) → m < from → is_parent own P m ≡ true → (s : SpanValue) × Contains live s × (length s.name ≡ m)
    pub ends : (s : SpanValue) → Contains closed s ⊎ Contains live s → HasEnds s
    pub covers : (i : ℕ) (n : List ℕ) → Seen i → Stands n i → Covers closed live n i

  -- ---- to begin with

  pub walked_none : Walked (λ _. ⊥) [] [] []
  walked_none = record {
    fronts = λ s c. absurd (contains_none s c);
    fits = λ s c. absurd (contains_none s c);
    longer = λ i j d before within. absurd (omega arith);
    rises = λ i j d before within. absurd (omega arith);
    passed = λ s c. absurd (contains_none s c);
    slashes = λ m e. absurd (omega arith);
    ends = λ s h. elim h [ inl c ↦ absurd (contains_none s c) | inr c ↦ absurd (contains_none s c) ];
    covers = λ i n h t. absurd h;
  }

  -- ---- what is closed

  module _ (Seen : ℕ → Type 0) (P : List ℕ) (closed live : List SpanValue) (w : Walked Seen P closed live)
      (open_count : ℕ) where
    abbrev gone : List SpanValue
    gone = drop open_count live

    gone_in : (s : SpanValue) → Contains (reverse (drop open_count live)) s → Contains live s
    gone_in s c = contains_drop open_count live s (contains_reverse (drop open_count live) s c)

    pub rises_closed : AllPairs (λ a b. outer_cmp (F a.name) (F b.name) ≡ Less)
        (closed ++ reverse (drop open_count live))
    rises_closed =
        pairs_join (λ a b. outer_cmp (F a.name) (F b.name) ≡ Less) closed (reverse (drop open_count live)) w.rises
        (pairs_reverse (λ a b. outer_cmp (F a.name) (F b.name) ≡ Less) (drop open_count live) (λ i j d before within.
        down (get_or (drop open_count live) i d) (get_or (drop open_count live) j d) (at i d (omega arith)) (at j d
        within) (pairs_drop (λ a b. length a.name < length b.name) open_count live w.longer i j d before within)))
        (λ t s c d. let e = outer_of_front (F t.name) P (length s.name) (w.passed t c) in
        ap (outer_cmp (F t.name)) (w.fronts s (gone_in s d)) ∙ e)
      where
        at : (i : ℕ) (d : SpanValue) → i < length (drop open_count live)
            → Contains live (get_or (drop open_count live) i d)
        at i d l = contains_drop open_count live (get_or (drop open_count live) i d)
            (Contains-get_or (drop open_count live) i d l)

        down : (a b : SpanValue) → Contains live a → Contains live b → length a.name < length b.name
            → outer_cmp (F b.name) (F a.name) ≡ Less
        down a b c d l = rw (w.fronts a c, w.fronts b d) (outer_longer P (length a.name) (length b.name) l (w.fits b d))

    moved : (s : SpanValue) → Contains closed s ⊎ Contains live s
        → Contains (closed ++ reverse (drop open_count live)) s ⊎ Contains (take open_count live) s
    moved s (inl c) = inl (Contains-append_left closed (reverse (drop open_count live)) s c)
    moved s (inr c) = elim (contains_split open_count live s c) [
      | inl d ↦ inr d
      | inr d ↦ inl (Contains-append_right closed (reverse (drop open_count live)) s
          (contains_in_reverse (drop open_count live) s d))
    ]

    was : (s : SpanValue) → Contains (closed ++ reverse (drop open_count live)) s ⊎ Contains (take open_count live) s
        → Contains closed s ⊎ Contains live s
    was s (inl c) = elim (Contains-append_cases closed (reverse (drop open_count live)) s c) [
      | inl d ↦ inl d
      | inr d ↦
          inr (gone_in s d)
    ]
    was s (inr c) = inr (contains_take open_count live s c)

    pub ends_closed : (s : SpanValue)
        → Contains (closed ++ reverse (drop open_count live)) s ⊎ Contains (take open_count live) s → HasEnds s
    ends_closed s h = w.ends s (was s h)

    pub covers_closed : (i : ℕ) (n : List ℕ) → Seen i → Stands n i
        → Covers (closed ++ reverse (drop open_count live)) (take open_count live) n i
    covers_closed i n h t =
        let c = w.covers i n h t in
        record { span = c.span; there = moved c.span c.there; named = c.named; from = c.from; upto = c.upto }

    module _ (own : Bool) (Q : List ℕ) (from : ℕ) (rises : path_cmp P Q ≢ Greater)
        (short : (s : SpanValue) → Contains (take open_count live) s → length s.name ≤ shared_len P Q)
        (long : (s : SpanValue) → Contains (drop open_count live) s → shared_len P Q < length s.name)
        (below : (s : SpanValue) → Contains (take open_count live) s → length s.name < from) (reached : (from ≡ 0)
        ⊎ ((s : SpanValue) × Contains (take open_count live) s × (from ≡ suc (length s.name)))) where
      abbrev n : ℕ
      n = shared_len P Q

      front_same : (m : ℕ) → m ≤ shared_len P Q → take m P ≡ take m Q
      front_same m l = same_front m (shared_len P Q) P Q l (shared_front P Q)

      byte_same : (m : ℕ) → m < shared_len P Q → get_or P m 0 ≡ get_or Q m 0
      byte_same m l = sym (get_or-take (shared_len P Q) P m 0 l)
          ∙ ap (λ (xs : List ℕ). get_or xs m 0) (shared_front P Q) ∙ get_or-take (shared_len P Q) Q m 0 l

      passed_by : (s : SpanValue) → Contains closed s ⊎ Contains (reverse (drop open_count live)) s
          → common_cmp (F s.name) Q ≡ Less
      passed_by s (inl c) = front_stays (F s.name) P Q (w.passed s c) rises
      passed_by s (inr c) =
          let e : F s.name ≡ take (length s.name) P = w.fronts s (gone_in s c) in
          let len : length (take (length s.name) P) ≡ length s.name =
          omega (arith, length-take (length s.name) P, w.fits s (gone_in s c)) in
          let far : shared_len P Q < length s.name = long s (contains_reverse (drop open_count live) s c) in
          rw e (front_left (take (length s.name) P) P Q (ap (λ (k : ℕ). take k P) (sym len))
          (omega (arith, len, w.fits s (gone_in s c))) (omega (arith, len, far)) rises)

      slash_from : (m : ℕ) → m < length Q → is_parent own Q m ≡ true → get_or Q m 0 ≡ 47
      slash_from m l t = slash_of own Q m l t

      kept_there : (s : SpanValue) → Contains live s → length s.name ≤ shared_len P Q
          → Contains (take open_count live) s
      kept_there s c l =
          elim (contains_split open_count live s c) [ inl d ↦ d | inr d ↦ absurd (omega (arith, long s d)) ]

      found : (m : ℕ) → is_parent own Q m ≡ true → m < from
          → (from ≡ 0) ⊎ ((s : SpanValue) × Contains (take open_count live) s × (from ≡ suc (length s.name)))
          → (s : SpanValue) × Contains (take open_count live) s × (length s.name ≡ m)
      found m t l (inl e) = absurd (omega arith)
      found m t l (inr h) = by (cases_lt m (length h.0.name))
        where
          within : length h.0.name ≤ shared_len P Q
          within = short h.0 h.1

          by : (m < length h.0.name) ⊎ (length h.0.name ≤ m)
              → (s : SpanValue) × Contains (take open_count live) s × (length s.name ≡ m)
          by (inl u) =
              let slash : get_or Q m 0 ≡ 47 = slash_from m (omega (arith, within, shared_within_second P Q)) t in
              let s = w.slashes m (byte_same m (omega (arith, within)) ∙ slash) in
              (s.0, kept_there s.0 s.1 (omega (arith, s.2, within)), s.2)
          by (inr u) = (h.0, h.1, omega (arith, h.2))

      pub reached_next : Reached Seen own Q (closed ++ reverse (drop open_count live)) (take open_count live) from
      reached_next = record {
        fronts = λ s c. w.fronts s (contains_take open_count live s c) ∙ front_same (length s.name) (short s c);
        fits = λ s c. omega (arith, short s c, shared_within_second P Q);
        short = below;
        longer = pairs_take (λ a b. length a.name < length b.name) open_count live w.longer;
        rises = rises_closed;
        passed = λ s c. passed_by s (Contains-append_cases closed (reverse (drop open_count live)) s c);
        there = λ m l t. found m t l reached;
        ends = ends_closed;
        covers = covers_closed;
      }

  -- of places that were seen, some
  pub walked_fewer : (Seen Fewer : ℕ → Type 0) (P : List ℕ) (closed live : List SpanValue)
      → ((i : ℕ) → Fewer i → Seen i) → Walked Seen P closed live → Walked Fewer P closed live
  walked_fewer Seen Fewer P closed live h w = record {
    fronts = w.fronts;
    fits = w.fits;
    longer = w.longer;
    rises = w.rises;
    passed = w.passed;
    slashes = w.slashes;
    ends = w.ends;
    covers = λ i n f t. w.covers i n (h i f) t;
  }
