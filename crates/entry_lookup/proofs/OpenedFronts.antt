-- The directories of a path: its prefixes that end before a slash, and those of them that are opened.
use Rattle.std.proofs.Common.{◌≡◌, ℕ, zero, suc, ◌+◌, ◌<◌, ◌≤◌, ◌⊎◌, inl, inr, Bool, true, false, cond, nat_lt, List}
use Rattle.std.proofs.Common.{[], ◌∷◌, ◌++◌, length, get_or, take, refl, sym, ap, ◌∙◌, subst, arith, length-take}
use Rattle.std.specs.Prelude.{◌==◌, ◌&&◌, ◌||◌}
use Rattle.std.specs.List.{AllPairs, Contains}
use Rattle.std.proofs.lemmas.Bool.{cases_lt}
use Rattle.std.proofs.lemmas.Bool.Decides.{nat_tests}
use Rattle.std.proofs.lemmas.List.{append-nil, get_or_past}
use Rattle.std.proofs.lemmas.List.Elements.{Contains-append_left, Contains-append_right, Contains-append_cases}
use Rattle.std.proofs.lemmas.List.Elements.{Contains-get_or}
use Rattle.std.proofs.lemmas.List.Quantifiers.{all_pairs_push}
use Rattle.entry_lookup.specs.WalkSteps.{SpanValue, is_parent, opened}
use Rattle.entry_lookup.proofs.TableMade.{contains_none, contains_one}

-- a prefix that is shorter than the path ends before a slash
pub slash_of : (own : Bool) (path : List ℕ) (m : ℕ) → m < length path → is_parent own path m ≡ true
    → get_or path m 0 ≡ 47
slash_of own path m l t = by (get_or path m 0 == 47) refl
  where
    by : (b : Bool) → (get_or path m 0 == 47) ≡ b → get_or path m 0 ≡ 47
    by true e = grind (arith, nat_tests, e)
    by false e = absurd (no own (rw e at t))
      where
        no : (o : Bool) → (o && (m == length path)) ≡ true → ⊥
        no true u = let v : (m == length path) ≡ false = grind (arith, nat_tests, l) in cc
        no false u = cc

-- and each slash ends one
pub front_slash : (own : Bool) (path : List ℕ) (m : ℕ) → get_or path m 0 ≡ 47 → is_parent own path m ≡ true
front_slash own path m e = let t : (get_or path m 0 == 47) ≡ true = grind (arith, nat_tests, e) in rw t refl

pub front_within : (own : Bool) (path : List ℕ) (m : ℕ) → is_parent own path m ≡ true → m ≤ length path
front_within own path m t = by (cases_lt (length path) m)
  where
    by : (length path < m) ⊎ (m ≤ length path) → m ≤ length path
    by (inr u) = u
    by (inl l) = absurd (no own (rw none at t))
      where
        none : (get_or path m 0 == 47) ≡ false
        none = let past : get_or path m 0 ≡ 0 = get_or_past path m 0 (omega arith) in rw past refl

        no : (o : Bool) → (o && (m == length path)) ≡ true → ⊥
        no true u = let v : (m == length path) ≡ false = grind (arith, nat_tests, l) in cc
        no false u = cc

pub front_cases : (own : Bool) (path : List ℕ) (m : ℕ) → is_parent own path m ≡ true
    → ((m < length path) × (get_or path m 0 ≡ 47)) ⊎ ((own ≡ true) × (m ≡ length path))
front_cases own path m t = by (cases_lt m (length path))
  where
    own_is : (o : Bool) → m ≡ length path → (get_or path m 0 == 47) ≡ false
        → ((get_or path m 0 == 47) || (o && (m == length path))) ≡ true → o ≡ true
    own_is true e n u = refl
    own_is false e n u = cc

    by : (m < length path) ⊎ (length path ≤ m)
        → ((m < length path) × (get_or path m 0 ≡ 47)) ⊎ ((own ≡ true) × (m ≡ length path))
    by (inl l) = inl (l, slash_of own path m l t)
    by (inr l) =
        let level : m ≡ length path = omega (arith, front_within own path m t) in
        let past : get_or path m 0 ≡ 0 = get_or_past path m 0 l in
        let none : (get_or path m 0 == 47) ≡ false = rw past refl in
        inr (own_is own level none t, level)

-- ---- the directories of a path that are opened

abbrev pub fresh : List ℕ → ℕ → ℕ → SpanValue
fresh path place m = record { name = take m path; start = place; end = place + 1 }

module _ (own : Bool) (path : List ℕ) (place from : ℕ) where
  pub opened_is : (n : ℕ) (s : SpanValue) → Contains (opened own path place from n) s
      → (m : ℕ) × (from ≤ m) × (m < n) × (is_parent own path m ≡ true) × (fresh path place m ≡ s)
  opened_is zero s c = absurd (contains_none s c)
  opened_is (suc n) s c = by (opened_is n s) (nat_lt n from) refl c
    where
      here : (b : Bool) → is_parent own path n ≡ b → from ≤ n → Contains (cond b (fresh path place n ∷ []) []) s
          → (m : ℕ) × (from ≤ m) × (m < suc n) × (is_parent own path m ≡ true) × (fresh path place m ≡ s)
      here true e l d = (n, l, omega arith, e, contains_one (fresh path place n) s d)
      here false e l d = absurd (contains_none s d)

      by : (Contains (opened own path place from n) s → (m : ℕ) × (from ≤ m) × (m < n) × (is_parent own path m ≡ true)
          × (fresh path place m ≡ s)) → (b : Bool) → nat_lt n from ≡ b → Contains
          (cond b [] (opened own path place from n ++ cond (is_parent own path n) (fresh path place n ∷ []) [])) s
          → (m : ℕ) × (from ≤ m) × (m < suc n) × (is_parent own path m ≡ true) × (fresh path place m ≡ s)
      by earlier true e d = absurd (contains_none s d)
      by earlier false e d = elim (Contains-append_cases (opened own path place from n)
          (cond (is_parent own path n) (fresh path place n ∷ []) []) s d) [
            | inl a ↦ (let h = earlier a in (h.0, h.1, omega (arith, h.2), h.3, h.4))
            | inr a ↦ here (is_parent own path n) refl (grind (arith, nat_tests, e)) a
          ]

  pub opened_has : (n m : ℕ) → from ≤ m → m < n → is_parent own path m ≡ true
      → Contains (opened own path place from n) (fresh path place m)
  opened_has zero m f l e = absurd (omega arith)
  opened_has (suc n) m f l e =
      let not : nat_lt n from ≡ false = grind (arith, nat_tests, f, l) in
      rw not (by (λ a. opened_has n m f a e) (cases_lt m n))
    where
      by : (m < n → Contains (opened own path place from n) (fresh path place m)) → (m < n) ⊎ (n ≤ m)
          → Contains (opened own path place from n ++ cond (is_parent own path n) (fresh path place n ∷ []) [])
          (fresh path place m)
      by earlier (inl a) = Contains-append_left (opened own path place from n)
          (cond (is_parent own path n) (fresh path place n ∷ []) []) (fresh path place m) (earlier a)
      by earlier (inr b) =
          let same : m ≡ n = omega arith in
          let t : is_parent own path n ≡ true = ap (is_parent own path) (sym same) ∙ e in
          rw (same, t) (Contains-append_right (opened own path place from n) (fresh path place n ∷ [])
          (fresh path place n) (0, omega arith, refl))

  pub opened_longer : (n : ℕ) → n ≤ suc (length path)
      → AllPairs (λ a b. length a.name < length b.name) (opened own path place from n)
  opened_longer zero l = λ i j d before within. absurd (omega arith)
  opened_longer (suc n) l = by (opened_longer n (omega arith)) (nat_lt n from)
    where
      last : (b : Bool) → AllPairs (λ a b. length a.name < length b.name) (opened own path place from n) → AllPairs
          (λ a b. length a.name < length b.name) (opened own path place from n ++ cond b (fresh path place n ∷ []) [])
      last false h =
          subst (AllPairs (λ a b. length a.name < length b.name)) (sym (append-nil (opened own path place from n))) h
      last true h = all_pairs_push (λ a b. length a.name < length b.name) (opened own path place from n)
          (fresh path place n) h (λ k d u.
          let m = opened_is n (get_or (opened own path place from n) k d)
          (Contains-get_or (opened own path place from n) k d u) in
          let len : length (get_or (opened own path place from n) k d).name ≤ m.0 =
          omega (arith, ap (λ (s : SpanValue). length s.name) m.4, length-take m.0 path) in
          omega (arith, len, m.2, length-take n path))

      by : AllPairs (λ a b. length a.name < length b.name) (opened own path place from n) → (b : Bool)
          → AllPairs (λ a b. length a.name < length b.name)
          (cond b [] (opened own path place from n ++ cond (is_parent own path n) (fresh path place n ∷ []) []))
      by h true = λ i j d before within. absurd (omega arith)
      by h false = last (is_parent own path n) h
