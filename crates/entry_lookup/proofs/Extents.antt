-- What the walk over the paths gathers, as tables of directories.
use Rattle.std.proofs.Common.{◌≡◌, ℕ, zero, suc, ◌<◌, inl, inr, Bool, true, false, nat_eq, List, [], ◌∷◌, ◌++◌, length}
use Rattle.std.proofs.Common.{get_or, map, take, All, refl, sym, ap, ◌∙◌, subst, arith}
use Rattle.std.specs.Prelude.{◌==◌, ◌&&◌}
use Rattle.std.specs.Char.{to_ascii_lowercase}
use Rattle.std.specs.List.{Contains, starts_with}
use Rattle.std.specs.Ordering.{ordering_then}
use Rattle.std.specs.declared.cmp.Ordering.{Ordering}
use Rattle.std.specs.declared.cmp.Ordering.TheVariants.{Less, Equal, Greater}
use Rattle.std.proofs.lemmas.Bool.Decides.{nat_tests}
use Rattle.std.proofs.lemmas.List.{get_or_default, length-map, take_all}
use Rattle.std.proofs.lemmas.List.Elements.{Contains-get_or}
use Rattle.entry_list.specs.Record.{Record}
use Rattle.entry_lookup.specs.Closest.{is_directory}
use Rattle.entry_lookup.specs.Folded.{folded, is_same, stands_in_folded, IsNamed}
use Rattle.entry_lookup.specs.NameSteps.{NamedValue, named_at, named_value, outer_cmp, IsDirectoryTable, IsTableOf}
use Rattle.entry_lookup.specs.NameSteps.{NamedValuesRise}
use Rattle.entry_lookup.specs.WalkSteps.{AreExtents, SpanValue, is_parent, stands_where}
use Rattle.entry_lookup.specs.declared.names.Named.{Named}
use Rattle.base_search.proofs.Places.{some_of}
use Rattle.base_search.proofs.OrderedAnswers.{pairs_map}
use Rattle.entry_lookup.proofs.SortedNames.{sorted, sorted_contains, sorted_has, sorted_length, sorted_rises}
use Rattle.entry_lookup.proofs.TableMade.{and_both, begins_at, begins_to, contains_map, contains_map_in}
use Rattle.entry_lookup.proofs.TableMade.{directories_alike, folded_length, or_cases, or_left, or_right, same_from}
use Rattle.entry_lookup.proofs.TableMade.{same_to, slash_from, slash_to}
use Rattle.entry_lookup.proofs.TableSearch.{any_from, any_place}
use Rattle.entry_lookup.proofs.OpenedFronts.{front_slash, front_cases}

-- a directory with its first place
abbrev pub start_value : SpanValue → NamedValue
start_value s = named_at s.start s.name

-- ---- the names of the directories of a record

-- a name that a path continues, with a slash
below_front : (own : Bool) (P n : List ℕ) → starts_with nat_eq P (n ++ 47 ∷ []) ≡ true
    → (is_parent own P (length n) ≡ true) × (n ≡ take (length n) P)
below_front own P n t = let h = begins_at n P 47 t in (front_slash own P (length n) h.1, sym h.2)

last_front : (own : Bool) (P : List ℕ) (m : ℕ) → own ≡ true → m ≡ length P → is_parent own P m ≡ true
last_front own P m e f =
    let level : (m == length P) ≡ true = grind (arith, nat_tests, f) in
    or_right (get_or P m 0 == 47) (own && (m == length P)) (rw (e, level) refl)

itself_front : (own : Bool) (P n : List ℕ) → own ≡ true → P ≡ n
    → (is_parent own P (length n) ≡ true) × (n ≡ take (length n) P)
itself_front own P n o e =
    let len : length n ≡ length P = ap length (sym e) in
    (last_front own P (length n) o len, sym (take_all (length n) P (omega (arith, len)) ∙ e))

name_front : (own ignore_case : Bool) (P n : List ℕ) → (is_parent own P (length (folded ignore_case n)) ≡ true)
    × (folded ignore_case n ≡ take (length (folded ignore_case n)) P)
    → (is_parent own P (length n) ≡ true) × (folded ignore_case n ≡ take (length n) P)
name_front own ignore_case P n h =
    let len : length (folded ignore_case n) ≡ length n = folded_length ignore_case n in
    subst (λ (m : ℕ). (is_parent own P m ≡ true) × (folded ignore_case n ≡ take m P)) len h

pub stands_from : (own ignore_case : Bool) (n : List ℕ) (r : Record) → stands_where own ignore_case n r ≡ true
    → (is_parent (own && is_directory r) (folded ignore_case r.path) (length n) ≡ true)
    × (folded ignore_case n ≡ take (length n) (folded ignore_case r.path))
stands_from false ignore_case n r t = name_front false ignore_case (folded ignore_case r.path) n
    (below_front false (folded ignore_case r.path) (folded ignore_case n) t)
stands_from true ignore_case n r t =
    name_front (is_directory r) ignore_case (folded ignore_case r.path) n (elim (or_cases _ _ t) [
      | inl e ↦ (let both = and_both (is_directory r) (is_same ignore_case r.path n) e in
          itself_front (is_directory r) (folded ignore_case r.path) (folded ignore_case n) both.0
          (same_from (folded ignore_case r.path) (folded ignore_case n) both.1))
      | inr e ↦ below_front (is_directory r) (folded ignore_case r.path) (folded ignore_case n) e
    ])

below_to : (P n : List ℕ) (m : ℕ) → m < length P → get_or P m 0 ≡ 47 → n ≡ take m P
    → starts_with nat_eq P (n ++ 47 ∷ []) ≡ true
below_to P n m l e f = ap (λ (xs : List ℕ). starts_with nat_eq P (xs ++ 47 ∷ [])) f ∙ begins_to P m 47 l e

pub stands_to : (own ignore_case : Bool) (n : List ℕ) (r : Record)
    → is_parent (own && is_directory r) (folded ignore_case r.path) (length n) ≡ true
    → folded ignore_case n ≡ take (length n) (folded ignore_case r.path) → stands_where own ignore_case n r ≡ true
stands_to false ignore_case n r t e = elim (front_cases false (folded ignore_case r.path) (length n) t) [
  | inl h ↦ below_to (folded ignore_case r.path) (folded ignore_case n) (length n) h.0 h.1 e
  | inr h ↦ cc (h.0)
]
stands_to true ignore_case n r t e = elim (front_cases (is_directory r) (folded ignore_case r.path) (length n) t) [
  | inl h ↦ or_right (is_directory r && is_same ignore_case r.path n)
      (starts_with nat_eq (folded ignore_case r.path) (folded ignore_case n ++ 47 ∷ []))
      (below_to (folded ignore_case r.path) (folded ignore_case n) (length n) h.0 h.1 e)
  | inr h ↦ or_left (is_directory r && is_same ignore_case r.path n) (starts_with nat_eq (folded ignore_case r.path)
      (folded ignore_case n ++ 47 ∷ [])) (rw h.0 (same_to (folded ignore_case r.path) (folded ignore_case n)
      (sym (e ∙ take_all (length n) (folded ignore_case r.path) (omega (arith, h.1))))))
]

pub front_folded : (own ignore_case : Bool) (path : List ℕ) (m : ℕ)
    → is_parent own path m ≡ is_parent own (folded ignore_case path) m
front_folded own ignore_case path m = rw (folded_length ignore_case path, slash_same) refl
  where
    slash_same : (get_or path m 0 == 47) ≡ (get_or (folded ignore_case path) m 0 == 47)
    slash_same = by (get_or path m 0 == 47) refl (get_or (folded ignore_case path) m 0 == 47) refl
      where
        by : (a : Bool) → (get_or path m 0 == 47) ≡ a → (b : Bool) → (get_or (folded ignore_case path) m 0 == 47) ≡ b
            → a ≡ b
        by true d true e = refl
        by false d false e = refl
        by true d false e =
            let f = slash_to ignore_case path m (grind (arith, nat_tests, d)) in
            let g : (get_or (folded ignore_case path) m 0 == 47) ≡ true = grind (arith, nat_tests, f) in
            cc
        by false d true e =
            let f = slash_from ignore_case path m (grind (arith, nat_tests, e)) in
            let g : (get_or path m 0 == 47) ≡ true = grind (arith, nat_tests, f) in
            cc

-- ---- the table of first places

module _ (ignore_case : Bool) (rs : List Record) (ss : List SpanValue) (x : AreExtents true ignore_case rs ss) where
  falls : (o p : Ordering) → o ≡ Less → ordering_then o p ≡ Greater → ⊥
  falls Less p e h = cc
  falls Equal p e h = cc
  falls Greater p e h = cc

  starts_rise : NamedValuesRise true ignore_case (map start_value ss)
  starts_rise =
      pairs_map (λ a b. outer_cmp (folded ignore_case a.name) (folded ignore_case b.name) ≡ Less) start_value ss x.rises

  start_of : (j : ℕ) (d : NamedValue) → j < length (map start_value ss)
      → (s : SpanValue) × Contains ss s × (start_value s ≡ get_or (map start_value ss) j d)
  start_of j d l =
      contains_map start_value ss (get_or (map start_value ss) j d) (Contains-get_or (map start_value ss) j d l)

  pub table_of_extents : IsTableOf true ignore_case (stands_in_folded ignore_case) rs (map start_value ss)
      × NamedValuesRise true ignore_case (map start_value ss)
  table_of_extents = (
    record {
      within = λ j d l.
          let s = start_of j d l in
          subst (λ (k : NamedValue). k.place < length rs) s.2 (omega (arith, x.some s.0 s.1));
      sound = λ j d q l.
          let s = start_of j d l in
          subst (λ (k : NamedValue). stands_in_folded ignore_case k.name (get_or rs k.place q) ≡ true) s.2
          (x.first s.0 q s.1);
      complete = λ name i q within t.
          let s = x.covers name i within
          (λ d. ap (stands_in_folded ignore_case name) (get_or_default rs i d q within) ∙ t) in
          (start_value s.0, contains_map_in start_value ss s.0 s.1, s.2, s.3);
      alike = directories_alike ignore_case;
      ordered = λ i j d before within e. falls _ _ (starts_rise i j d before within) e;
    },
    starts_rise,
  )

-- ---- the directories in the order of their names

all_map : {X Y : Type 0} (f : X → Y) (P : Y → Type 0) → ((x : X) → P (f x)) → (xs : List X) → All P (map f xs)
all_map f P h [] k d within = absurd (omega arith)
all_map f P h (x ∷ xs) zero d within = h x
all_map f P h (x ∷ xs) (suc k) d within = all_map f P h xs k d (omega arith)

lower_twice : (x : ℕ) → to_ascii_lowercase (to_ascii_lowercase x) ≡ to_ascii_lowercase x
lower_twice x = grind (arith, nat_tests)

folded_twice : (ignore_case : Bool) (n : List ℕ) → folded ignore_case (folded ignore_case n) ≡ folded ignore_case n
folded_twice false n = refl
folded_twice true [] = refl
folded_twice true (x ∷ n) = ap (λ (y : ℕ). y ∷ folded true (folded true n)) (lower_twice x)
    ∙ ap (λ (ys : List ℕ). to_ascii_lowercase x ∷ ys) (folded_twice true n)

pub named_of : (ignore_case : Bool) (rs : List Record) (ks : List NamedValue)
    → IsTableOf true ignore_case (stands_in_folded ignore_case) rs ks → NamedValuesRise true ignore_case ks
    → IsNamed ignore_case rs (sorted (map (λ k. folded ignore_case k.name) ks))
named_of ignore_case rs ks t once =
    let f : NamedValue → List ℕ = λ k. folded ignore_case k.name in
    let ns : List (List ℕ) = map f ks in
    record {
      once = sorted_rises ns (pairs_map (λ a b. outer_cmp a b ≡ Less) f ks once);
      in_case = λ i d l.
          let c = contains_map f ks (get_or (sorted ns) i d)
          (sorted_contains ns (get_or (sorted ns) i d) (Contains-get_or (sorted ns) i d l)) in
          subst (λ (n : List ℕ). folded ignore_case n ≡ n) c.2 (folded_twice ignore_case c.0.name);
      each = λ name. (
        λ c. let k = contains_map f ks (folded ignore_case name) (sorted_contains ns (folded ignore_case name) c) in
            let P : NamedValue → Type 0 = λ x. x.place < length rs in
            any_from (stands_in_folded ignore_case name) rs k.0.place (subst P k.1.2 (t.within k.1.0 k.0 k.1.1)) (λ q.
            let Q : NamedValue → Type 0 = λ x. stands_in_folded ignore_case x.name (get_or rs x.place q) ≡ true in
            t.alike name k.0.name (get_or rs k.0.place q) (sym k.2) ∙ subst Q k.1.2 (t.sound k.1.0 k.0 q k.1.1)),
        λ h. let a = any_place (stands_in_folded ignore_case name) rs h in
            let q : Record = some_of rs a.0 a.1 in
            let c = t.complete name a.0 q a.1 (a.2 q) in
            sorted_has ns (folded ignore_case name) (subst (λ (x : List ℕ). Contains
            (map (λ (k : NamedValue). folded ignore_case k.name) ks) x) c.2 (contains_map_in f ks c.0 c.1)),
      );
    }

-- what is so of the number of names of a table is so of the number of directories
pub directories_named : (P : ℕ → Type 0) (ignore_case : Bool) (rs : List Record) (table : List Named)
    → IsDirectoryTable ignore_case rs table → P (length table)
    → (names : List (List ℕ)) × IsNamed ignore_case rs names × P (length names)
directories_named P ignore_case rs table t h =
    let ks = map named_value table in
    let f : NamedValue → List ℕ = λ k. folded ignore_case k.name in (
      sorted (map f ks),
      named_of ignore_case rs ks t.0 t.1,
      subst P (sym (sorted_length (map f ks) ∙ length-map ks f ∙ length-map table named_value)) h,
    )
