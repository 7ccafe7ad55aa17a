-- Names that were gathered and put in order are a table.
use Rattle.std.proofs.Common.{◌≡◌, ◌≢◌, ℕ, zero, suc, ◌+◌, ◌-◌, ◌<◌, ◌≤◌, ◌⊎◌, inl, inr, Bool, true, false, List, []}
use Rattle.std.proofs.Common.{◌∷◌, ◌++◌, length, get_or, take, map, refl, sym, ap, ◌∙◌, subst, arith, nat_eq}
use Rattle.std.proofs.Common.{length-append, length-take}
use Rattle.std.proofs.Math.ListN.{get_or-map}
use Rattle.std.specs.Char.{to_ascii_lowercase}
use Rattle.std.specs.List.{AllPairs, Contains, starts_with, take-map}
use Rattle.std.specs.List.Sorted.{IsPermutation}
use Rattle.std.specs.Prelude.{◌&&◌, ◌||◌}
use Rattle.std.specs.Str.{bytes_eq}
use Rattle.std.specs.Cmp.Lexicographic.{bytes_decides}
use Rattle.std.specs.declared.cmp.Ordering.TheVariants.{Greater}
use Rattle.std.proofs.lemmas.Bool.Decides.{nat_tests}
use Rattle.std.proofs.lemmas.List.{length-map, get_or-take, get_or_push, take-take, take_at}
use Rattle.std.proofs.lemmas.List.Elements.{Contains-append_left, Contains-append_right, Contains-append_cases}
use Rattle.std.proofs.lemmas.List.Elements.{Contains-get_or}
use Rattle.std.proofs.lemmas.List.Sorted.{Contains-permutation, IsPermutation-sym}
use Rattle.entry_list.specs.Record.{Record}
use Rattle.entry_lookup.specs.Closest.{is_directory}
use Rattle.entry_lookup.specs.Folded.{folded, is_same, stands_in_folded}
use Rattle.entry_lookup.specs.NameSteps.{NamedValue, named_at, named_cmp, named_from, path_names, IsTableOf}

-- The names of records with indices of records that have them. For each record and its name there is an index that is
-- not after the record's.
pub record AreNamedIn (names : Record → List (List ℕ)) (rs : List Record) (ks : List NamedValue) : Type 0 where
  pub sound : (k : NamedValue) → Contains ks k
      → (k.place < length rs) × ((q : Record) → Contains (names (get_or rs k.place q)) k.name)
  pub complete : (i : ℕ) (q : Record) (n : List ℕ) → i < length rs → Contains (names (get_or rs i q)) n
      → (k : NamedValue) × Contains ks k × (k.name ≡ n) × (k.place ≤ i)

-- ---- elements of what is put together

pub contains_one : {X : Type 0} (x z : X) → Contains (x ∷ []) z → x ≡ z
contains_one x z c = by c.0 c.1 c.2
  where
    by : (k : ℕ) → k < length (x ∷ []) → get_or (x ∷ []) k z ≡ z → x ≡ z
    by zero h e = e
    by (suc k) h e = absurd (omega arith)

pub contains_cases : {X : Type 0} (x : X) (xs : List X) (z : X) → Contains (x ∷ xs) z → (x ≡ z) ⊎ Contains xs z
contains_cases x xs z c = by c.0 c.1 c.2
  where
    by : (k : ℕ) → k < length (x ∷ xs) → get_or (x ∷ xs) k z ≡ z → (x ≡ z) ⊎ Contains xs z
    by zero h e = inl e
    by (suc k) h e = inr (k, omega arith, e)

pub contains_map : {X Y : Type 0} (f : X → Y) (xs : List X) (y : Y) → Contains (map f xs) y
    → (x : X) × Contains xs x × (f x ≡ y)
contains_map f [] y c = absurd (omega (arith, c.1))
contains_map {X} f (x ∷ xs) y c = by (contains_map f xs y) (contains_cases (f x) (map f xs) y c)
  where
    by : (Contains (map f xs) y → (z : X) × Contains xs z × (f z ≡ y)) → (f x ≡ y) ⊎ Contains (map f xs) y
        → (z : X) × Contains (x ∷ xs) z × (f z ≡ y)
    by later (inl e) = (x, (0, omega arith, refl), e)
    by later (inr d) = let r = later d in (r.0, (suc r.1.0, omega (arith, r.1.1), r.1.2), r.2)

pub contains_map_in : {X Y : Type 0} (f : X → Y) (xs : List X) (x : X) → Contains xs x → Contains (map f xs) (f x)
contains_map_in f xs x c = (c.0, omega (arith, c.1, length-map xs f), get_or-map f xs c.0 x ∙ ap f c.2)

pub contains_none : {X : Type 0} (z : X) → Contains [] z → ⊥
contains_none z c = absurd (omega (arith, c.1))

-- ---- names with their places

pub named_sound : (names : Record → List (List ℕ)) (i : ℕ) (rs : List Record) (k : NamedValue)
    → Contains (named_from names i rs) k
    → (i ≤ k.place) × (k.place < i + length rs) × ((q : Record) → Contains (names (get_or rs (k.place - i) q)) k.name)
named_sound names i [] k c = absurd (contains_none k c)
named_sound names i (r ∷ rs) k c = by (named_sound names (i + 1) rs k)
    (Contains-append_cases (map (named_at i) (names r)) (named_from names (i + 1) rs) k c)
  where
    by : (Contains (named_from names (i + 1) rs) k → (i + 1 ≤ k.place) × (k.place < i + 1 + length rs)
        × ((q : Record) → Contains (names (get_or rs (k.place - (i + 1)) q)) k.name))
        → Contains (map (named_at i) (names r)) k ⊎ Contains (named_from names (i + 1) rs) k → (i ≤ k.place)
        × (k.place < i + length (r ∷ rs)) × ((q : Record) → Contains (names (get_or (r ∷ rs) (k.place - i) q)) k.name)
    by later (inl d) =
        let m = contains_map (named_at i) (names r) k d in
        let at : i ≡ k.place = ap (λ (x : NamedValue). x.place) m.2 in
        let name : m.0 ≡ k.name = ap (λ (x : NamedValue). x.name) m.2 in
        let first : k.place - i ≡ 0 = omega (arith, at) in
        (omega (arith, at), omega (arith, at), λ q. rw first (subst (λ (n : List ℕ). Contains (names r) n) name m.1))
    by later (inr d) =
        let h = later d in
        let next : k.place - i ≡ suc (k.place - (i + 1)) = omega (arith, h.0) in
        (omega (arith, h.0), omega (arith, h.1), λ q. rw next (h.2 q))

pub named_complete : (names : Record → List (List ℕ)) (b : ℕ) (rs : List Record) (i : ℕ) (q : Record) (n : List ℕ)
    → i < length rs → Contains (names (get_or rs i q)) n → Contains (named_from names b rs) (named_at (b + i) n)
named_complete names b [] i q n within c = absurd (omega arith)
named_complete names b (r ∷ rs) zero q n within c =
    let e : b + 0 ≡ b = omega arith in
    rw e (Contains-append_left (map (named_at b) (names r)) (named_from names (b + 1) rs) (named_at b n)
    (contains_map_in (named_at b) (names r) n c))
named_complete names b (r ∷ rs) (suc i) q n within c =
    let e : b + suc i ≡ b + 1 + i = omega arith in
    rw e (Contains-append_right (map (named_at b) (names r)) (named_from names (b + 1) rs) (named_at (b + 1 + i) n)
    (named_complete names (b + 1) rs i q n (omega arith) c))

pub keys_are : (names : Record → List (List ℕ)) (rs : List Record) → AreNamedIn names rs (named_from names 0 rs)
keys_are names rs = record {
  sound = λ k c. told k (named_sound names 0 rs k c);
  complete = λ i q n within c. (named_at (0 + i) n, named_complete names 0 rs i q n within c, refl, omega arith);
}
  where
    told : (k : NamedValue) → (0 ≤ k.place) × (k.place < 0 + length rs)
        × ((q : Record) → Contains (names (get_or rs (k.place - 0) q)) k.name)
        → (k.place < length rs) × ((q : Record) → Contains (names (get_or rs k.place q)) k.name)
    told k h = let e : k.place - 0 ≡ k.place = omega arith in (omega (arith, h.1), λ q. rw e at (h.2 q))

pub table_made : (ignore_case : Bool) (names : Record → List (List ℕ)) (test : List ℕ → Record → Bool)
    (rs : List Record) (made ks : List NamedValue) → AreNamedIn names rs made → IsPermutation made ks
    → AllPairs (λ a b. named_cmp false ignore_case a b ≢ Greater) ks
    → ((n : List ℕ) (r : Record) → Contains (names r) n → test n r ≡ true)
    → ((name : List ℕ) (r : Record) → test name r ≡ true
    → (n : List ℕ) × Contains (names r) n × (folded ignore_case n ≡ folded ignore_case name))
    → ((a b : List ℕ) (r : Record) → folded ignore_case a ≡ folded ignore_case b → test a r ≡ test b r)
    → IsTableOf false ignore_case test rs ks
table_made ignore_case names test rs made ks is moved ordered passes has alike = record {
  within = λ j d l. (told j d l).0;
  sound = λ j d q l. passes (get_or ks j d).name (get_or rs (get_or ks j d).place q) ((told j d l).1 q);
  complete = λ name i q within t.
      let h = has name (get_or rs i q) t in
      let k = is.complete i q h.0 within h.1 in
      (k.0, Contains-permutation made ks k.0 moved k.1, ap (folded ignore_case) k.2 ∙ h.2, k.3);
  alike = alike;
  ordered = ordered;
}
  where
    told : (j : ℕ) (d : NamedValue) → j < length ks → ((get_or ks j d).place < length rs)
        × ((q : Record) → Contains (names (get_or rs (get_or ks j d).place q)) (get_or ks j d).name)
    told j d l = is.sound (get_or ks j d)
        (Contains-permutation ks made (get_or ks j d) (IsPermutation-sym made ks moved) (Contains-get_or ks j d l))

-- ---- paths

pub same_from : (a b : List ℕ) → bytes_eq a b ≡ true → a ≡ b
same_from a b e = (bytes_decides a b).0 e

pub same_to : (a b : List ℕ) → a ≡ b → bytes_eq a b ≡ true
same_to a b e = (bytes_decides a b).1 e

pub paths_pass : (ignore_case : Bool) (n : List ℕ) (r : Record) → Contains (path_names r) n
    → is_same ignore_case r.path n ≡ true
paths_pass ignore_case n r c =
    same_to (folded ignore_case r.path) (folded ignore_case n) (ap (folded ignore_case) (contains_one r.path n c))

pub paths_have : (ignore_case : Bool) (name : List ℕ) (r : Record) → is_same ignore_case r.path name ≡ true
    → (n : List ℕ) × Contains (path_names r) n × (folded ignore_case n ≡ folded ignore_case name)
paths_have ignore_case name r t =
    (r.path, (0, omega arith, refl), same_from (folded ignore_case r.path) (folded ignore_case name) t)

pub paths_alike : (ignore_case : Bool) (a b : List ℕ) (r : Record) → folded ignore_case a ≡ folded ignore_case b
    → is_same ignore_case r.path a ≡ is_same ignore_case r.path b
paths_alike ignore_case a b r e = ap (bytes_eq (folded ignore_case r.path)) e

-- ---- directories

lower_slash : (x : ℕ) → to_ascii_lowercase x ≡ 47 → x ≡ 47
lower_slash x h = grind (arith, nat_tests, h)

pub slash_from : (ignore_case : Bool) (path : List ℕ) (m : ℕ) → get_or (folded ignore_case path) m 0 ≡ 47
    → get_or path m 0 ≡ 47
slash_from false path m e = e
slash_from true path m e = lower_slash (get_or path m 0) (sym (get_or-map to_ascii_lowercase path m 0) ∙ e)

pub slash_to : (ignore_case : Bool) (path : List ℕ) (m : ℕ) → get_or path m 0 ≡ 47
    → get_or (folded ignore_case path) m 0 ≡ 47
slash_to false path m e = e
slash_to true path m e = get_or-map to_ascii_lowercase path m 0 ∙ ap to_ascii_lowercase e

pub folded_take : (ignore_case : Bool) (m : ℕ) (path : List ℕ)
    → folded ignore_case (take m path) ≡ take m (folded ignore_case path)
folded_take false m path = refl
folded_take true m path = sym (take-map to_ascii_lowercase m path)

pub folded_length : (ignore_case : Bool) (path : List ℕ) → length (folded ignore_case path) ≡ length path
folded_length false path = refl
folded_length true path = length-map path to_ascii_lowercase

pub begins_at : (p xs : List ℕ) (c : ℕ) → starts_with nat_eq xs (p ++ c ∷ []) ≡ true
    → (length p < length xs) × (get_or xs (length p) 0 ≡ c) × (take (length p) xs ≡ p)
begins_at p xs c t =
    let n : length (p ++ c ∷ []) ≡ length p + 1 = length-append p (c ∷ []) in
    let e : p ++ c ∷ [] ≡ take (length (p ++ c ∷ [])) xs = same_from (p ++ c ∷ []) (take (length (p ++ c ∷ [])) xs) t in
    let inside : length p < length xs = omega (arith, ap length e, length-take (length (p ++ c ∷ [])) xs) in (
      inside,
      sym (get_or-take (length (p ++ c ∷ [])) xs (length p) 0 (omega arith))
          ∙ sym (ap (λ (ys : List ℕ). get_or ys (length p) 0) e) ∙ get_or_push p c 0 (length p) refl,
      sym (take-take (length p) (length (p ++ c ∷ [])) xs (omega arith)) ∙ sym (ap (take (length p)) e)
          ∙ take_at p (c ∷ []) (length p) refl,
    )

pub begins_to : (xs : List ℕ) (m c : ℕ) → m < length xs → get_or xs m 0 ≡ c
    → starts_with nat_eq xs (take m xs ++ c ∷ []) ≡ true
begins_to [] m c within e = absurd (omega arith)
begins_to (x ∷ xs) zero c within e = let t : nat_eq c x ≡ true = grind (arith, nat_tests, e) in rw t refl
begins_to (x ∷ xs) (suc m) c within e =
    let t : nat_eq x x ≡ true = grind (arith, nat_tests) in
    rw t (begins_to xs m c (omega arith) e)

pub or_cases : (a b : Bool) → (a || b) ≡ true → (a ≡ true) ⊎ (b ≡ true)
or_cases true b e = inl refl
or_cases false b e = inr e

pub or_left : (a b : Bool) → a ≡ true → (a || b) ≡ true
or_left a b e = rw e refl

pub or_right : (a b : Bool) → b ≡ true → (a || b) ≡ true
or_right true b e = refl
or_right false b e = e

pub and_both : (a b : Bool) → (a && b) ≡ true → (a ≡ true) × (b ≡ true)
and_both true b e = (refl, e)
and_both false b e = cc

pub and_to : (a b : Bool) → a ≡ true → b ≡ true → (a && b) ≡ true
and_to a b e f = rw (e, f) refl

pub directories_alike : (ignore_case : Bool) (a b : List ℕ) (r : Record) → folded ignore_case a ≡ folded ignore_case b
    → stands_in_folded ignore_case a r ≡ stands_in_folded ignore_case b r
directories_alike ignore_case a b r e = ap (λ (x : List ℕ). (is_directory r && bytes_eq (folded ignore_case r.path) x)
    || starts_with nat_eq (folded ignore_case r.path) (x ++ 47 ∷ [])) e

pub path_keys_length : (i : ℕ) (rs : List Record) → length (named_from path_names i rs) ≡ length rs
path_keys_length i [] = refl
path_keys_length i (r ∷ rs) = ap suc (path_keys_length (i + 1) rs)
