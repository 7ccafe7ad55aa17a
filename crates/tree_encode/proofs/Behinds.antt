-- What is below a directory, by the names that lead to it.
use Rattle.std.proofs.Common.{◌≡◌, ℕ, List, [], ◌∷◌, ◌++◌, All, Bool, true, false, map, Option, Some, None, eqb, refl}
use Rattle.std.proofs.Common.{sym, ap, ◌∙◌, append_assoc}
use Rattle.std.specs.Prelude.{◌≢◌, if◌then◌else◌}
use Rattle.std.proofs.lemmas.Bool.{eqb-true, eqb-false, eq-eqb, ne_eqb}
use Rattle.std.specs.Option.{option_and_then, option_map}
use Rattle.std.proofs.lemmas.List.Elements.{All-cons, All-head, All-tail, All-nil, filter_map-append}
use Rattle.std.proofs.lemmas.Option.{same_Some}
use Rattle.tree_encode.specs.Staged.{Staged}
use Rattle.tree_encode.specs.TreeIds.{behind, behind_all, moved, staged_at}
use Rattle.tree_encode.proofs.OneTree.{Within, slashed}
use Rattle.tree_encode.proofs.PathNames.{NoSlash}
use Rattle.tree_encode.proofs.Pushes.{under}

-- ---- one name

pub behind_at : (name x : List ℕ) → NoSlash name → behind name (name ++ 47 ∷ x) ≡ Some x
behind_at [] x h = refl
behind_at (c ∷ name) x h =
    let n : eqb c 47 ≡ false = ne_eqb c 47 (All-head (λ b. b ≢ 47) c name h) in
    let s : eqb c c ≡ true = eq-eqb c c refl in
    rw (n, s) (behind_at name x (All-tail (λ b. b ≢ 47) c name h))

abbrev Parts : List ℕ → List ℕ → List ℕ → Type 0
Parts name path x = (path ≡ name ++ 47 ∷ x) × NoSlash name

slash_first : (b : ℕ) (path x : List ℕ) (r : Bool) → eqb b 47 ≡ r → (if r then Some path else None) ≡ Some x
    → Parts [] (b ∷ path) x
slash_first b path x true s e = (
  ap (λ (z : ℕ). z ∷ path) (eqb-true b 47 s)
      ∙ ap (λ (l : List ℕ). 47 ∷ l) (same_Some path x e),
  All-nil (λ b. b ≢ 47),
)
slash_first b path x false s e = absurd cc

byte_first : (c b : ℕ) (name path x : List ℕ) (r q : Bool) → eqb b 47 ≡ r → eqb b c ≡ q
    → (if r then None else if q then behind name path else None) ≡ Some x
    → (behind name path ≡ Some x → Parts name path x) → Parts (c ∷ name) (b ∷ path) x
byte_first c b name path x true q s t e more = absurd cc
byte_first c b name path x false false s t e more = absurd cc
byte_first c b name path x false true s t e more =
    let p = more e in
    let same : b ≡ c = eqb-true b c t in (
      ap (λ (z : ℕ). z ∷ path) same ∙ ap (λ (l : List ℕ). c ∷ l) p.0,
      All-cons (λ b. b ≢ 47) c name (λ z. eqb-false b 47 s (same ∙ z)) p.1,
    )

pub behind_is : (name path x : List ℕ) → behind name path ≡ Some x → Parts name path x
behind_is [] [] x e = absurd cc
behind_is (c ∷ name) [] x e = absurd cc
behind_is [] (b ∷ path) x e = slash_first b path x (eqb b 47) refl e
behind_is (c ∷ name) (b ∷ path) x e =
    byte_first c b name path x (eqb b 47) (eqb b c) refl refl e (λ g. behind_is name path x g)

append_slash : (name x : List ℕ) → slashed name ++ x ≡ name ++ 47 ∷ x
append_slash name x = append_assoc name (47 ∷ []) x

-- A path that has no rest after the name.
not_behind : (name path : List ℕ) → ((x : List ℕ) → NoSlash name → path ≡ name ++ 47 ∷ x → ⊥) → behind name path ≡ None
not_behind name path h = by (behind name path) refl
  where
    by : (o : Option (List ℕ)) → behind name path ≡ o → o ≡ None
    by None e = refl
    by (Some x) e = let p = behind_is name path x e in absurd (h x p.1 p.0)

-- ---- names, one after another

more_in : (names : List (List ℕ)) (name : List ℕ) (o : Option (List ℕ))
    → ((x : List ℕ) → behind_all (names ++ name ∷ []) x ≡ option_and_then (behind_all (name ∷ [])) (behind_all names x))
    → option_and_then (behind_all (names ++ name ∷ [])) o
    ≡ option_and_then (behind_all (name ∷ [])) (option_and_then (behind_all names) o)
more_in names name None h = refl
more_in names name (Some x) h = h x

pub behind_more : (names : List (List ℕ)) (name path : List ℕ)
    → behind_all (names ++ name ∷ []) path ≡ option_and_then (behind_all (name ∷ [])) (behind_all names path)
behind_more [] name path = refl
behind_more (n ∷ names) name path = more_in names name (behind n path) (λ x. behind_more names name x)

-- The list, with one more staged entry at its start if that has a path.
abbrev pub in_front : Staged → Option (List ℕ) → List Staged → List Staged
in_front s None ss = ss
in_front s (Some p) ss = moved s p ∷ ss

pub at_first : (names : List (List ℕ)) (s : Staged) (ss : List Staged)
    → staged_at names (s ∷ ss) ≡ in_front s (behind_all names s.path) (staged_at names ss)
at_first names s ss = by (behind_all names s.path) refl
  where
    by : (o : Option (List ℕ)) → behind_all names s.path ≡ o
        → staged_at names (s ∷ ss) ≡ in_front s o (staged_at names ss)
    by None e = rw e refl
    by (Some p) e = rw e refl

one_more : (names : List (List ℕ)) (name : List ℕ) (s : Staged) (ss : List Staged) (o : Option (List ℕ))
    → behind_all names s.path ≡ o → staged_at (names ++ name ∷ []) ss ≡ staged_at (name ∷ []) (staged_at names ss)
    → in_front s (option_and_then (behind_all (name ∷ [])) o) (staged_at (names ++ name ∷ []) ss)
    ≡ staged_at (name ∷ []) (in_front s o (staged_at names ss))
one_more names name s ss None e rest = rest
one_more names name s ss (Some p) e rest = ap (in_front s (behind_all (name ∷ []) p)) rest
    ∙ moved_twice (behind_all (name ∷ []) p) ∙ sym (at_first (name ∷ []) (moved s p) (staged_at names ss))
  where
    moved_twice : (q : Option (List ℕ)) → in_front s q (staged_at (name ∷ []) (staged_at names ss))
        ≡ in_front (moved s p) q (staged_at (name ∷ []) (staged_at names ss))
    moved_twice None = refl
    moved_twice (Some x) = refl

pub at_more : (names : List (List ℕ)) (name : List ℕ) (ss : List Staged)
    → staged_at (names ++ name ∷ []) ss ≡ staged_at (name ∷ []) (staged_at names ss)
at_more names name [] = refl
at_more names name (s ∷ ss) =
    at_first (names ++ name ∷ []) s ss
    ∙ ap (λ (o : Option (List ℕ)). in_front s o (staged_at (names ++ name ∷ []) ss)) (behind_more names name s.path)
    ∙ one_more names name s ss (behind_all names s.path) refl (at_more names name ss)
    ∙ ap (staged_at (name ∷ [])) (sym (at_first names s ss))

pub at_root : (ss : List Staged) → staged_at [] ss ≡ ss
at_root [] = refl
at_root (s ∷ ss) = ap (λ (l : List Staged). s ∷ l) (at_root ss)

-- ---- below a name

pub at_append : (name : List ℕ) (a b : List Staged)
    → staged_at (name ∷ []) (a ++ b) ≡ staged_at (name ∷ []) a ++ staged_at (name ∷ []) b
at_append name a b = filter_map-append (λ s. option_map (moved s) (behind_all (name ∷ []) s.path)) a b

pub at_under : (name : List ℕ) (ss : List Staged) → NoSlash name
    → staged_at (name ∷ []) (map (under (slashed name)) ss) ≡ ss
at_under name [] h = refl
at_under name (s ∷ ss) h =
    let e : behind name (slashed name ++ s.path) ≡ Some s.path =
    ap (behind name) (append_slash name s.path) ∙ behind_at name s.path h in
    rw e (ap (λ (l : List Staged). s ∷ l) (at_under name ss h))

-- The path isn't below the name, if that is a name.
abbrev pub Outside : List ℕ → Staged → Type 0
Outside name s = NoSlash name → Within name s → ⊥

pub at_none : (name : List ℕ) (ss : List Staged) → All (Outside name) ss → staged_at (name ∷ []) ss ≡ []
at_none name [] h = refl
at_none name (s ∷ ss) h =
    let e : behind name s.path ≡ None = not_behind name s.path (λ x n w. All-head (Outside name) s ss h n (x, w)) in
    rw e (at_none name ss (All-tail (Outside name) s ss h))

-- a whole directory, as it is seen from itself
pub at_itself : (name : List ℕ) (s : Staged) → NoSlash name → s.path ≡ slashed name
    → staged_at (name ∷ []) (s ∷ []) ≡ moved s [] ∷ []
at_itself name s h e =
    let b : behind name s.path ≡ Some [] = ap (behind name) e ∙ behind_at name [] h in
    rw b refl
