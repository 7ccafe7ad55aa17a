-- Paths below a front, by the entries of a tree whose names they begin with.
use Rattle.std.proofs.Common.{◌≡◌, ◌≢◌, ℕ, suc, ◌≤◌, ◌⊎◌, inl, inr, Bool, true, false, cond, List, [], ◌∷◌, ◌++◌}
use Rattle.std.proofs.Common.{length, get_or, All, AllPairs, refl, ap, ◌∙◌, arith}
use Rattle.std.specs.Ordering.{nat_cmp, ordering_then}
use Rattle.std.specs.declared.cmp.Ordering.{Ordering}
use Rattle.std.specs.declared.cmp.Ordering.TheVariants.{Less, Equal, Greater}
use Rattle.std.proofs.lemmas.Cmp.{tied_itself, nat_cmp_total}
use Rattle.std.proofs.lemmas.List.{length-append, append-nil, append_assoc}
use Rattle.std.proofs.lemmas.List.Elements.{All-head, All-tail, All-append}
use Rattle.std.proofs.lemmas.List.Kept.{AllPairs-cons}
use Rattle.std.proofs.lemmas.Map.Lookups.{exact_unsigned}
use Rattle.index_parts.specs.TreeObject.{TreeEntry, is_tree_mode}
use Rattle.entry_list.specs.Order.{path_cmp, record_cmp, IsStrictlyOrdered}
use Rattle.entry_list.specs.Record.{Record}
use Rattle.entry_list.specs.TreeOrder.{sorted_name}

-- ---- bytes that are less than others

pub behind_front : (front a b : List ℕ) → path_cmp a b ≡ Less → path_cmp (front ++ a) (front ++ b) ≡ Less
behind_front [] a b e = e
behind_front (x ∷ front) a b e = rw (tied_itself nat_cmp_total x) (behind_front front a b e)

pub begun_first : (a : List ℕ) (h : ℕ) (c : List ℕ) → path_cmp a (a ++ h ∷ c) ≡ Less
begun_first [] h c = refl
begun_first (x ∷ a) h c = rw (tied_itself nat_cmp_total x) (begun_first a h c)

-- whatever is appended to both, the first bytes are less than the second
abbrev Differ : List ℕ → List ℕ → Type 0
Differ a b = (x y : List ℕ) → path_cmp (a ++ x) (b ++ y) ≡ Less

-- the second bytes are the first and more
abbrev Begins : List ℕ → List ℕ → Type 0
Begins a b = (h : ℕ) × (c : List ℕ) × (b ≡ a ++ h ∷ c)

differ_or_begin : (a b : List ℕ) → path_cmp a b ≡ Less → Differ a b ⊎ Begins a b
differ_or_begin [] [] e = absurd cc
differ_or_begin [] (h ∷ c) e = inr (h, c, refl)
differ_or_begin (p ∷ a) [] e = absurd cc
differ_or_begin (p ∷ a) (q ∷ b) e = by (differ_or_begin a b) (nat_cmp p q) refl e
  where
    more : p ≡ q → nat_cmp p q ≡ Equal → Differ a b ⊎ Begins a b → Differ (p ∷ a) (q ∷ b) ⊎ Begins (p ∷ a) (q ∷ b)
    more same is (inl apart) = inl (λ x y. rw is (apart x y))
    more same is (inr begun) = inr (begun.0, begun.1, rw same (ap (λ (l : List ℕ). q ∷ l) begun.2))

    by : (path_cmp a b ≡ Less → Differ a b ⊎ Begins a b) → (o : Ordering) → nat_cmp p q ≡ o
        → ordering_then o (path_cmp a b) ≡ Less → Differ (p ∷ a) (q ∷ b) ⊎ Begins (p ∷ a) (q ∷ b)
    by rest Less is less = inl (λ x y. rw is refl)
    by rest Greater is less = absurd cc
    by rest Equal is less = more (exact_unsigned p q is) is (rest less)

-- ---- the one slash of a name

-- a name without a slash, and at most one byte after it, have no slash before their last byte
slash_is_last : (name front tail : List ℕ) (h : ℕ) (c : List ℕ) → All (λ b. b ≢ 47) name → length tail ≤ 1
    → name ++ tail ≡ front ++ 47 ∷ h ∷ c → ⊥
slash_is_last [] front tail h c apart short e =
    omega (arith, short, ap (λ (l : List ℕ). length l) e, length-append front (47 ∷ h ∷ c))
slash_is_last (b ∷ name) [] tail h c apart short e =
    let slash : b ≡ 47 = cc in
    All-head (λ x. x ≢ 47) b name apart slash
slash_is_last (b ∷ name) (x ∷ front) tail h c apart short e =
    let rest : name ++ tail ≡ front ++ 47 ∷ h ∷ c = cc in
    slash_is_last name front tail h c (All-tail (λ x. x ≢ 47) b name apart) short rest

-- ---- paths of two entries

-- What may follow the sorted name of an entry in a path: nothing after that of a leaf.
abbrev pub MayFollow : TreeEntry → List ℕ → Type 0
MayFollow e x = is_tree_mode e.mode ≡ false → x ≡ []

-- what follows the name in a sorted name
abbrev slash_of : Bool → List ℕ
slash_of b = cond b (47 ∷ []) []

at_most_one : (b : Bool) → length (slash_of b) ≤ 1
at_most_one true = omega arith
at_most_one false = omega arith

module _ (d e : TreeEntry) (apart : All (λ b. b ≢ 47) e.name)
    (less : path_cmp (sorted_name d) (sorted_name e) ≡ Less) where
  tails_less : (x y : List ℕ) → MayFollow d x → path_cmp (sorted_name d ++ x) (sorted_name e ++ y) ≡ Less
  tails_less x y may = by (differ_or_begin (sorted_name d) (sorted_name e) less)
    where
      begun : (b : Bool) → is_tree_mode d.mode ≡ b → Begins (sorted_name d) (sorted_name e)
          → path_cmp (sorted_name d ++ x) (sorted_name e ++ y) ≡ Less
      begun true is more =
          let whole : sorted_name d ≡ d.name ++ 47 ∷ [] = rw is refl in
          let e_is : sorted_name e ≡ d.name ++ 47 ∷ more.0 ∷ more.1 = more.2
          ∙ ap (λ (l : List ℕ). l ++ more.0 ∷ more.1) whole ∙ append_assoc d.name (47 ∷ []) (more.0 ∷ more.1) in
          absurd (slash_is_last e.name d.name (slash_of (is_tree_mode e.mode)) more.0 more.1 apart
          (at_most_one (is_tree_mode e.mode)) e_is)
      begun false is more =
          let none : sorted_name d ++ x ≡ sorted_name d =
          ap (λ (l : List ℕ). sorted_name d ++ l) (may is) ∙ append-nil (sorted_name d) in
          let e_is : sorted_name e ++ y ≡ sorted_name d ++ more.0 ∷ (more.1 ++ y) =
          ap (λ (l : List ℕ). l ++ y) more.2 ∙ append_assoc (sorted_name d) (more.0 ∷ more.1) y in
          rw (none, e_is) (begun_first (sorted_name d) more.0 (more.1 ++ y))

      by : Differ (sorted_name d) (sorted_name e) ⊎ Begins (sorted_name d) (sorted_name e)
          → path_cmp (sorted_name d ++ x) (sorted_name e ++ y) ≡ Less
      by (inl differ) = differ x y
      by (inr more) = begun (is_tree_mode d.mode) refl more

  -- after one front, all that begins with d's sorted name is less than all that begins with e's
  pub paths_less : (front x y : List ℕ) → MayFollow d x
      → path_cmp (front ++ (sorted_name d ++ x)) (front ++ (sorted_name e ++ y)) ≡ Less
  paths_less front x y may = behind_front front _ _ (tails_less x y may)

-- ---- records, one list after another

pairs_append : {X : Type 0} (R : X → X → Type 0) (xs ys : List X) → AllPairs R xs → AllPairs R ys
    → All (λ x. All (R x) ys) xs → AllPairs R (xs ++ ys)
pairs_append R [] ys a b c = b
pairs_append R (x ∷ xs) ys a b c =
    let head : All (R x) xs = λ k d within. a 0 (suc k) d (omega arith) (omega arith) in
    let tail : AllPairs R xs = λ i j d lt within. a (suc i) (suc j) d (omega arith) (omega arith) in
    AllPairs-cons R x (xs ++ ys) (All-append (R x) xs ys head (All-head (λ z. All (R z) ys) x xs c))
    (pairs_append R xs ys tail b (All-tail (λ z. All (R z) ys) x xs c))

-- each record's path is below those of all records of the other list
abbrev pub StandBefore : List Record → List Record → Type 0
StandBefore rs qs = All (λ r. All (λ q. path_cmp r.path q.path ≡ Less) qs) rs

below_paths : (r q : Record) → path_cmp r.path q.path ≡ Less → record_cmp r q ≡ Less
below_paths r q e = rw e refl

pub ordered_behind : (rs qs : List Record) → IsStrictlyOrdered rs → IsStrictlyOrdered qs → StandBefore rs qs
    → IsStrictlyOrdered (rs ++ qs)
ordered_behind rs qs a b before = record {
  less = pairs_append (λ r q. record_cmp r q ≡ Less) rs qs a.less b.less
      (λ k d within j c inside. below_paths (get_or rs k d) (get_or qs j c) (before k d within j c inside));
}
