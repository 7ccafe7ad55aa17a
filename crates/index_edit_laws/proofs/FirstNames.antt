-- The first name of a path: the bytes before its first slash, or all of it.
use Rattle.std.proofs.Common.{◌≡◌, ℕ, suc, ◌+◌, ◌≤◌, ◌==◌, List, ◌∷◌, ◌++◌, Bool, true, false, cond, ltb}
use Rattle.std.proofs.Common.{take, drop, length}
use Rattle.std.proofs.Common.{Some, None, get_or, refl, sym, ap, subst, ◌∙◌, append_assoc, arith}
use Rattle.std.proofs.Common.{length-take}
use Rattle.std.specs.Prelude.{◌≢◌, position}
use Rattle.std.specs.List.{position_or_len}
use Rattle.std.specs.Cmp.Lexicographic.{slice_cmp}
use Rattle.std.specs.Ordering.{is_eq, nat_cmp}
use Rattle.std.specs.declared.cmp.Ordering.{Ordering}
use Rattle.std.specs.declared.cmp.Ordering.TheVariants.{Less, Equal, Greater}
use Rattle.std.proofs.lemmas.Bool.{eqb-false, eqb-true, ltb-false}
use Rattle.std.proofs.lemmas.Cmp.{nat_list_cmp_total, tied_itself}
use Rattle.std.proofs.lemmas.Map.Lookups.{exact_bytes}
use Rattle.std.proofs.lemmas.List.{get_or-take, take-append-drop}
use Rattle.std.proofs.lemmas.List.Quantifiers.{position-Some}
use Rattle.std.proofs.lemmas.List.Sums.{fails_before_first}
use Rattle.std.proofs.Math.Seq.{drop-cons}
use Rattle.ext_tree.specs.Tree.{Node, node_name}
use Rattle.ext_tree.specs.Invalidation.{is_node_named}
use Rattle.index_parts.specs.Path.{slash_of}
use Rattle.tree_encode.specs.TreeIds.{behind}
use Rattle.tree_encode.proofs.Behinds.{behind_at}
use Rattle.tree_encode.proofs.PathNames.{NoSlash, first_slash}

-- no other name is before a slash, however the path continues after one
pub record IsFirstName (path first : List ℕ) : Type 0 where
  pub alone : (name x y : List ℕ) → NoSlash name → path ++ 47 ∷ x ≡ name ++ 47 ∷ y → first ≡ name

-- ---- without a slash

pub nowhere : {X : Type 0} (p : X → Bool) (xs : List X) → position p xs ≡ None → length xs ≤ position_or_len p xs
nowhere p xs h = by (ltb (position_or_len p xs) (length xs)) refl h
  where
    by : (b : Bool) → ltb (position_or_len p xs) (length xs) ≡ b → cond b (Some (position_or_len p xs)) None ≡ None
        → length xs ≤ position_or_len p xs
    by true e k = absurd cc
    by false e k = ltb-false (position_or_len p xs) (length xs) e

pub no_slash : (path : List ℕ) → slash_of path ≡ None → NoSlash path
no_slash path s k d within =
    let far = nowhere (λ b. b == 47) path s in
    eqb-false (get_or path k d) 47 (fails_before_first (λ b. b == 47) path k d (omega (arith, far, within)))

pub whole_name : (path : List ℕ) → slash_of path ≡ None → IsFirstName path path
whole_name path s = record {
  alone = λ name x y n e. (first_slash path name x y (no_slash path s) n e).0;
}

-- ---- with one

pub front_no_slash : (path : List ℕ) (k : ℕ) → slash_of path ≡ Some k → NoSlash (take k path)
front_no_slash path k s i d within =
    let n = length-take k path in
    let here = (position-Some (λ b. b == 47) path k d s).2 i (omega (arith, within, n)) in
    subst (λ (b : ℕ). b ≢ 47) (sym (get_or-take k path i d (omega (arith, within, n))))
    (eqb-false (get_or path i d) 47 here)

pub split_at : (path : List ℕ) (k : ℕ) → slash_of path ≡ Some k → path ≡ take k path ++ 47 ∷ drop (k + 1) path
split_at path k s =
    let p = position-Some (λ b. b == 47) path k 0 s in
    let next : suc k ≡ k + 1 = omega arith in
    sym (take-append-drop k path)
    ∙ ap (λ (l : List ℕ). take k path ++ l) (drop-cons path k 0 p.0
    ∙ ap (λ (n : ℕ). get_or path k 0 ∷ drop n path) next
    ∙ ap (λ (b : ℕ). b ∷ drop (k + 1) path) (eqb-true (get_or path k 0) 47 p.1))

pub first_name : (path : List ℕ) (k : ℕ) → slash_of path ≡ Some k
    → IsFirstName path (take k path) × (behind (take k path) path ≡ Some (drop (k + 1) path))
first_name path k s =
    let front = take k path in
    let rest = drop (k + 1) path in
    let apart = front_no_slash path k s in
    let is = split_at path k s in (
      record {
        alone = λ name x y n e. (first_slash front name (rest ++ 47 ∷ x) y apart n
            (sym (append_assoc front (47 ∷ rest) (47 ∷ x)) ∙ ap (λ (l : List ℕ). l ++ 47 ∷ x) (sym is) ∙ e)).0;
      },
      ap (behind front) is ∙ behind_at front rest apart,
    )

-- ---- the node that has it

pub named_so : (name : List ℕ) (t : Node) → is_node_named name t ≡ true → node_name t ≡ name
named_so name t h = by (slice_cmp nat_cmp (node_name t) name) refl h
  where
    by : (o : Ordering) → slice_cmp nat_cmp (node_name t) name ≡ o → is_eq o ≡ true → node_name t ≡ name
    by Less e k = absurd cc
    by Equal e k = exact_bytes (node_name t) name e
    by Greater e k = absurd cc

pub other_name : (name : List ℕ) (t : Node) → is_node_named name t ≡ false → name ≢ node_name t
other_name name t h e =
    let tie : is_node_named name t ≡ true =
    ap is_eq (ap (slice_cmp nat_cmp (node_name t)) e ∙ tied_itself nat_list_cmp_total (node_name t)) in
    let clash : true ≡ false = sym tie ∙ h in
    absurd cc
