-- A node that is right counts no more than there are records.
use Rattle.std.proofs.Common.{◌≡◌, inl, inr, ℕ, ◌≤◌, List, [], ◌∷◌, ◌++◌, All, Bool, true, false, cond, not, length}
use Rattle.std.proofs.Common.{Option, Some, None, refl, sym, ap, ◌∙◌, arith}
use Rattle.std.specs.Prelude.{IfSome}
use Rattle.std.specs.List.{filter_map, list_any}
use Rattle.std.specs.Option.{option_map}
use Rattle.std.proofs.lemmas.List.Elements.{All-head, All-tail}
use Rattle.std.proofs.lemmas.List.Sums.{count_by-le-length, length-filter}
use Rattle.std.proofs.lemmas.Option.{same_Some}
use Rattle.index_parts.specs.declared.hash.Kind.{Kind}
use Rattle.index_parts.specs.declared.hash.ObjectId.{ObjectId}
use Rattle.ext_tree.specs.Sound.{CountAtMost, CountsAtMost}
use Rattle.ext_tree.specs.Tree.{Node, Nodes, node, none, more, node_name}
use Rattle.entry_list.specs.Record.{Record}
use Rattle.tree_encode.specs.Directory.{leaf_count}
use Rattle.tree_encode.specs.Staged.{Staged, is_unmerged, merged_in, staged_entry, staged_in}
use Rattle.tree_encode.specs.TreeIds.{AreRight, GivesTreeId, GivesId, IsRight, Spot, behind_all, moved, spots}
use Rattle.tree_encode.specs.TreeIds.{spots_below}
use Rattle.tree_encode.specs.TreeIds.{staged_at}
use Rattle.index_edit_laws.proofs.Parts.{All-back, All-front}

some_at_most : {X Y : Type 0} (h : X → Option Y) (xs : List X) → length (filter_map h xs) ≤ length xs
some_at_most h [] = omega arith
some_at_most h (x ∷ xs) = by (h x) refl (some_at_most h xs)
  where
    by : (o : Option _) → h x ≡ o → length (filter_map h xs) ≤ length xs
        → length (filter_map h (x ∷ xs)) ≤ length (x ∷ xs)
    by None e rest = rw e (omega (arith, rest))
    by (Some y) e rest = rw e (omega (arith, rest))

seen_at_most : (names : List (List ℕ)) (rs : List Record)
    → length (staged_at names (staged_in (merged_in rs))) ≤ length rs
seen_at_most names rs =
    let kept : Record → Bool = λ r. not (is_unmerged r.flags) in
    omega (
      arith,
      some_at_most (λ s. option_map (moved s) (behind_all names s.path)) (staged_in (merged_in rs)),
      some_at_most staged_entry (merged_in rs),
      length-filter kept rs,
      count_by-le-length kept rs,
    )

leaves_counted : (ss : List Staged) (count : ℕ) → leaf_count ss ≡ Some count → count ≡ length ss
leaves_counted ss count e = by (list_any (λ s. s.later) ss) e
  where
    by : (b : Bool) → cond b None (Some (length ss)) ≡ Some count → count ≡ length ss
    by true k = absurd cc
    by false k = sym (same_Some (length ss) count k)

given_count : (kind : Kind) (staged : List Staged) (names : List (List ℕ)) (id : ObjectId) (count : ℕ)
    → GivesId kind staged names id count → count ≡ length (staged_at names staged)
given_count kind staged names id count (inl m) = leaves_counted (staged_at names staged) count m.counted
given_count kind staged names id count (inr w) = w.1 ∙ sym (ap length w.0)

given_within : (kind : Kind) (rs : List Record) (names : List (List ℕ)) (id : ObjectId) (count : ℕ)
    → GivesTreeId kind rs names id count → count ≤ length rs
given_within kind rs names id count g =
    omega (arith, given_count kind (staged_in (merged_in rs)) names id count g.1, seen_at_most names rs)

right_within : (kind : Kind) (rs : List Record) (names : List (List ℕ)) (id : ObjectId) (o : Option ℕ)
    → IfSome o (λ count. GivesTreeId kind rs names id count) → IfSome o (λ count. count ≤ length rs)
right_within kind rs names id None h = tt
right_within kind rs names id (Some count) h = given_within kind rs names id count h

module _ (kind : Kind) (rs : List Record) where
  mutual
    node_within : (names : List (List ℕ)) (t : Node) → All (IsRight kind rs) (spots names t)
        → CountsAtMost (length rs) t
    node_within names (node name id count ts) h =
        let here : Spot = record { names = names; id = id; count = count } in (
          right_within kind rs names id count (All-head (IsRight kind rs) here (spots_below names ts) h),
          nodes_within names ts (All-tail (IsRight kind rs) here (spots_below names ts) h),
        )

    nodes_within : (names : List (List ℕ)) (ts : Nodes) → All (IsRight kind rs) (spots_below names ts)
        → CountAtMost (length rs) ts
    nodes_within names none h = tt
    nodes_within names (more t ts) h =
        let here = spots (names ++ node_name t ∷ []) t in (
          node_within (names ++ node_name t ∷ []) t (All-front (IsRight kind rs) here (spots_below names ts) h),
          nodes_within names ts (All-back (IsRight kind rs) here (spots_below names ts) h),
        )

pub counts_within : (kind : Kind) (rs : List Record) (t : Node) → AreRight kind rs t → CountsAtMost (length rs) t
counts_within kind rs t h = node_within kind rs [] t h
