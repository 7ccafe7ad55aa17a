-- Nodes that are sorted by their names.
use Rattle.std.proofs.Common.{◌≡◌, ℕ, ◌+◌, ◌-◌, ◌<◌, List, [], ◌∷◌, Bor, length, get_or, map, false, sym, ap, ◌∙◌}
use Rattle.std.proofs.Common.{arith}
use Rattle.std.specs.Fn.{Called}
use Rattle.std.specs.List.Sorted.{IsSorted, IsSortedByClosure}
use Rattle.std.specs.Ordering.{is_lt}
use Rattle.std.specs.declared.cmp.Ordering.{Ordering}
use Rattle.std.proofs.lemmas.List.{get_or_default, length-map}
use denote.Param.Members.{Mut}
use Rattle.ext_tree.specs.Tree.{node_of, name_cmp}
use Rattle.ext_tree.specs.declared.Tree.{Tree}
use Rattle.ext_tree.proofs.Sorted.{read_map, sorted_at}

pub sorted_map : {F : Type 0} (g : Mut F (Bor Tree × (Bor Tree × Unit {0})) Ordering) (f : F) (xs : List Tree)
    → IsSortedByClosure g f xs
    → ((a : Bor Tree × (Bor Tree × Unit {0})) (r : Ordering) (f' : F) → Called g f a r f'
    → (r ≡ name_cmp (node_of a.0.now) (node_of a.1.0.now)) × (f' ≡ f)) → IsSorted name_cmp (map node_of xs)
sorted_map g f [] s h = λ k d low within. absurd (omega (arith, within))
sorted_map g f (x ∷ ys) s h = λ k d low within.
    let xs : List Tree = x ∷ ys in
    let inside : k + 1 < length xs = omega (arith, within, length-map xs node_of) in
    let a = get_or xs k x in
    let b = get_or xs (k + 1) x in
    let n : k + 1 - 1 ≡ k = omega arith in
    let ra : a ≡ get_or xs k a = get_or_default xs k x a (omega arith) in
    let rb : b ≡ get_or xs (k + 1) b = get_or_default xs (k + 1) x b inside in
    let rc : a ≡ get_or xs (k + 1 - 1) a = ra ∙ ap (λ (i : ℕ). get_or xs i a) (sym n) in
    let by : is_lt (name_cmp (node_of b) (node_of a)) ≡ false =
    sorted_at g f xs s h (k + 1) a b (omega arith) inside rc rb in
    let ma : get_or (map node_of xs) k d ≡ node_of a = read_map node_of xs k a d (omega arith) ra in
    let mb : get_or (map node_of xs) (k + 1) d ≡ node_of b = read_map node_of xs (k + 1) b d inside rb in
    rw (ma, mb) by
