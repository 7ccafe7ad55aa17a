-- The events of a directory, and of those in it.
use Rattle.std.proofs.Common.{◌≡◌, ℕ, ◌+◌, List, [], ◌∷◌, ◌++◌, map, refl, sym, ap, ◌∙◌}
use Rattle.std.specs.List.{enumerate_from, flat_map}
use Rattle.std.proofs.lemmas.List.Concat.{flat_map-cons}
use Rattle.ext_tree.proofs.TreeLengths.{number}
use Rattle.ext_tree.specs.Tree.{Node, node_of, node_step, nodes_from}
use Rattle.ext_tree.specs.declared.Tree.{Tree}
use Rattle.ext_tree.specs.declared.Tree.TheFolds.{fold_out-Tree}
use Rattle.ext_tree.specs.declared.Tree.TheViews.{out-Tree}
use Rattle.view_events.specs.declared.event.Item.TheVariants as items
use Rattle.view_events.specs.declared.event.Where.{Where}
use Rattle.view_events.specs.declared.event.Where.TheVariants.{Element}
use Rattle.view_events.specs.Event.{Event, listed}
use Rattle.view_events.specs.Trees.{all_tree_events, below, closed_events, opened_events, tree_events, tree_opened}

-- the events of a directory at a place in another, by the depth of the members of that
abbrev pub placed_tree : ℕ → ℕ → Tree → List Event
placed_tree depth place t = tree_events (Element items.Child (below depth 1) place) (below depth 2) (node_of t)

all_placed : (depth place : ℕ) (ts : List Tree) → all_tree_events place depth (nodes_from (map node_of ts))
    ≡ flat_map (λ (p : ℕ × Tree). placed_tree depth p.0 p.1) (enumerate_from place ts)
all_placed depth place [] = refl
all_placed depth place (t ∷ ts) =
    ap (λ (l : List Event). placed_tree depth place t ++ l) (all_placed depth (place + 1) ts)
    ∙ sym (flat_map-cons (λ (p : ℕ × Tree). placed_tree depth p.0 p.1) (place, t) (enumerate_from (place + 1) ts))

pub tree_is : (at : Where) (depth : ℕ) (t : Tree) (ts : List Tree) → ts ≡ (out-Tree t).children.items
    → (tree_opened at depth t ++ listed (placed_tree depth) ts) ++ closed_events at depth
    ≡ tree_events at depth (node_of t)
tree_is at depth t ts e =
    let v = out-Tree t in
    let kids = v.children.items in
    ap (λ (us : List Tree). (tree_opened at depth t ++ listed (placed_tree depth) us) ++ closed_events at depth) e
    ∙ ap (λ (l : List Event). (tree_opened at depth t ++ l) ++ closed_events at depth)
    (sym (all_placed depth 0 kids))
    ∙ ap (λ (n : ℕ). (opened_events at depth v.name.items v.id v.num_entries n
    ++ all_tree_events 0 depth (nodes_from (map node_of kids))) ++ closed_events at depth) (sym (number kids))
    ∙ sym (ap (tree_events at depth) (fold_out-Tree Node node_step t))
