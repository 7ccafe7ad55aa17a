use Rattle.std.proofs.Common.{List, All, Contains, refl, subst}
use Rattle.std.specs.Option.{option_map}
use Rattle.ext_tree.specs.Tree.{node_of}
use Rattle.entry_list.specs.Record.{Record}
use Rattle.tree_encode.specs.Refusals.{HasPathPrefix}
use Rattle.tree_encode.proofs.Beside.{told_below, told_beside}
use Rattle.tree_encode.proofs.tree_ids.given_beside.Goals as goal

pub returns-then-has_entry_below : goal.returns-then-has_entry_below
returns-then-has_entry_below c = λ kind rs names is p g.
    let b = c.if-has_entry_below.ensures.yes refl in
    told_below kind rs names c.args.parent.now p b.0 (subst (λ (l : List Record). Contains l b.0) is b.1) b.2

pub returns : goal.returns
returns c = λ kind rs names is p g.
    told_beside kind rs names (option_map (λ t. node_of t.now) c.args.given) c.args.parent.now p
    (subst (All (λ r. HasPathPrefix r.path c.args.parent.now → ⊥)) is (c.if-has_entry_below.ensures.no refl)) g
